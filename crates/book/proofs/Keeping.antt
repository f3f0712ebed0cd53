-- A class's words stay those of a class: after a draw, and after a draw given back.
use Prim.Native.Nat.{ℕ, ◌≤◌}
use native.Mathlib.Omega.{arith}
use mathlib.Core.Path.{◌≡◌, refl}
use mathlib.Core.Bool.{Bool, true}
use mathlib.Core.List.{List}
use Rattle.model.specs.declared.Class.{Class}
use Rattle.model.specs.declared.Deliverer.{Deliverer}
use Rattle.model.specs.declared.Draw.{Draw}
use Rattle.model.specs.declared.Shares.{Shares}
use Rattle.model.specs.declared.Limits.{Limits}
use Rattle.runs.proofs.Cases.{by_test}
use Rattle.runs.proofs.Turns.{stays}
use Rattle.model.specs.Numbers.{top32}
use Rattle.model.specs.Settings.{shares_fit, limits_fit}
use Rattle.model.specs.Class.{class_of}
use Rattle.model.specs.Book.{Held, draw_test, granted}
use Rattle.model.specs.BookWords.{class_form}
use Rattle.model.proofs.Places.{enter_ok, give_back_ok}
use Rattle.book.specs.ClassRules.{ClassIs, ClassTurns, drawn_class, returned}
use Rattle.book.proofs.Finding.{class_is}
use Rattle.model.proofs.BookKept.{granted_is}

pub drawn_ok : (b : Shares) (l : Limits) (closed : Bool) (who : Deliverer) (s : ℕ) → 1 ≤ b.pairs → limits_fit l ≡ true → s ≤ top32
    → (h : Held) → (class_form b (class_of who)).Ok h → (class_form b (class_of who)).Ok (drawn_class b l closed who s h)
unfolding drawn_class
drawn_ok b l closed who s some fit short h ok =
    by_test (granted (draw_test b l closed who s h.places))
    (λ e. simp e (enter_ok b (class_of who) h ok l closed who s some fit refl short (granted_is (draw_test b l closed who s h.places) e)))
    (λ e. simp e ok)

pub class_stays : (b : Shares) (c : Class) (ws last : List ℕ) {R : Type 0} {f : Held → Held} {out : Held → R} {r : R} → shares_fit b ≡ true
    → ((h : Held) → (class_form b c).Ok h → (class_form b c).Ok (f h)) → ClassIs b c ws → ClassTurns b c f out ws last r → ClassIs b c last
class_stays b c ws last fit keeps w t = class_is b c last fit (stays keeps t w.is)

pub drawn_stays : (b : Shares) (l : Limits) (closed : Bool) (who : Deliverer) (s : ℕ) (ws last : List ℕ) (d : Draw) → shares_fit b ≡ true → limits_fit l ≡ true → s ≤ top32
    → (w : ClassIs b (class_of who) ws)
    → ClassTurns b (class_of who) (drawn_class b l closed who s) (λ h. draw_test b l closed who s h.places) ws last d → ClassIs b (class_of who) last
drawn_stays b l closed who s ws last d fit fits short w t =
    class_stays b (class_of who) ws last fit (drawn_ok b l closed who s (let k = w.two in omega arith) fits short) w t

pub returned_stays : (b : Shares) (who : Deliverer) (s : ℕ) (ws last : List ℕ) → shares_fit b ≡ true → (w : ClassIs b (class_of who) ws)
    → ClassTurns b (class_of who) (returned who s) (λ h. tt {0}) ws last (tt {0}) → ClassIs b (class_of who) last
returned_stays b who s ws last fit w t = class_stays b (class_of who) ws last fit (λ h ok. give_back_ok b (class_of who) h ok who s) w t
