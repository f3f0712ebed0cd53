-- The program's words are those of a class of Feeders from the start on, and stay so.
use Prim.Native.Nat.{ℕ, ◌≤◌}
use native.Mathlib.Omega.{arith}
use mathlib.Core.Path.{◌≡◌, refl}
use mathlib.Core.Bool.{true, false}
use mathlib.Core.List.{List, []}
use lib.ListN.{replicate}
use Rattle.model.specs.declared.Class.TheVariants.{Feeders}
use Rattle.model.specs.declared.Deliverer.TheVariants.{Feeder}
use Rattle.model.specs.declared.Draw.{Draw}
use Rattle.runs.specs.Combine.{EachOk, enc_up}
use Rattle.model.specs.Numbers.{top32}
use Rattle.model.specs.Settings.{shares_fit, limits_fit}
use Rattle.model.specs.Class.{class_of}
use Rattle.model.specs.Book.{draw_test, entries_in, units}
use Rattle.model.specs.BookWords.{distinct}
use Rattle.model.specs.Words.{class_width}
use Rattle.book.specs.ClassRules.{ClassIs, ClassTurns, drawn_class, returned}
use Rattle.book.proofs.Finding.{class_is}
use Rattle.book.proofs.Keeping.{drawn_stays, returned_stays}
use Rattle.book_try.specs.Fixed.{fixed, twelve}

pub starts : (ws : List ℕ) → ws ≡ replicate (class_width fixed) 0 → ClassIs fixed Feeders ws
unfolding shares_fit EachOk enc_up entries_in units distinct
starts ws e =
    class_is fixed Feeders ws refl
    (record { value = record { places = []; expired = 0 }; ok = (omega arith, ((omega arith, tt), refl)); words = e })

module _ (id s : ℕ) (ws : List ℕ) (w : ClassIs fixed Feeders ws) where
  pub asks : ClassIs fixed (class_of (Feeder id)) ws
  unfolding class_of
  asks = w

  pub take_asks : ClassIs fixed (class_of (Feeder id)) ws × (limits_fit twelve ≡ true)
  unfolding class_of limits_fit
  take_asks = (w, refl)

  pub take_keeps : s ≤ top32 → (last : List ℕ) (d : Draw)
      → ClassTurns fixed (class_of (Feeder id)) (drawn_class fixed twelve false (Feeder id) s) (λ h. draw_test fixed twelve false (Feeder id) s h.places) ws last d
      → ClassIs fixed Feeders last
  unfolding class_of limits_fit shares_fit
  take_keeps short last d t = drawn_stays fixed twelve false (Feeder id) s ws last d refl refl short w t

  pub untake_keeps : (last : List ℕ) → ClassTurns fixed (class_of (Feeder id)) (returned (Feeder id) s) (λ h. tt {0}) ws last (tt {0}) → ClassIs fixed Feeders last
  unfolding class_of shares_fit
  untake_keeps last t = returned_stays fixed (Feeder id) s ws last refl w t
