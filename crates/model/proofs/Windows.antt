-- Which window each kind of deliverer is judged by (specs/Windows). Assumes nothing.
use Prim.Native.Nat.{ℕ, ◌+◌}
use mathlib.Core.Path.{◌≡◌, refl, sym, ◌∙◌, ap}
use mathlib.Core.Bool.{Bool, true, false, not, ◌||◌}
use lib.Dec.{leb}
use borrow.Author.Tests.{leb-true, le-leb, not-false, not-true}
use Rattle.model.specs.declared.Deliverer.{Deliverer}
use Rattle.model.specs.declared.Usable.{Usable}
use Rattle.model.specs.declared.Verdict.{Verdict}
use Rattle.model.specs.declared.Verdict.TheVariants.{New, Late}
use Rattle.model.specs.declared.Window.{Window}
use Rattle.runs.proofs.Cases.{split_if, both_true, no}
use Rattle.model.specs.Numbers.{under}
use Rattle.model.specs.Generation.{as_read}
use Rattle.model.specs.Register.{Register, holds, any_class}
use Rattle.model.specs.Judge.{Ask, bucket_of, window_for, in_window, verdict}
use Rattle.model.specs.Windows.{Holds, JudgedBy, Windows}
use Rattle.model.proofs.Choice.{or_false, or_cases, true_false}

-- ---- what the test of a window says
pub window_holds : (w : Window) (stamp ms : ℕ) → in_window w stamp ms ≡ true → Holds w stamp ms
unfolding in_window
window_holds w stamp ms e =
    let p = both_true (leb ms (stamp + w.behind)) (leb stamp (ms + w.ahead)) e in
    record { not_behind = leb-true ms (stamp + w.behind) p.0; not_ahead = leb-true stamp (ms + w.ahead) p.1 }

holds_window : (w : Window) (stamp ms : ℕ) → Holds w stamp ms → in_window w stamp ms ≡ true
unfolding in_window
holds_window w stamp ms h = rw (le-leb ms (stamp + w.behind) h.not_behind, le-leb stamp (ms + w.ahead) h.not_ahead)

-- ---- a verdict
module _ (u : Usable) (reg : Register) (a : Ask) where
  abbrev held : Bool
  held = any_class (holds (bucket_of u a.stamp) (as_read a.fp)) reg.rings

  abbrev fine : Bool
  fine = in_window (window_for u a.who) a.stamp a.ms

  pub new_inside : verdict u reg a ≡ New → fine ≡ true
  unfolding verdict
  new_inside =
      split_if (λ (v : Verdict). v ≡ New → fine ≡ true) held (λ d e. no (cc))
      (λ d. split_if (λ (v : Verdict). v ≡ New → fine ≡ true) (under a.stamp reg.floor || not fine) (λ c e. no (cc))
      (λ c e. not-false fine (or_false (under a.stamp reg.floor) (not fine) c).1))

  late_outside : under a.stamp reg.floor ≡ false → verdict u reg a ≡ Late → fine ≡ false
  unfolding verdict
  late_outside above =
      split_if (λ (v : Verdict). v ≡ Late → fine ≡ false) held (λ d e. no (cc))
      (λ d. split_if (λ (v : Verdict). v ≡ Late → fine ≡ false) (under a.stamp reg.floor || not fine)
      (λ c e. or_cases (under a.stamp reg.floor) (not fine) c (λ p. true_false p above) (λ p. not-true fine p)) (λ c e. no (cc)))

-- ---- whoever has a window is judged by it
judged_by : (who : Deliverer) (u : Usable) (w : Window) → window_for u who ≡ w → JudgedBy who u w
judged_by who u w i = record {
  inside = λ reg a e n.
      let same = ap (window_for u) e ∙ i in
      window_holds w a.stamp a.ms (ap (λ (x : Window). in_window x a.stamp a.ms) (sym same) ∙ new_inside u reg a n);
  outside = λ reg a e above l h.
      let same = ap (window_for u) e ∙ i in
      true_false (ap (λ (x : Window). in_window x a.stamp a.ms) same ∙ holds_window w a.stamp a.ms h) (late_outside u reg a above l);
}

pub windows : Windows
unfolding window_for
windows = record {
  feeder = λ u id. judged_by _ u _ refl;
  peer = λ u id. judged_by _ u _ refl;
  relay = λ u. judged_by _ u _ refl;
  restored = λ u c. judged_by _ u _ refl;
}
