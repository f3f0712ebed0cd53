-- judge_batch says Ahead for judge's Late where the front is past, and for nothing else (specs/AheadOnly). Assumes nothing.
use Prim.Native.Nat.{ℕ}
use mathlib.Core.Path.{◌≡◌, refl, sym, ◌∙◌, ap}
use mathlib.Core.Bool.{Bool, true, false, not, ◌||◌}
use mathlib.Core.List.{List}
use lib.Dec.{eqb}
use borrow.Author.Tests.{eqb-true, ltb-true, lt-ltb}
use Rattle.model.specs.Answer.{Said}
use Rattle.model.specs.declared.Manner.TheVariants.{Judged, JudgedBatch}
use Rattle.model.specs.declared.Settings.{Settings}
use Rattle.model.specs.declared.Usable.{Usable}
use Rattle.model.specs.declared.Verdict.{Verdict}
use Rattle.model.specs.declared.Verdict.TheVariants.{New, Duplicate, Late, Ahead, Full, Unjudged}
use Rattle.runs.proofs.Cases.{by_test, split_if, no}
use Rattle.model.specs.Numbers.{under}
use Rattle.model.specs.Settings.{settings_of, usable_at}
use Rattle.model.specs.Generation.{as_read}
use Rattle.model.specs.Register.{Register, holds, any_class}
use Rattle.model.specs.Judge.{Ask, bucket_of, window_for, in_window, front_past, unjudged, verdict, Judgement, judge, ahead_for, judge_batch}
use Rattle.model.specs.Words.{State}
use Rattle.model.specs.Calls.{Asking, ask_of, register_at, after_judged, asked, done_on, step, held_in, refused, reply, after}
use Rattle.model.specs.Codes.{went_through}
use Rattle.model.specs.AheadOnly.{judge_call, batch_call, FrontPast, AheadFor, AheadOnly}
use Rattle.model.proofs.Simulates.{refused_words, reply_is, after_is, through_zero}
use Rattle.model.proofs.NotNew.{same_refusal}

-- ---- judge never says Ahead
not_ahead : (u : Usable) (reg : Register) (a : Ask) → verdict u reg a ≡ Ahead → ⊥
unfolding verdict
not_ahead u reg a =
    split_if (λ (v : Verdict). v ≡ Ahead → ⊥) (any_class (holds (bucket_of u a.stamp) (as_read a.fp)) reg.rings) (λ d e. no (cc))
    (λ d. split_if (λ (v : Verdict). v ≡ Ahead → ⊥) (under a.stamp reg.floor || not (in_window (window_for u a.who) a.stamp a.ms))
    (λ c e. no (cc)) (λ c e. no (cc)))

judge_not_ahead : (u : Usable) (reg : Register) (a : Ask) → (judge u reg a).says ≡ Ahead → ⊥
unfolding judge
judge_not_ahead u reg a =
    split_if (λ (j : Judgement). j.says ≡ Ahead → ⊥) (unjudged reg a) (λ d e. no (cc)) (λ d e. not_ahead u _ a e)

-- ---- what Late is turned into
turned : (p : Bool) (v : Verdict) → (v ≡ Ahead → ⊥) → ahead_for p v ≡ Ahead → (v ≡ Late) × (p ≡ true)
unfolding ahead_for
turned p New n e = no (cc)
turned p Duplicate n e = no (cc)
turned true Late n e = (refl, refl)
turned false Late n e = no (cc)
turned p Ahead n e = absurd (n refl)
turned p Full n e = no (cc)
turned p Unjudged n e = no (cc)

unturned : (p : Bool) (v : Verdict) → (ahead_for p v ≡ Ahead → ⊥) → ahead_for p v ≡ v
unfolding ahead_for
unturned p New n = refl
unturned p Duplicate n = refl
unturned true Late n = absurd (n refl)
unturned false Late n = refl
unturned p Ahead n = refl
unturned p Full n = refl
unturned p Unjudged n = refl

said_is : (v w : Verdict) → Said v ≡ Said w → v ≡ w
said_is v w e = cc

-- ---- on words
module _ (st ws : List ℕ) (r : ℕ) (a : Asking) where
  abbrev s : Settings
  s = settings_of st

  abbrev t : State
  t = held_in s ws

  abbrev says : Verdict
  says = (judge (usable_at s r) (register_at r t) (ask_of a)).says

  abbrev past : Bool
  past = front_past (window_for (usable_at s r) (ask_of a).who) a.stamp a.ms

  -- both are refused alike
  judge_zero : refused st ws (batch_call r a) ≡ 0 → refused st ws (judge_call r a) ≡ 0
  judge_zero z = same_refusal st ws r a Judged JudgedBatch ∙ z

  module _ (z : refused st ws (batch_call r a) ≡ 0) where
    batch_says : reply st ws (batch_call r a) ≡ Said (ahead_for past says)
    unfolding step done_on asked after_judged judge_batch
    batch_says = reply_is st ws (batch_call r a) z

    judge_says : reply st ws (judge_call r a) ≡ Said says
    unfolding step done_on asked after_judged
    judge_says = reply_is st ws (judge_call r a) (judge_zero z)

    same_left : after st ws (batch_call r a) ≡ after st ws (judge_call r a)
    unfolding step done_on asked after_judged judge_batch
    same_left = after_is st ws (batch_call r a) z ∙ sym (after_is st ws (judge_call r a) (judge_zero z))

  through_said : (v : Verdict) → reply st ws (batch_call r a) ≡ Said v → refused st ws (batch_call r a) ≡ 0
  unfolding went_through
  through_said v e = through_zero st ws (batch_call r a) (ap went_through e)

  judge_said : (v : Verdict) → reply st ws (judge_call r a) ≡ Said v → refused st ws (batch_call r a) ≡ 0
  unfolding went_through
  judge_said v e = same_refusal st ws r a JudgedBatch Judged ∙ through_zero st ws (judge_call r a) (ap went_through e)

  is_past : past ≡ true → FrontPast st r a
  unfolding front_past
  is_past p = ltb-true _ a.stamp p

  past_is : FrontPast st r a → past ≡ true
  unfolding front_past
  past_is p = lt-ltb _ a.stamp p

  refused_alike : eqb (refused st ws (batch_call r a)) 0 ≡ false → reply st ws (batch_call r a) ≡ reply st ws (judge_call r a)
  unfolding reply
  refused_alike d = rw (same_refusal st ws r a Judged JudgedBatch, d)

  ahead_for_it : AheadFor st ws r a
  unfolding ahead_for
  ahead_for_it = record {
    only = λ e.
        let z = through_said Ahead e in
        let k = turned past says (judge_not_ahead (usable_at s r) (register_at r t) (ask_of a)) (said_is _ Ahead (sym (batch_says z) ∙ e)) in
        (judge_says z ∙ ap Said k.0, is_past k.1);
    then = λ e f.
        let z = judge_said Late e in
        let v : says ≡ Late = said_is _ Late (sym (judge_says z) ∙ e) in
        batch_says z ∙ ap (λ (x : Verdict). Said (ahead_for past x)) v ∙ ap (λ (b : Bool). Said (ahead_for b Late)) (past_is f);
    otherwise = λ n.
        by_test (eqb (refused st ws (batch_call r a)) 0)
        (λ d. let z = eqb-true (refused st ws (batch_call r a)) 0 d in
        batch_says z ∙ ap Said (unturned past says (λ e. n (batch_says z ∙ ap Said e))) ∙ sym (judge_says z))
        (λ d. refused_alike d);
    words =
        by_test (eqb (refused st ws (batch_call r a)) 0) (λ d. same_left (eqb-true (refused st ws (batch_call r a)) 0 d))
        (λ d. refused_words st ws (batch_call r a) d
        ∙ sym (refused_words st ws (judge_call r a) (ap (λ (i : ℕ). eqb i 0) (same_refusal st ws r a Judged JudgedBatch) ∙ d)));
  }

pub ahead_only : AheadOnly
ahead_only st ws r a = ahead_for_it st ws r a
