-- Words answer as the rules do (specs/SameAnswers, SameFromOpening). Assumes nothing.
use Prim.Native.Nat.{ℕ}
use mathlib.Core.Path.{◌≡◌, refl, ap, sym, ◌∙◌, subst}
use mathlib.Core.Bool.{false}
use mathlib.Core.List.{List, [], ◌∷◌}
use lib.Dec.{eqb}
use lib.ListN.{length}
use borrow.Author.Tests.{eqb-true, le-ltb}
use Rattle.model.specs.declared.Settings.{Settings}
use Rattle.runs.proofs.Cases.{by_test}
use Rattle.model.specs.Settings.{settings_of, words_needed}
use Rattle.model.specs.Words.{State}
use Rattle.model.specs.Calls.{Call, Open, step, refusal, unfit, too_short, sound, unsound, is_open, no_such_register, own_refusals, refusals_of, first_met, held_in, refused, reply, after}
use Rattle.model.specs.Soundness.{Vetted}
use Rattle.model.specs.SameAnswers.{served, answers_from, state_after, answers_on, words_left, SameOn, SameAnswers}
use Rattle.model.specs.SameFromOpening.{SameFromOpening}
use Rattle.model.proofs.Choice.{or_right}
use Rattle.model.proofs.Simulates.{refused_words, entered, reply_is, after_vetted, after_holds, through_zero}
use Rattle.model.proofs.RoundTrip.{vetted_seen}

-- ---- one call, on words that are vetted
module _ (st ws : List ℕ) (v : Vetted st ws) (call : Call) where
  abbrev s : Settings
  s = settings_of st

  abbrev now : State
  now = held_in s ws

  -- neither 2 nor 3 is met
  same_refusal : refused st ws call ≡ first_met (refusal 1 (unfit st call) ∷ refusals_of s call now)
  unfolding refused first_met too_short unsound
  same_refusal = rw (le-ltb (length ws) (words_needed s) v.long, or_right (is_open call) (sound s ws) v.sound)

  same_reply : reply st ws call ≡ (served st call now).answer
  unfolding reply served
  same_reply = rw same_refusal (by_test (eqb (first_met (refusal 1 (unfit st call) ∷ refusals_of s call now)) 0) (λ e. rw e) (λ e. rw e))

  still_vetted : Vetted st (after st ws call)
  still_vetted =
      by_test (eqb (refused st ws call) 0) (λ e. after_vetted st ws call (eqb-true (refused st ws call) 0 e))
      (λ e. subst (λ (l : List ℕ). Vetted st l) (sym (refused_words st ws call e)) v)

  same_state : held_in s (after st ws call) ≡ (served st call now).state
  unfolding served
  same_state =
      by_test (eqb (refused st ws call) 0)
      (λ e. after_holds st ws call (eqb-true (refused st ws call) 0 e) ∙ rw (rw same_refusal at e) refl)
      (λ e. ap (held_in s) (refused_words st ws call e) ∙ rw (rw same_refusal at e) refl)

-- ---- one call before a list
then_same : (st ws : List ℕ) (t : State) (call : Call) (calls : List Call) → reply st ws call ≡ (served st call t).answer
    → held_in (settings_of st) (after st ws call) ≡ (served st call t).state → SameOn st (after st ws call) (held_in (settings_of st) (after st ws call)) calls
    → SameOn st ws t (call ∷ calls)
unfolding answers_from state_after answers_on words_left
then_same st ws t call calls answer state rest =
    let r = subst (λ (x : State). SameOn st (after st ws call) x calls) state rest in
    record { answers = rw (answer, r.answers) refl; holds = r.holds; seen = r.seen }

pub same_answers : SameAnswers
unfolding answers_from state_after answers_on words_left
same_answers st ws v [] = record { answers = refl; holds = refl; seen = vetted_seen st ws v }
same_answers st ws v (c ∷ cs) =
    then_same st ws (held_in (settings_of st) ws) c cs (same_reply st ws v c) (same_state st ws v c)
    (same_answers st (after st ws c) (still_vetted st ws v c) cs)

-- ---- an opening reads no word
opens_any : (st limits starts : List ℕ) (t : State) → unfit st (Open limits starts) ≡ false
    → served st (Open limits starts) t ≡ step (settings_of st) (Open limits starts) t
unfolding served first_met no_such_register own_refusals
opens_any st limits starts t fit = rw fit refl

fits : (st ws : List ℕ) (call : Call) → refused st ws call ≡ 0 → unfit st call ≡ false
unfolding unfit
fits st ws call z = let e = entered st ws call z in rw (e.fit, e.codes) refl

pub same_from_opening : SameFromOpening
unfolding step
same_from_opening st ws limits starts through t calls =
    let call = Open limits starts in
    let z = through_zero st ws call through in
    let e = opens_any st limits starts t (fits st ws call z) in
    then_same st ws t call calls (reply_is st ws call z ∙ rw e refl) (after_holds st ws call z ∙ rw e refl)
    (same_answers st (after st ws call) (after_vetted st ws call z) calls)
