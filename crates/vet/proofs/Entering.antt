-- The refusals 1, 2 and 3 as vetting tries them, what settings that pass give, and that every well-formed state is let in.
use Prim.Native.Nat.{ℕ, ◌≤◌, ◌<◌}
use native.Mathlib.Omega.{arith}
use mathlib.Core.Path.{◌≡◌, sym, ◌∙◌}
use mathlib.Core.Bool.{Bool, true, false}
use mathlib.Core.List.{List, ◌++◌}
use lib.ListN.{length}
use lib.Dec.{eqb}
use borrow.Author.Tests.{eqb-true, le-ltb, lt-ltb}
use Rattle.runs.proofs.Cases.{by_test, both_true}
use Rattle.std.proofs.Common.{Result}
use Rattle.std.specs.Result.{IsErrAnd}
use Rattle.model.specs.declared.Refusal.{Refusal}
use Rattle.model.specs.Settings.{settings_of, settings_fit, words_needed}
use Rattle.model.specs.Words.{State, state_form}
use Rattle.model.specs.Calls.{settings_words_fit, too_short, sound, first_met}
use Rattle.model.proofs.Refused.{refusal_there, exits}
use Rattle.model.proofs.View.{written}
use Rattle.vet.specs.declared.vetted.Vetted.{Vetted}
use Rattle.vet.specs.Vetted.{unfit_alone, vetted}
use Rattle.vet.specs.Entries.{Refuses, Ready, ReadyWithin, EntersWithin}

-- settings that fit are 29 words, and in bounds
pub words_fit : (st : List ℕ) → settings_words_fit st ≡ true → (length st ≡ 29) × (settings_fit (settings_of st) ≡ true)
unfolding settings_words_fit
words_fit st t =
    let p = both_true (eqb (length st) 29) (settings_fit (settings_of st)) t in
    (eqb-true (length st) 29 p.0, p.1)

-- ---- the settings, and the words
-- 1, then 2, then 3
unfit_first : (st ws : List ℕ) (e : Refusal) → Refuses (unfit_alone st) e → Refuses (vetted st ws) e
unfolding unfit_alone vetted first_met
unfit_first st ws e h = by_test (settings_words_fit st) (λ f. absurd (refusal_there e (rw f at h))) (λ f. rw f (rw f at h))

pub unfit_exit : (st ws : List ℕ) (e : Refusal) (r : Result Vetted Refusal) → IsErrAnd r (λ y. y ≡ e) → Refuses (unfit_alone st) e
    → EntersWithin st ws (vetted st ws) r
unfit_exit st ws e r h v = rw (exits r h) (unfit_first st ws e v)

module _ {st : List ℕ} {x : Vetted} (ready : Ready st (unfit_alone st) x) (ws : List ℕ) where
  pub short_words : length ws < x.need → 2 ≡ vetted st ws
  unfolding vetted first_met too_short
  short_words l = let n = ready.need in rw (ready.fit, lt-ltb (length ws) (words_needed (settings_of st)) (omega arith))

  module _ (l : x.need ≤ length ws) {b : Bool} (t : b ≡ sound x.s ws) where
    pub unsound_words : b ≡ false → 3 ≡ vetted st ws
    unfolding vetted first_met too_short
    unsound_words f =
        let n = ready.need in
        let u : sound (settings_of st) ws ≡ false = rw (← ready.read) (sym t ∙ f) in
        rw (ready.fit, le-ltb (length ws) (words_needed (settings_of st)) (omega arith), u)

    -- or none of them
    pub sound_words : b ≡ true → ReadyWithin st ws (vetted st ws) x
    unfolding vetted first_met too_short
    sound_words f =
        let n = ready.need in
        let u : sound (settings_of st) ws ≡ true = rw (← ready.read) (sym t ∙ f) in
        record {
          ready = record {
            passed = rw (ready.fit, le-ltb (length ws) (words_needed (settings_of st)) (omega arith), u);
            fit = ready.fit;
            read = ready.read;
            need = ready.need;
          };
          within = l;
        }

-- The words of every well-formed state are let in, whatever lies past them.
pub lets_in : (st : List ℕ) (x : State) (rest : List ℕ) → settings_words_fit st ≡ true → (state_form (settings_of st)).Ok x
    → 0 ≡ vetted st ((state_form (settings_of st)).enc x ++ rest)
unfolding vetted first_met too_short
lets_in st x rest f ok =
    let w = written (settings_of st) (words_fit st f).1 x rest ok in
    rw (f, le-ltb _ _ w.long, w.sound)
