-- Words answer as the rules do. Words that hold a state answer any list of calls as the rules answer it on that state, refusals included,
-- and then hold the state that the rules come to. From an opening on any words do so: specs/SameFromOpening.
use Rattle.std.specs.Prelude.{ℕ, ◌≡◌, cond, Some, List, [], ◌∷◌, eqb}
use Rattle.model.specs.Answer.{Answer}
use Rattle.model.specs.Answer.{Refused}
use Rattle.model.specs.Settings.{settings_of}
use Rattle.model.specs.Words.{State}
use Rattle.model.specs.Calls.{Call, Step, step, refusal, unfit, refusals_of, first_met, held_in, reply, after}
use Rattle.model.specs.View.{view}
use Rattle.model.specs.Soundness.{Vetted}

-- ---- on a state, by the rules: every refusal but 2 and 3, which come of words
unfoldable pub served : List ℕ → Call → State → Step
served st call t =
    let n = first_met (refusal 1 (unfit st call) ∷ refusals_of (settings_of st) call t) in
    cond (eqb n 0) (step (settings_of st) call t) (record { answer = Refused n; state = t })

unfoldable pub answers_from : List ℕ → State → List Call → List Answer
answers_from st t [] = []
answers_from st t (c ∷ cs) = (served st c t).answer ∷ answers_from st (served st c t).state cs

unfoldable pub state_after : List ℕ → State → List Call → State
state_after st t [] = t
state_after st t (c ∷ cs) = state_after st (served st c t).state cs

-- ---- on words, by the calls
unfoldable pub answers_on : List ℕ → List ℕ → List Call → List Answer
answers_on st ws [] = []
answers_on st ws (c ∷ cs) = reply st ws c ∷ answers_on st (after st ws c) cs

unfoldable pub words_left : List ℕ → List ℕ → List Call → List ℕ
words_left st ws [] = ws
words_left st ws (c ∷ cs) = words_left st (after st ws c) cs

-- ---- the two are one
pub record SameOn (st ws : List ℕ) (t : State) (calls : List Call) : Type 0 where
  pub answers : answers_on st ws calls ≡ answers_from st t calls
  pub holds : held_in (settings_of st) (words_left st ws calls) ≡ state_after st t calls
  pub seen : view (words_left st ws calls) ≡ Some (state_after st t calls)

abbrev pub SameAnswers : Type 0
SameAnswers = (st ws : List ℕ) → Vetted st ws → (calls : List Call) → SameOn st ws (held_in (settings_of st) ws) calls
