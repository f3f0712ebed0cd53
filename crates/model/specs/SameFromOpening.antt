-- Words answer as the rules do (specs/SameAnswers), from an opening on: whatever the words were, and whatever the state before it is taken
-- to be. What is computed on states, from an opening on, is therefore what the calls answer on words.
use Rattle.std.specs.Prelude.{ℕ, ◌≡◌, true, List, ◌∷◌}
use Rattle.model.specs.Words.{State}
use Rattle.model.specs.Calls.{Call, Open, reply}
use Rattle.model.specs.Codes.{went_through}
use Rattle.model.specs.SameAnswers.{SameOn}

abbrev pub SameFromOpening : Type 0
SameFromOpening =
    (st ws limits starts : List ℕ) → went_through (reply st ws (Open limits starts)) ≡ true
    → (t : State) (calls : List Call) → SameOn st ws t (Open limits starts ∷ calls)
