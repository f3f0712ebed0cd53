-- The whole run of words as the functions of this crate take it.
use Rattle.std.specs.Prelude.{ℕ, ◌≤◌, ◌≡◌, true, List, length}
use Rattle.runs.specs.Turns.{Is, Reads, Turns}
use Rattle.model.specs.declared.Settings.{Settings}
use Rattle.model.specs.Settings.{settings_fit, words_needed}
use Rattle.model.specs.Words.{State, state_form}

-- Contracts, each said of every state that the words may be.
abbrev pub StateReads : {R : Type 0} → Settings → (State → R) → List ℕ → R → Type 0
StateReads s out ws r = Reads (state_form s).enc (state_form s).Ok out ws r

abbrev pub StateTurns : {R : Type 0} → Settings → (State → State) → (State → R) → List ℕ → List ℕ → R → Type 0
StateTurns s f out before after r = Turns (state_form s).enc (state_form s).Ok f out before after r

-- as many words as the settings need, which are those of a well-formed state
pub record RunWords (s : Settings) (ws : List ℕ) : Type 0 where
  pub fit : settings_fit s ≡ true
  pub long : length ws ≡ words_needed s
  pub least : 128 ≤ length ws
  pub is : Is (state_form s).enc (state_form s).Ok ws
