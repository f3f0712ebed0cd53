-- What a call enters with, once its settings are read: the words that they need, or the refusal of the rules.
use Rattle.std.specs.Prelude.{ℕ, ◌≤◌, ◌≡◌, true, List, length, Result, MatchResult}
use Rattle.model.specs.declared.Refusal.{Refusal}
use Rattle.model.specs.Answer.{refusal_number}
use Rattle.model.specs.Settings.{settings_of, words_needed}
use Rattle.model.specs.Calls.{settings_words_fit}
use Rattle.vet.specs.declared.vetted.Vetted.{Vetted}

-- refused with v
abbrev pub Refuses : ℕ → Refusal → Type 0
Refuses v e = refusal_number e ≡ v

-- v refuses nothing: the settings fit, and are read, with the words that they need
pub record Ready (st : List ℕ) (v : ℕ) (x : Vetted) : Type 0 where
  pub passed : v ≡ 0
  pub fit : settings_words_fit st ≡ true
  pub read : x.s ≡ settings_of st
  pub need : x.need ≡ words_needed (settings_of st)

-- the same, and the words that it may use are there
pub record ReadyWithin (st ws : List ℕ) (v : ℕ) (x : Vetted) : Type 0 where
  pub ready : Ready st v x
  pub within : x.need ≤ length ws

-- a call enters, or is refused with v
abbrev pub Enters : List ℕ → ℕ → Result Vetted Refusal → Type 0
Enters st v r = MatchResult r (Ready st v) (Refuses v)

abbrev pub EntersWithin : List ℕ → List ℕ → ℕ → Result Vetted Refusal → Type 0
EntersWithin st ws v r = MatchResult r (ReadyWithin st ws v) (Refuses v)
