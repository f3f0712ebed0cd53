-- A register's part of the words as the functions of this crate take it.
use Rattle.std.specs.Prelude.{ℕ, ◌+◌, ◌≤◌, ◌≡◌, true, List, length}
use Rattle.runs.specs.Turns.{Is, Reads, Turns}
use Rattle.model.specs.declared.Class.{Class}
use Rattle.model.specs.declared.Usable.{Usable}
use Rattle.model.specs.Settings.{ring_of, usable_fit}
use Rattle.model.specs.Register.{Register}
use Rattle.model.specs.RegisterWords.{register_form}
use Rattle.model.specs.Words.{ring_width, register_width, ring_start}
use Rattle.model.specs.Most.{ring_most}

-- Contracts, each said of every register that the words may be.
abbrev pub RegisterReads : {R : Type 0} → Usable → (Register → R) → List ℕ → R → Type 0
RegisterReads u out ws r = Reads (register_form u).enc (register_form u).Ok out ws r

abbrev pub RegisterTurns : {R : Type 0} → Usable → (Register → Register) → (Register → R) → List ℕ → List ℕ → R → Type 0
RegisterTurns u f out before after r = Turns (register_form u).enc (register_form u).Ok f out before after r

-- words of a register's size which are those of a well-formed one
pub record RegisterWords (u : Usable) (ws : List ℕ) : Type 0 where
  pub fit : usable_fit u ≡ true
  pub long : length ws ≡ register_width u
  pub least : 24 ≤ length ws
  pub is : Is (register_form u).enc (register_form u).Ok ws

-- the sizes of a register's rings: at most S slots, n positions, and so many words
pub record RingsOf (u : Usable) (S n w : ℕ) : Type 0 where
  pub slots : S ≡ u.slots
  pub ring : n ≡ ring_of u
  pub width : w ≡ ring_width u
  -- few words, whatever the settings in bounds
  pub few_words : w ≤ ring_most

-- a class's ring of these sizes lies from word a up to word e
pub record RingAt (u : Usable) (c : Class) (S n a e : ℕ) : Type 0 where
  pub slots : S ≡ u.slots
  pub ring : n ≡ ring_of u
  pub start : a ≡ ring_start u c
  pub end : e ≡ a + ring_width u
  pub within : e ≤ register_width u
