-- What the functions on slots alone do: growth by the numbers that lead a generation, and a fingerprint put into its place.
use Rattle.std.specs.Prelude.{ℕ, suc, ◌+◌, ◌*◌, ◌≤◌, max, ◌≡◌, Bool, true, false, cond, List, eqb}
use Rattle.model.specs.Generation.{LEAST, count, doubled, put}

-- the slots that a generation of so many slots, so many of them held, has once a fingerprint is inserted: `slots_for`
unfoldable pub slots_after : Bool → ℕ → ℕ → ℕ
slots_after true slots held = slots
slots_after false slots held = doubled (4 * suc held) (suc held) (max slots LEAST)

-- an old slot's word is put into new slots, unless it is empty
abbrev pub put_again : List ℕ → ℕ → List ℕ
put_again s x = cond (eqb x 0) s (put s x)

-- a fingerprint is put into its place, which adds so many to what is held
pub record Puts (fp : ℕ) (before after : List ℕ) (added : ℕ) : Type 0 where
  pub slots : after ≡ put before fp
  pub held : count after ≡ count before + added
  pub few : added ≤ 1
