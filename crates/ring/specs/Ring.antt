-- A class's ring in its own run of words: a generation of at most S slots for each of n positions.
use Rattle.std.specs.Prelude.{ℕ, ◌+◌, ◌*◌, ◌%◌, ◌≤◌, ◌<◌, ◌≡◌, Option, List, length, get_or}
use Rattle.runs.specs.Form.{Form}
use Rattle.runs.specs.Combine.{many}
use Rattle.runs.specs.Turns.{Is, Reads, Turns}
use Rattle.model.specs.declared.Room.{Room}
use Rattle.model.specs.declared.Room.TheVariants.{At}
use Rattle.model.specs.Widths.{generation_width}
use Rattle.model.specs.GenerationWords.{generation_place}
use Rattle.model.specs.Register.{Ring, generation_at, with_generation}
use Rattle.model.specs.Generation.{empty, insert}
use Rattle.generation.specs.Rules.{drop_in_says}

-- the form of a ring: `ring_form u` has its S and n from a register's settings
abbrev pub places : ℕ → ℕ → Form Ring
places S n = many (generation_place S n) n

-- Contracts, each said of every ring that the words may be.
abbrev pub RingReads : {R : Type 0} → ℕ → ℕ → (Ring → R) → List ℕ → R → Type 0
RingReads S n out ws r = Reads (places S n).enc (places S n).Ok out ws r

abbrev pub RingTurns : {R : Type 0} → ℕ → ℕ → (Ring → Ring) → (Ring → R) → List ℕ → List ℕ → R → Type 0
RingTurns S n f out before after r = Turns (places S n).enc (places S n).Ok f out before after r

-- words of a ring's size which are those of a well-formed one
pub record RingWords (S n : ℕ) (ws : List ℕ) : Type 0 where
  pub long : length ws ≡ n * generation_width S
  pub is : Is (places S n).enc (places S n).Ok ws

-- bucket b has position r of n
pub record PositionOf (b n r : ℕ) : Type 0 where
  pub is : r ≡ b % n
  pub below : r < n

-- position i starts at word r, and lies within the run
pub record StartsAt (S n i r : ℕ) : Type 0 where
  pub start : r ≡ i * generation_width S
  pub within : r + generation_width S ≤ n * generation_width S

-- and its words are as many as a generation's
pub record PlaceAt (S n i a e : ℕ) : Type 0 where
  pub start : StartsAt S n i a
  pub end : e ≡ a + generation_width S

-- the bucket of the generation at position i
abbrev pub bucket_in : ℕ → Ring → ℕ
bucket_in i ring = (get_or ring i empty).bucket

-- the room that was found
abbrev pub found_at : ℕ → Room
found_at i = At i

-- a fingerprint is inserted at its bucket's position, as `strike` does in a class's ring
abbrev pub inserted_in : ℕ → ℕ → ℕ → Ring → Ring
inserted_in b fp stamp ring = with_generation ring b (insert b fp stamp (generation_at ring b))

-- what `drop_bucket` forgets
abbrev pub drop_bucket_says : ℕ → Ring → Option ℕ
drop_bucket_says b ring = drop_in_says b (generation_at ring b)
