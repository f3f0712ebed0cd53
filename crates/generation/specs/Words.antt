-- A generation's run of words as the functions of this crate take it.
use Rattle.std.specs.Prelude.{ℕ, ◌≤◌, ◌≡◌, Bool, List, ◌∷◌, length, get_or, drop}
use Rattle.runs.specs.Turns.{Reads, Turns}
use Rattle.model.specs.Widths.{generation_head, generation_width}
use Rattle.model.specs.Generation.{Generation, among}
use Rattle.model.specs.GenerationWords.{encode_generation, GenerationOk}
use Rattle.model.specs.Most.{generation_most}
use Rattle.generation.specs.Slots.{slots_after}
use Rattle.generation.specs.declared.Generation.{Generation as Leading}

-- Plain bounds, which the words of every well-formed generation of at most 1,024 slots keep: the live slots lie within the run,
-- and no more are held.
pub record Bounded (ws : List ℕ) : Type 0 where
  pub live : generation_width (get_or ws 0 0) ≤ length ws
  pub held : get_or ws 1 0 ≤ get_or ws 0 0
  pub small : length ws ≤ generation_most

-- the words that lead, read
pub record Leads (ws : List ℕ) (g : Leading) : Type 0 where
  pub slots : g.slots ≡ get_or ws 0 0
  pub held : g.held ≡ get_or ws 1 0
  pub newest : g.newest ≡ get_or ws 2 0
  pub bucket : g.bucket ≡ get_or ws 3 0
  pub oldest : g.oldest ≡ get_or ws 4 0

-- and written over those of a run
abbrev pub led_by : Leading → List ℕ → List ℕ
led_by g ws = g.slots ∷ g.held ∷ g.newest ∷ g.bucket ∷ g.oldest ∷ drop generation_head ws

abbrev pub opened : Leading
opened = record { slots = 0; held = 0; newest = 0; bucket = 0; oldest = 0 }

-- there is room for the slots that one more fingerprint asks for
pub record Roomy (known : Bool) (ws : List ℕ) : Type 0 where
  pub room : generation_width (slots_after known (get_or ws 0 0) (get_or ws 1 0)) ≤ length ws

-- Contracts, each said of every generation that the words may be: of at most S slots, well formed at position i of n.
abbrev pub GenerationReads : {R : Type 0} → (ℕ → Generation → R) → List ℕ → R → Type 0
GenerationReads out ws r = (S n i : ℕ) → Reads (encode_generation S) (GenerationOk S n i) (out S) ws r

abbrev pub GenerationTurns : {R : Type 0} → (Generation → Generation) → (Generation → R) → List ℕ → List ℕ → R → Type 0
GenerationTurns f out before after r = (S n i : ℕ) → Turns (encode_generation S) (GenerationOk S n i) f out before after r

-- the same of one whose slots only fit the run, as while it is being filled
abbrev pub FittingTurns : {R : Type 0} → (Generation → Generation) → (Generation → R) → List ℕ → List ℕ → R → Type 0
FittingTurns f out before after r = (S : ℕ) → Turns (encode_generation S) (λ g. length g.slots ≤ S) f out before after r

-- there is room for a fingerprint, held already or not
pub record RoomyFor (fp : ℕ) (ws : List ℕ) : Type 0 where
  pub room : (known : Bool) → GenerationReads (λ S g. among fp g.slots) ws known → Roomy known ws
