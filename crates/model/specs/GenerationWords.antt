-- "Settings and soundness": a generation's words, and when they are sound.
-- Words: slots, held, newest, bucket, oldest, then S words of slots.
use Rattle.std.specs.Prelude.{ℕ, suc, ◌-◌, ◌*◌, ◌%◌, ◌≤◌, ◌≡◌, Bool, true, false, cond, ◌&&◌, ◌||◌, List, [], ◌∷◌, length, get_or, take, drop, eqb, leb}
use Rattle.model.specs.declared.Probe.{Probe}
use Rattle.model.specs.declared.Probe.TheVariants.{Held, Free, Nowhere}
use Rattle.runs.specs.Words.{zeros, pad}
use Rattle.runs.specs.Combine.{FormAt}
use Rattle.model.specs.Widths.{generation_head, generation_width}
use Rattle.model.specs.Settings.{power_of_two}
use Rattle.model.specs.Generation.{Generation, count, probe}

abbrev pub encode_generation : ℕ → Generation → List ℕ
encode_generation S g = length g.slots ∷ count g.slots ∷ g.newest ∷ g.bucket ∷ g.oldest ∷ pad S g.slots

-- as many slots as it has
abbrev pub live_slots : List ℕ → List ℕ
live_slots ws = take (get_or ws 0 0) (drop generation_head ws)

abbrev pub read_generation : List ℕ → Generation
read_generation ws = record { bucket = get_or ws 3 0; oldest = get_or ws 4 0; newest = get_or ws 2 0; slots = live_slots ws }

-- ---- the rules
-- a slot is empty, or probing for what it holds ends there: so "its nonzero slots are distinct .. and every held fingerprint is
-- reached by probing" together
abbrev pub ends_at : ℕ → Probe → Bool
ends_at i (Held j) = eqb j i
ends_at i (Free j) = false
ends_at i Nowhere = false

abbrev pub reached : List ℕ → ℕ → ℕ → Bool
reached s i x = eqb x 0 || ends_at i (probe s x)

-- slot i and those after it
unfoldable pub reached_from : List ℕ → ℕ → List ℕ → Bool
reached_from s i [] = true
reached_from s i (x ∷ xs) = reached s i x && reached_from s (suc i) xs

-- ".. and as many as it holds"
abbrev pub slots_sound : List ℕ → ℕ → Bool
slots_sound s holds = reached_from s 0 s && eqb (count s) holds

-- "Otherwise its slots are a power of two from 2 to S, 4 × held ≤ 3 × slots, bucket mod ring is its position": at position i of n
abbrev pub filled_sound : ℕ → ℕ → ℕ → ℕ → ℕ → Bool
filled_sound n i slots holds bucket =
    power_of_two slots && (leb 1 holds && (leb (4 * holds) (3 * slots) && eqb (bucket % n) i))

-- "A generation has 0 slots exactly when it holds 0, and then newest is 0; its bucket word is free"
abbrev pub empty_sound : ℕ → ℕ → Bool
empty_sound holds newest = eqb holds 0 && eqb newest 0

-- at most S slots
abbrev pub room_sound : List ℕ → Bool
room_sound ws = leb (get_or ws 0 0) (length ws - generation_head)

-- "Slots past its count are 0."
abbrev pub tail_sound : List ℕ → Bool
tail_sound ws = zeros (drop (generation_width (get_or ws 0 0)) ws)

-- "a sound generation has oldest ≤ newest" (request Q-1). So the oldest is "0 when empty", as the newest is 0 then
abbrev pub age_sound : List ℕ → Bool
age_sound ws = leb (get_or ws 4 0) (get_or ws 2 0)

abbrev pub body_sound : ℕ → ℕ → List ℕ → Bool
body_sound n i ws =
    cond (eqb (get_or ws 0 0) 0) (empty_sound (get_or ws 1 0) (get_or ws 2 0))
    (filled_sound n i (get_or ws 0 0) (get_or ws 1 0) (get_or ws 3 0) && slots_sound (live_slots ws) (get_or ws 1 0))

unfoldable pub generation_sound : ℕ → ℕ → List ℕ → Bool
generation_sound n i ws = room_sound ws && (tail_sound ws && (age_sound ws && body_sound n i ws))

-- a well-formed generation of at most S slots, at position i of n
pub record GenerationOk (S n i : ℕ) (g : Generation) : Type 0 where
  pub fits : length g.slots ≤ S
  pub aged : g.oldest ≤ g.newest
  pub shape : cond (eqb (length g.slots) 0) (eqb g.newest 0)
      (filled_sound n i (length g.slots) (count g.slots) g.bucket && reached_from g.slots 0 g.slots) ≡ true

abbrev pub generation_place : ℕ → ℕ → FormAt Generation
generation_place S n = record {
  wide = generation_width S;
  enc = encode_generation S;
  read = read_generation;
  OkAt = GenerationOk S n;
  test_at = generation_sound n;
}
