-- "Settings and soundness": a register's words, and when they are sound.
-- A register: 24 words (its six settings as kept, swept, the published sweep, whether there is a floor, the floor, whether it is
-- pending, 13 spare words), then for each class a ring of generations.
use Rattle.std.specs.Prelude.{ℕ, ◌≡◌, Bool, true, false, cond, ◌&&◌, ◌||◌, Option, Some, None, List, ◌∷◌, length, get_or, drop, eqb, leb}
use Rattle.model.specs.declared.Class.{Class}
use Rattle.model.specs.declared.Class.TheVariants.{Feeders, Peers, Own}
use Rattle.model.specs.declared.Usable.{Usable}
use Rattle.runs.specs.Form.{Form}
use Rattle.runs.specs.Combine.{Both, both, many, seen_as}
use Rattle.model.specs.Settings.{ring_of}
use Rattle.model.specs.Class.{Each}
use Rattle.model.specs.Register.{Ring, Register, published, spare_words}
use Rattle.model.specs.GenerationWords.{generation_place}

-- ---- one after the other for each class
abbrev pub each_of : {A : Type 0} → Both A (Both A A) → Each A
each_of x = record { of_feeders = x.head; of_peers = x.body.head; of_own = x.body.body }

abbrev pub of_each : {A : Type 0} → Each A → Both A (Both A A)
of_each e = record { head = e.of_feeders; body = record { head = e.of_peers; body = e.of_own } }

abbrev pub each_form : {A : Type 0} → (Class → Form A) → Form (Each A)
each_form F = seen_as each_of of_each (both (F Feeders) (both (F Peers) (F Own)))

-- ---- "Flags are 0 or 1, and an absent floor's word is 0."
abbrev pub flag_word : Bool → ℕ
flag_word true = 1
flag_word false = 0

abbrev pub floor_flag : Option ℕ → ℕ
floor_flag None = 0
floor_flag (Some f) = 1

abbrev pub floor_word : Option ℕ → ℕ
floor_word None = 0
floor_word (Some f) = f

abbrev pub read_floor : ℕ → ℕ → Option ℕ
read_floor flag floor = cond (eqb flag 1) (Some floor) None

abbrev pub floor_sound : ℕ → ℕ → Bool
floor_sound flag floor = leb flag 1 && (eqb flag 1 || eqb floor 0)

-- ---- a register's own words
pub record Heading : Type 0 where
  pub swept : ℕ
  pub floor : Option ℕ
  pub pending : Bool
  pub spare : List ℕ

abbrev pub heading_width : ℕ
heading_width = 24

abbrev pub encode_heading : Usable → Heading → List ℕ
encode_heading u h =
    u.origin.behind ∷ u.origin.ahead ∷ u.copy.behind ∷ u.copy.ahead ∷ u.bucket ∷ u.slots ∷ h.swept ∷ published u h.swept
    ∷ floor_flag h.floor ∷ floor_word h.floor ∷ flag_word h.pending ∷ h.spare

abbrev pub read_heading : List ℕ → Heading
read_heading ws = record {
  swept = get_or ws 6 0;
  floor = read_floor (get_or ws 8 0) (get_or ws 9 0);
  pending = eqb (get_or ws 10 0) 1;
  spare = drop 11 ws;
}

-- "kept settings equal those handed in"
abbrev pub kept_usable : Usable → List ℕ → Bool
kept_usable u ws =
    eqb (get_or ws 0 0) u.origin.behind && (eqb (get_or ws 1 0) u.origin.ahead && (eqb (get_or ws 2 0) u.copy.behind
    && (eqb (get_or ws 3 0) u.copy.ahead && (eqb (get_or ws 4 0) u.bucket && eqb (get_or ws 5 0) u.slots))))

-- "Each register's published sweep is swept × bucket, capped at 2^64 − 1."
abbrev pub published_sound : Usable → List ℕ → Bool
published_sound u ws = eqb (get_or ws 7 0) (published u (get_or ws 6 0))

unfoldable pub heading_sound : Usable → List ℕ → Bool
heading_sound u ws =
    kept_usable u ws && (published_sound u ws && (floor_sound (get_or ws 8 0) (get_or ws 9 0) && leb (get_or ws 10 0) 1))

abbrev pub heading_form : Usable → Form Heading
heading_form u = record {
  wide = heading_width;
  enc = encode_heading u;
  read = read_heading;
  Ok = λ h. length h.spare ≡ spare_words;
  test = heading_sound u;
}

-- ---- a register
abbrev pub ring_form : Usable → Form Ring
ring_form u = many (generation_place u.slots (ring_of u)) (ring_of u)

abbrev pub register_of : Both Heading (Each Ring) → Register
register_of x = record {
  swept = x.head.swept;
  floor = x.head.floor;
  pending = x.head.pending;
  spare = x.head.spare;
  rings = x.body;
}

abbrev pub of_register : Register → Both Heading (Each Ring)
of_register reg = record {
  head = record { swept = reg.swept; floor = reg.floor; pending = reg.pending; spare = reg.spare };
  body = reg.rings;
}

abbrev pub register_form : Usable → Form Register
register_form u = seen_as register_of of_register (both (heading_form u) (each_form (λ c. ring_form u)))
