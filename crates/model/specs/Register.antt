-- A register and its rings, "Sweep and floor", and how a register starts and begins.
use Rattle.std.specs.Prelude.{ℕ, zero, suc, ◌-◌, ◌*◌, ◌%◌, max, Bool, true, false, not, ◌&&◌, ◌||◌, Option, Some, None, List, [], ◌∷◌, leb, ltb, eqb, length, get_or, set, replicate, if◌then◌else◌}
use Rattle.model.specs.declared.Class.{Class}
use Rattle.model.specs.declared.Start.{Start}
use Rattle.model.specs.declared.Start.TheVariants.{Empty, Fallback, At}
use Rattle.model.specs.declared.Usable.{Usable}
use Rattle.model.specs.Numbers.{ceil, cap64, raise}
use Rattle.model.specs.Settings.{ring_of}
use Rattle.model.specs.Class.{Each, pick, swap, three}
use Rattle.model.specs.Generation.{Generation, empty, held, among, insert, dropped}

-- a generation for each position
abbrev pub Ring : Type 0
Ring = List Generation

-- `spare` is words that no rule reads
pub record Register : Type 0 where
  pub swept : ℕ
  pub floor : Option ℕ
  pub pending : Bool
  pub spare : List ℕ
  pub rings : Each Ring

-- the register with another floor, or with other rings
abbrev pub with_floor : Option ℕ → Register → Register
with_floor f reg = record { swept = reg.swept; floor = f; pending = reg.pending; spare = reg.spare; rings = reg.rings }

abbrev pub with_rings : Each Ring → Register → Register
with_rings e reg = record { swept = reg.swept; floor = reg.floor; pending = reg.pending; spare = reg.spare; rings = e }

-- the register with its floor raised to a stamp, or with what a function makes of a class's ring
abbrev pub raised : ℕ → Register → Register
raised stamp reg = with_floor (raise reg.floor stamp) reg

abbrev pub in_ring : Class → (Ring → Ring) → Register → Register
in_ring c f reg = with_rings (swap c (f (pick c reg.rings)) reg.rings) reg

-- ---- positions: bucket mod ring
abbrev pub generation_at : Ring → ℕ → Generation
generation_at ring b = get_or ring (b % length ring) empty

abbrev pub with_generation : Ring → ℕ → Generation → Ring
with_generation ring b g = set ring (b % length ring) g

-- whether a ring holds a fingerprint in a bucket, and in any
unfoldable pub holds : ℕ → ℕ → Ring → Bool
holds b fp ring = eqb (generation_at ring b).bucket b && among fp (generation_at ring b).slots

unfoldable pub holds_any : ℕ → Ring → Bool
holds_any fp [] = false
holds_any fp (g ∷ gs) = among fp g.slots || holds_any fp gs

abbrev pub any_class : (Ring → Bool) → Each Ring → Bool
any_class f e = f e.of_feeders || (f e.of_peers || f e.of_own)

-- a fingerprint is inserted into a class's ring
unfoldable pub strike : Class → ℕ → ℕ → ℕ → Register → Register
strike c b fp stamp reg =
    let ring = pick c reg.rings in
    with_rings (swap c (with_generation ring b (insert b fp stamp (generation_at ring b))) reg.rings) reg

-- ---- sweep
-- what is dropped by a sweep: "a held generation with bucket < through"
unfoldable pub passed : ℕ → Generation → Bool
passed through g = ltb g.bucket through && not (eqb (held g) 0)

-- a floor and a ring on a sweep's way
pub record Swept : Type 0 where
  pub floor : Option ℕ
  pub ring : Ring

-- one position is visited: what is dropped raises the floor by its newest stamp
unfoldable pub visit : ℕ → ℕ → Swept → Swept
visit through b w =
    let g = generation_at w.ring b in
    if passed through g then record { floor = raise w.floor g.newest; ring = with_generation w.ring b (dropped g) } else w

-- the positions of n buckets from b on
unfoldable pub visits : ℕ → ℕ → ℕ → Swept → Swept
visits zero through b w = w
visits (suc n) through b w = visits n through (suc b) (visit through b w)

unfoldable pub sweep_ring : ℕ → ℕ → Option ℕ → Ring → Swept
sweep_ring from through floor ring = visits (through - from) through from (record { floor = floor; ring = ring })

abbrev pub swept_to : ℕ → Register → Register
swept_to through reg = record { swept = through; floor = reg.floor; pending = reg.pending; spare = reg.spare; rings = reg.rings }

unfoldable pub sweep_rings : ℕ → ℕ → Register → Register
sweep_rings from through reg =
    let a = sweep_ring from through reg.floor reg.rings.of_feeders in
    let b = sweep_ring from through a.floor reg.rings.of_peers in
    let c = sweep_ring from through b.floor reg.rings.of_own in
    record {
      swept = through;
      floor = c.floor;
      pending = reg.pending;
      spare = reg.spare;
      rings = record { of_feeders = a.ring; of_peers = b.ring; of_own = c.ring };
    }

-- "Through = ceil(reading / bucket)"
unfoldable pub through_of : Usable → ℕ → ℕ
through_of u ms = ceil ms u.bucket

-- "If through ≤ swept, swept becomes through. Otherwise positions of buckets from max(swept, through − ring) up to, not including,
-- through are visited .. A pending register does not sweep."
unfoldable pub sweep : Usable → ℕ → Register → Register
sweep u ms reg =
    let through = through_of u ms in
    if reg.pending then reg
    else if leb through reg.swept then swept_to through reg
    else sweep_rings (max reg.swept (through - ring_of u)) through reg

-- "Each register's published sweep is swept × bucket, capped at 2^64 − 1."
unfoldable pub published : Usable → ℕ → ℕ
published u swept = cap64 (swept * u.bucket)

-- ---- "Starts are Empty, Fallback, At(floor)."
-- 13 spare words, all 0 at opening
abbrev pub spare_words : ℕ
spare_words = 13

abbrev pub started_with : Usable → Option ℕ → Bool → Register
started_with u floor pending = record {
  swept = 0;
  floor = floor;
  pending = pending;
  spare = replicate spare_words 0;
  rings = three (replicate (ring_of u) empty);
}

unfoldable pub started : Usable → Start → Register
started u Empty = started_with u None false
started u Fallback = started_with u None true
started u (At f) = started_with u (Some f) false

-- ---- begin: "a Fallback start is pending until it raises the floor to the host's number; later begins answer Already"
unfoldable pub begin : ℕ → Register → Register
begin number reg =
    if reg.pending then record { swept = reg.swept; floor = raise reg.floor number; pending = false; spare = reg.spare; rings = reg.rings }
    else reg

-- the rules of this file, for a theorem that computes
unfoldable pub compute_register : ℕ
unfolding holds holds_any strike passed visit visits sweep_ring sweep_rings through_of sweep published started begin
compute_register = 0
