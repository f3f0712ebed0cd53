-- The model's rules on one generation, as the functions of this crate name them.
use Rattle.std.specs.Prelude.{ℕ, max, Bool, cond, ◌&&◌, Option, Some, None, eqb, leb}
use Rattle.model.specs.declared.Room.{Room}
use Rattle.model.specs.declared.Room.TheVariants.{At, Collides, Full}
use Rattle.model.specs.Generation.{Generation, oldest_with, held, among, put, slots_for, grown, dropped}
use Rattle.model.specs.Register.{passed}
use Rattle.model.specs.Judge.{collides}

-- what a ring's `holds` asks of the generation at the bucket's position
abbrev pub holds_in : ℕ → ℕ → Generation → Bool
holds_in b fp g = eqb g.bucket b && among fp g.slots

-- what a ring's `make_room` says where the generation at position i has at most `most` slots
abbrev pub room_in : Bool → ℕ → ℕ → ℕ → Generation → Room
room_in known b i most g = cond (collides b g) Collides (cond (leb (slots_for known g.slots) most) (At i) Full)

-- the same for a fingerprint, which it may hold
abbrev pub room_for : ℕ → ℕ → ℕ → ℕ → Generation → Room
room_for fp b i most g = room_in (among fp g.slots) b i most g

-- the two halves of an insertion: growth, and then the fingerprint with its bucket and stamp
abbrev pub with_slots_for : Bool → Generation → Generation
with_slots_for known g = record { bucket = g.bucket; oldest = g.oldest; newest = g.newest; slots = grown (slots_for known g.slots) g.slots }

abbrev pub entered : ℕ → ℕ → ℕ → Generation → Generation
entered b fp stamp g = record { bucket = b; oldest = oldest_with stamp g; newest = max g.newest stamp; slots = put g.slots fp }

-- a drop answers the newest that went
abbrev pub drop_says : Generation → Option ℕ
drop_says g = cond (eqb (held g) 0) None (Some g.newest)

-- what a ring's `drop_bucket` does to the generation at the bucket's position
abbrev pub dropped_in : ℕ → Generation → Generation
dropped_in b g = cond (eqb g.bucket b) (dropped g) g

abbrev pub drop_in_says : ℕ → Generation → Option ℕ
drop_in_says b g = cond (eqb g.bucket b) (drop_says g) None

-- one position of a sweep: what is passed is dropped
abbrev pub swept_at : ℕ → Generation → Generation
swept_at through g = cond (passed through g) (dropped g) g

abbrev pub sweep_says : ℕ → Generation → Option ℕ
sweep_says through g = cond (passed through g) (Some g.newest) None
