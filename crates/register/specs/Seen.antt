-- What a sweep would leave of a register, by what was seen of it, and the rules of judge on that.
use Rattle.std.specs.Prelude.{ℕ, ◌+◌, ◌-◌, max, Bool, cond, ◌||◌, Option, Some, None, List, [], ◌∷◌, leb, ltb, if◌then◌else◌}
use Rattle.model.specs.declared.Class.{Class}
use Rattle.model.specs.declared.Class.TheVariants.{Feeders, Peers, Own}
use Rattle.model.specs.declared.Reason.{Reason}
use Rattle.model.specs.declared.Reason.TheVariants.{Floor, Behind, Ahead}
use Rattle.model.specs.declared.Room.{Room}
use Rattle.model.specs.declared.Usable.{Usable}
use Rattle.model.specs.First.{Rule, rule}
use Rattle.model.specs.Numbers.{under}
use Rattle.model.specs.Settings.{ring_of}
use Rattle.model.specs.Class.{pick, each}
use Rattle.model.specs.Register.{Register, holds, through_of, sweep}
use Rattle.model.specs.Judge.{Ask, window_for, front_past}
use Rattle.model.specs.Reason.{judge_rules, first_rule}
use Rattle.ring.specs.Sweep.{swept_ring, swept_says, raised_by, Visits, holds_after, room_after}
use Rattle.register.specs.declared.peeking.Seen.{Seen}

-- ---- what was seen
-- a sweep over no more buckets than a ring has positions
abbrev pub Sees : Usable → Seen → Type 0
Sees u s = Visits (ring_of u) s.buckets

-- its floor raised by what would go
abbrev pub seen_raised_by : Option ℕ → Seen → Seen
seen_raised_by d s = record { buckets = s.buckets; floor = raised_by d s.floor }

-- what would go of a class's ring, and of the three
unfoldable pub newest_of_class : Class → ℕ → ℕ → Register → Option ℕ
newest_of_class c from through reg = swept_says from through (pick c reg.rings)

unfoldable pub seen_rings : Seen → Register → Seen
seen_rings s reg =
    let from = s.buckets.from.0 in
    let through = s.buckets.through.0 in
    seen_raised_by (newest_of_class Own from through reg)
    (seen_raised_by (newest_of_class Peers from through reg) (seen_raised_by (newest_of_class Feeders from through reg) s))

-- what is seen of a register at a reading: the buckets whose positions `sweep` visits, and the floor that it leaves
abbrev pub seen_as : ℕ → ℕ → Option ℕ → Seen
seen_as from through floor = record { buckets = record { from = record { 0 = from }; through = record { 0 = through } }; floor = floor }

abbrev pub swept_from : Usable → ℕ → Register → ℕ
swept_from u through reg = if reg.pending || leb through reg.swept then through else max reg.swept (through - ring_of u)

unfoldable pub seen_by : Usable → ℕ → Register → Seen
seen_by u ms reg = seen_as (swept_from u (through_of u ms) reg) (through_of u ms) (sweep u ms reg).floor

-- ---- the register that the sweep would leave
unfoldable pub left_by : Seen → Register → Register
left_by s reg = record {
  swept = if reg.pending then reg.swept else s.buckets.through.0;
  floor = s.floor;
  pending = reg.pending;
  spare = reg.spare;
  rings = each (swept_ring s.buckets.from.0 s.buckets.through.0) reg.rings;
}

-- ---- the rules of judge on it
unfoldable pub class_holds : Seen → Class → ℕ → ℕ → Register → Bool
class_holds s c b fp reg = holds_after s.buckets b fp (pick c reg.rings)

abbrev pub holder_in : (Class → Bool) → Option Class
holder_in holds = cond (holds Feeders) (Some Feeders) (cond (holds Peers) (Some Peers) (cond (holds Own) (Some Own) None))

unfoldable pub holder_left : Seen → ℕ → ℕ → Register → Option Class
holder_left s b fp reg = holder_in (λ c. class_holds s c b fp reg)

-- the floor and the window's two sides
abbrev pub late_rules : Usable → Option ℕ → Ask → List (Rule Reason)
late_rules u floor a =
    let window = window_for u a.who in
    rule Floor (under a.stamp floor)
    ∷ rule Behind (ltb (a.stamp + window.behind) a.ms)
    ∷ rule Ahead (front_past window a.stamp a.ms)
    ∷ []

unfoldable pub late_rule : Usable → Option ℕ → Ask → Reason
late_rule u floor a = first_rule (late_rules u floor a)

unfoldable pub judge_rule : Usable → Seen → Ask → Register → Reason
judge_rule u s a reg = first_rule (judge_rules u (left_by s reg) a)

-- the room that a class's ring would have
unfoldable pub room_left : Usable → Seen → Class → ℕ → ℕ → Register → Room
room_left u s c b fp reg = room_after s.buckets u.slots b fp (pick c reg.rings)
