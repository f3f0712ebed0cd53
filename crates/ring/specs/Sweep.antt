-- A sweep answers the newest stamp of what went, which is what it would raise an absent floor to.
use Rattle.std.specs.Prelude.{ℕ, ◌+◌, ◌≤◌, Bool, not, ◌&&◌, Option, Some, None, eqb, get_or}
use Rattle.model.specs.declared.Room.{Room}
use Rattle.model.specs.Numbers.{raise}
use Rattle.model.specs.Generation.{empty, held}
use Rattle.model.specs.Register.{Ring, holds, sweep_ring}
use Rattle.model.specs.Judge.{make_room}
use Rattle.ring.specs.declared.Buckets.{Buckets}

abbrev pub swept_ring : ℕ → ℕ → Ring → Ring
swept_ring from through ring = (sweep_ring from through None ring).ring

abbrev pub swept_says : ℕ → ℕ → Ring → Option ℕ
swept_says from through ring = (sweep_ring from through None ring).floor

-- a floor, raised by what went; and so of two drops the newest that went
abbrev pub raised_by : Option ℕ → Option ℕ → Option ℕ
raised_by None floor = floor
raised_by (Some n) floor = raise floor n

-- a sweep over no more buckets than a ring of n has positions
pub record Visits (n : ℕ) (s : Buckets) : Type 0 where
  pub up : s.from.0 ≤ s.through.0
  pub few : s.through.0 ≤ s.from.0 + n

-- what position p holds goes by a sweep: it holds something, and nothing after it
unfoldable pub goes_at : Buckets → ℕ → Ring → Bool
goes_at s p ring = not (eqb (held (get_or ring p empty)) 0) && eqb (held (get_or (swept_ring s.from.0 s.through.0 ring) p empty)) 0

-- what is held in a bucket after a sweep, and the room that there is
unfoldable pub holds_after : Buckets → ℕ → ℕ → Ring → Bool
holds_after s b fp ring = holds b fp (swept_ring s.from.0 s.through.0 ring)

unfoldable pub room_after : Buckets → ℕ → ℕ → ℕ → Ring → Room
room_after s most b fp ring = make_room most b fp (swept_ring s.from.0 s.through.0 ring)
