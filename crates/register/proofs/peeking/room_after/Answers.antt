use Rattle.register.proofs.InRings.{ring_asks}
use Rattle.register.proofs.Foreseen.{ring_visits, two_slots, room_seen}
use Rattle.register.proofs.peeking.room_after.Goals as goal

pub room_after-requires : goal.room_after-requires
room_after-requires c =
    let l = rw (c.of-rings.ensures, ← c.position_of.ensures.shape) at c.words.ensures in
    search (ring_asks, ring_visits, two_slots)

pub returns : goal.returns
returns c =
    let l = rw (c.of-rings.ensures, ← c.position_of.ensures.shape) at c.words.ensures in
    rw c.position_of.ensures.bucket at (room_seen _ _ _ _ _ _ l c.args.seen _ _ _ _ c.room_after.ensures)
