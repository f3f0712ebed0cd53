use Rattle.register.proofs.InRings.{ring_asks, room_reads}
use Rattle.register.proofs.rings.room.Goals as goal

pub room-requires : goal.room-requires
room-requires c = let l = rw (c.of-rings.ensures, ← c.position_of.ensures.shape) at c.words.ensures in search ring_asks

pub returns : goal.returns
returns c =
    let l = rw (c.of-rings.ensures, ← c.position_of.ensures.shape) at c.words.ensures in
    rw c.position_of.ensures.bucket at (room_reads _ _ _ _ _ _ l _ _ c.room.ensures)
