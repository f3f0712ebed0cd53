use Rattle.ring_try.proofs.strike.Goals as goal

pub room-room-requires : goal.room-room-requires
room-room-requires c = rw c.position_of.ensures.shape (c.is_ring.ensures c.if-not-is_ring.false)

pub insert-requires : goal.insert-requires
insert-requires c = (c.is_ring.ensures c.if-not-is_ring.false, rw (c.in-At.is, c.position_of.ensures.shape, c.position_of.ensures.bucket) at c.room-room.ensures)
