use Rattle.ring_try.proofs.look.Goals as goal

pub contains_at-here-requires : goal.contains_at-here-requires
contains_at-here-requires c = rw c.position_of.ensures.shape (c.is_ring.ensures c.if-not-is_ring.false)

pub contains_any-any-requires : goal.contains_any-any-requires
contains_any-any-requires c = c.is_ring.ensures c.if-not-is_ring.false
