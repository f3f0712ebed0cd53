use Rattle.ring_try.proofs.sweep.Goals as goal

pub sweep-requires : goal.sweep-requires
sweep-requires c = c.is_ring.ensures c.if-not-is_ring.false
