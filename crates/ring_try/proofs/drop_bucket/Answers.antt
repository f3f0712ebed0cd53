use Rattle.ring_try.proofs.drop_bucket.Goals as goal

pub drop_bucket-requires : goal.drop_bucket-requires
drop_bucket-requires c = c.is_ring.ensures c.if-not-is_ring.false
