use Rattle.register.proofs.InRings.{ring_asks, ring_below, ring_reads}
use Rattle.register.proofs.rings.bucket_at.Goals as goal

pub bucket_at-requires : goal.bucket_at-requires
bucket_at-requires c = let l = rw c.of-rings.ensures at c.words.ensures in search (ring_asks, ring_below)

pub returns : goal.returns
returns c = let l = rw c.of-rings.ensures at c.words.ensures in ring_reads _ _ _ _ _ _ l c.bucket_at.ensures
