use Rattle.seeking.proofs.Trying.{ring_below, ring_start, ring_on, ring_end}
use Rattle.seeking.proofs.tries.of_ring.Goals as goal

pub loop-i-init : goal.loop-i-init
loop-i-init c = search ring_start

pub bucket_at-requires : goal.bucket_at-requires
bucket_at-requires c = search ring_below

pub loop-i-preserved : goal.loop-i-preserved
loop-i-preserved c = search ring_on

pub returns : goal.returns
returns c = search ring_end
