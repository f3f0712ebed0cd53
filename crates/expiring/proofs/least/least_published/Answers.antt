use native.Mathlib.Omega.{arith}
use Rattle.expiring.proofs.LeastOf.{least_start, least_more, least_end}
use Rattle.expiring.proofs.least.least_published.Goals as goal

pub loop-r-init : goal.loop-r-init
loop-r-init c = search least_start

pub loop-r-preserved : goal.loop-r-preserved
loop-r-preserved c = search least_more

pub returns : goal.returns
returns c = least_end c.args.s c.args.reading.0 c.args.run.now c.loop-r.least c.loop-r.r c.loop-r.invariant (omega arith)
