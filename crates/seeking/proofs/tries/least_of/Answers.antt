use Rattle.seeking.proofs.Trying.{list_start, list_on, list_end}
use Rattle.seeking.proofs.tries.least_of.Goals as goal

pub loop-stamp-init : goal.loop-stamp-init
loop-stamp-init c = search list_start

pub loop-stamp-preserved : goal.loop-stamp-preserved
loop-stamp-preserved c = search list_on

pub returns : goal.returns
returns c = search list_end
