use Rattle.register.proofs.Foreseen.{raised_start, raised_on, raised_end}
use Rattle.register.proofs.peeking.see_rings.Goals as goal

pub loop-class-init : goal.loop-class-init
loop-class-init c = raised_start _ _ _

pub loop-class-preserved : goal.loop-class-preserved
loop-class-preserved c = search raised_on

pub returns : goal.returns
returns c = search raised_end
