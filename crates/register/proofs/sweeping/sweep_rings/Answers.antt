use Rattle.register.proofs.Sweeps.{sweeping_start, sweeping_on, sweeping_end}
use Rattle.register.proofs.sweeping.sweep_rings.Goals as goal

pub loop-class-init : goal.loop-class-init
loop-class-init c = sweeping_start _ _ _ _ c.requires

pub loop-class-preserved : goal.loop-class-preserved
loop-class-preserved c = search sweeping_on

pub returns : goal.returns
returns c = search sweeping_end
