use Rattle.seeking.proofs.Sought.{ringing_start, ringing_on, ringing_end, sought_told}
use Rattle.seeking.proofs.stamp_for.Goals as goal

pub loop-class-init : goal.loop-class-init
loop-class-init c = ringing_start _ _ _

pub loop-class-preserved : goal.loop-class-preserved
loop-class-preserved c = search ringing_on

pub returns : goal.returns
returns c =
    let rings = ringing_end _ _ _ _ _ c.loop-class.invariant c.loop-class-test.false in
    sought_told _ _ _ _ _ c.see-seen.ensures.1 c.of_edges-edges.ensures c.of_window-best.ensures rings
