use native.Mathlib.Omega.{arith}
use Rattle.restoring.proofs.Generations.{returns_start, returns_next, returns_end}
use Rattle.restoring.proofs.holding.give_back_all.Goals as goal

pub loop-draw-init : goal.loop-draw-init
loop-draw-init c = search returns_start

pub loop-draw-preserved : goal.loop-draw-preserved
loop-draw-preserved c = search returns_next

pub returns : goal.returns
returns c =
    let i = c.loop-draw in
    (i.invariant.words, returns_end c.args.on.now.s c.args.on.now.r c.args.h c.args.run.now c.args.draws _ i._draw i.invariant (omega arith))
