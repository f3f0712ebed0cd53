use native.Mathlib.Omega.{arith}
use Rattle.generation.proofs.Crowding.{gapless_start, gapless_on, gapless_end}
use Rattle.generation.proofs.crowded.no_gaps.Goals as goal

pub loop-i-init : goal.loop-i-init
loop-i-init c = gapless_start _ _ c.run_at_end-run.ensures

pub loop-i-preserved : goal.loop-i-preserved
loop-i-preserved c =
    let l = c.loop-i in
    gapless_on _ l.all l.run l.i l.invariant (omega arith) _ _ c.passed_to-passed.ensures c.run_with-run.ensures

pub returns : goal.returns
returns c = let l = c.loop-i in gapless_end _ l.all l.run l.i l.invariant (omega arith)
