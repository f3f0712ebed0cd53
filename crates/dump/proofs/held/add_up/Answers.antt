use native.Mathlib.Omega.{arith}
use Rattle.dump.proofs.Turns.{rest_here, rest_on, count_step, total_step, total_none}
use Rattle.dump.proofs.held.add_up.Goals as goal

pub count-n-requires : goal.count-n-requires
count-n-requires g c = rest_here c.in-Some.part.now c.next.new.self.rest.now c.in-Some.ensures.steps.1 c.loop-part.invariant.left

pub loop-part-preserved : goal.loop-part-preserved
loop-part-preserved g c =
    let before = c.loop-part.invariant in
    let s = c.in-Some.ensures.steps in
    let x = c.in-Some.part.now in
    let q = c.next.new.self.rest.now in
    let one = c.count-n.ensures in
    let step = total_step x q s.1 before.left g.C.Counted.counted in
    let count = count_step x q s.1 before.left in
    let sum = before.sum in
    let few = before.few in
    record { left = rest_on x q s.1 before.left s.0; sum = omega arith; few = omega arith }

pub returns-clause-value : goal.returns-clause-value
returns-clause-value g c =
    let left = total_none c.in-None.ensures.steps.1.0 c.loop-part.invariant.left g.C.Counted.counted in
    let sum = c.loop-part.invariant.sum in
    omega arith
