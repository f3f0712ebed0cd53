use Prim.Native.Nat.{suc, ◌*◌, ◌<◌, ◌≤◌}
use native.Mathlib.Omega.{arith}
use mathlib.Core.Path.{sym, ◌∙◌}
use Rattle.generation.specs.Slots.{slots_after}
use Rattle.generation.proofs.Doubling.{doubled_on, doubled_end}
use Rattle.generation.proofs.Generation.doubled_slots.Goals as goal

pub loop-n-init : goal.loop-n-init
unfolding slots_after
loop-n-init c = let e = c.max-n.ensures in (omega arith, omega arith, rw e)

pub loop-n-preserved : goal.loop-n-preserved
loop-n-preserved c =
    let l = c.loop-n in
    let t : 3 * l.n < 4 * suc c.args.self.held = let k = c.loop-n-test.true in omega arith in
    (omega arith, omega arith, sym (doubled_on (suc c.args.self.held) l.n l.invariant.0 t) ∙ l.invariant.2)

pub returns : goal.returns
returns c =
    let l = c.loop-n in
    let t : 4 * suc c.args.self.held ≤ 3 * l.n = let k = c.loop-n-test.false in omega arith in
    sym (doubled_end (suc c.args.self.held) l.n l.invariant.0 t) ∙ l.invariant.2
