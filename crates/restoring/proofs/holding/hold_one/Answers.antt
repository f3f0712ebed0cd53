use native.Mathlib.Omega.{arith}
use Rattle.restoring.proofs.Generations.{one_refused, one_drawn}
use Rattle.restoring.proofs.holding.hold_one.Goals as goal

pub returns-then-not-draw : goal.returns-then-not-draw
returns-then-not-draw c =
    let d = c.draw.ensures in
    (d.0, (one_refused c.args.on.now.s c.args.on.now.r c.args.h c.requires.0.1 c.args.fp c.args.draws c.args.run.now _ _ c.if-not-draw.true d.1, omega arith))

pub returns-then-not-hold : goal.returns-then-not-hold
returns-then-not-hold c =
    let e = c.hold.ensures in (
      e.0,
      (
        one_drawn c.args.on.now.s c.args.on.now.r c.args.h c.requires.0.1 c.args.fp c.args.draws c.args.run.now _ _ _ _ c.if-not-draw.false c.draw.ensures.1 e.1 _ (rw c.if-not-hold.true),
        omega arith,
      ),
    )

pub returns : goal.returns
returns c =
    let e = c.hold.ensures in (
      e.0,
      (
        one_drawn c.args.on.now.s c.args.on.now.r c.args.h c.requires.0.1 c.args.fp c.args.draws c.args.run.now _ _ _ _ c.if-not-draw.false c.draw.ensures.1 e.1 _ (rw c.if-not-hold.false),
        omega arith,
      ),
    )
