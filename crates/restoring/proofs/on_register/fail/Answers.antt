use Rattle.restoring.proofs.Registers.{fail_acts}
use Rattle.taking.proofs.InRun.{register_asks}
use Rattle.restoring.proofs.on_register.fail.Goals as goal

pub fail-requires : goal.fail-requires
fail-requires c =
    let on = c.args.on.now in
    let w = c.words.ensures in
    rw (w.start, w.end) (register_asks on.s on.r on.at.below _ on.at c.args.run.now c.requires)

pub returns : goal.returns
returns c =
    let on = c.args.on.now in
    let w = c.words.ensures in
    rw (w.start, w.end) (fail_acts on.s on.r on.at.below _ on.at c.args.run.now _ c.requires c.args.h (rw (w.start, w.end) at c.fail.ensures.1))
