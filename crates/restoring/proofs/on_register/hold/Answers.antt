use Rattle.restoring.proofs.Registers.{hold_acts}
use Rattle.taking.proofs.InRun.{register_asks}
use Rattle.restoring.proofs.on_register.hold.Goals as goal

pub hold_in-requires : goal.hold_in-requires
hold_in-requires c =
    let on = c.args.on.now in
    let w = c.words.ensures in
    rw (w.start, w.end) (register_asks on.s on.r on.at.below _ on.at c.args.run.now c.requires)

pub returns : goal.returns
returns c =
    let on = c.args.on.now in
    let w = c.words.ensures in
    rw (w.start, w.end) (hold_acts on.s on.r on.at.below _ on.at c.args.run.now _ c.requires c.args.h c.args.fp _ (rw (w.start, w.end) at c.hold_in.ensures))
