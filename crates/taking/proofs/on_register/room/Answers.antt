use Rattle.taking.proofs.AtRegister.{room_reads}
use Rattle.taking.proofs.InRun.{register_asks}
use Rattle.taking.proofs.on_register.room.Goals as goal

pub room-requires : goal.room-requires
room-requires c =
    let on = c.args.on.now in
    let w = c.words.ensures in
    rw (w.start, w.end) (register_asks on.s on.r on.at.below _ on.at c.args.run.now c.requires)

pub returns : goal.returns
returns c =
    let on = c.args.on.now in
    let w = c.words.ensures in
    room_reads on.s on.r on.at.below _ on.at c.args.run.now c.args.ticket _ c.class.ensures _ (rw (w.start, w.end) at c.room.ensures)
