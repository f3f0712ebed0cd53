use Rattle.taking.proofs.Explains.{seen_here, room_after_reads}
use Rattle.taking.proofs.InRun.{register_asks}
use Rattle.taking.proofs.on_register.room_after.Goals as goal

pub room_after-requires : goal.room_after-requires
room_after-requires c =
    let on = c.args.on.now in
    let w = c.words.ensures in (
      rw (w.start, w.end) (register_asks on.s on.r on.at.below _ on.at c.args.run.now c.requires.0),
      seen_here on.s on.r _ on.at c.args.run.now c.args.seen c.requires.1,
    )

pub returns : goal.returns
returns c =
    let on = c.args.on.now in
    let w = c.words.ensures in
    room_after_reads on.s on.r _ on.at c.args.run.now c.args.seen c.args.ticket _ _ c.class.ensures (rw (w.start, w.end) at c.room_after.ensures)
