use Rattle.taking.proofs.Taking.{no_room_turns, room_after, room_turns}
use Rattle.taking.proofs.take_room.Goals as goal

pub returns-in_default : goal.returns-in_default
returns-in_default c = no_room_turns c.args.on.now.s c.args.on.now.r c.args.ticket c.args.run.now _ _ _ c.room-room.ensures c.in_default.not-At c.from.ensures c.from-in_default.ensures

pub strike-requires : goal.strike-requires
strike-requires c =
    let n = c.enter.ensures in (
      n.0,
      room_after c.args.on.now.s c.args.on.now.r c.args.ticket c.args.run.now _ c.requires.0 c.args.spot
          c.requires.1 _ (rw c.in-At.is at c.room-room.ensures) n.1,
    )

pub returns : goal.returns
returns c =
    room_turns c.args.on.now.s c.args.on.now.r c.args.ticket c.args.run.now _ _ c.requires.0 c.args.spot c.requires.1 _ _ c.in-At.is c.room-room.ensures
    c.enter.ensures.1 c.strike.ensures
