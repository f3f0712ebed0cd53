use Rattle.taking.proofs.Taking.{no_share_turns, share_turns}
use Rattle.taking.proofs.take_share.Goals as goal

pub returns-in_default : goal.returns-in_default
returns-in_default c =
    let on = c.args.on.now in
    no_share_turns on.s on.r c.args.ticket c.args.run.now _ (rw c.in_default.is at c.look_up.ensures)

pub returns : goal.returns
returns c =
    let on = c.args.on.now in
    share_turns on.s on.r c.args.ticket c.args.run.now _ _ _ (rw c.in-Ok.is at c.look_up.ensures) c.take_room.ensures
