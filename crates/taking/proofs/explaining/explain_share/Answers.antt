use Rattle.taking.proofs.Explains.{share_refused, share_had}
use Rattle.taking.proofs.explaining.explain_share.Goals as goal

pub returns-in-Ok : goal.returns-in-Ok
returns-in-Ok c =
    let on = c.args.on.now in
    share_had on.s on.r c.args.seen c.args.ticket c.args.run.now _ _ _ (rw c.in-Ok.is at c.look_up.ensures) c.room_after-room.ensures c.from.ensures

pub returns-in-Err : goal.returns-in-Err
returns-in-Err c =
    let on = c.args.on.now in
    share_refused on.s on.r c.args.seen c.args.ticket c.args.run.now _ _ (rw c.in-Err.is at c.look_up.ensures) c.from-in-Err.ensures
