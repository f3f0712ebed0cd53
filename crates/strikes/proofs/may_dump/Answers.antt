use Rattle.strikes.proofs.OnOutput.{tried_pending, tried_short, tried_all}
use Rattle.strikes.proofs.may_dump.Goals as goal

pub returns-then-pending : goal.returns-then-pending
returns-then-pending c = tried_pending _ _ c.is_pending-pending.ensures.register_reads c.dump_length-long.ensures c.if-pending.true

pub returns-then-room-long : goal.returns-then-room-long
returns-then-room-long c = tried_short _ _ c.is_pending-pending.ensures.register_reads c.dump_length-long.ensures c.if-pending.false c.if-room-long.true

pub returns : goal.returns
returns c = tried_all _ _ c.is_pending-pending.ensures.register_reads c.dump_length-long.ensures c.if-pending.false c.if-room-long.false
