use Rattle.restoring.proofs.Registers.{hold_stays, hold_strikes}
use Rattle.restoring.proofs.on_register.hold_in.Goals as goal

pub returns-in_default : goal.returns-in_default
returns-in_default c = hold_stays c.args.u c.args.h c.args.fp c.args.part.now _ _ c.from-print.ensures c.room.ensures c.in_default.not-At

pub strike-requires : goal.strike-requires
strike-requires c = (c.requires, rw c.in-At.is at c.room.ensures)

pub returns : goal.returns
returns c = hold_strikes c.args.u c.args.h c.args.fp c.args.part.now _ _ _ _ c.from-print.ensures c.in-At.is c.room.ensures c.strike.ensures
