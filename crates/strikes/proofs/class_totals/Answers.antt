use Rattle.strikes.specs.Calls.{totals_heard}
use Rattle.strikes.proofs.OnClass.{class_unlisted, totals_refused, totals_there, totals_told}
use Rattle.strikes.proofs.class_totals.Goals as goal

pub returns-in_err-named : goal.returns-in_err-named
returns-in_err-named c = class_unlisted totals_heard _ _ _ _ c.from_residual.ensures.1 _ c.in_err-named.ensures

pub returns-in_err-at : goal.returns-in_err-at
returns-in_err-at c = totals_refused totals_heard _ _ _ _ c.from_residual-in_err-at.ensures.1 _ _ c.in_ok-named.ensures c.in_err-at.ensures

pub held_of-requires : goal.held_of-requires
held_of-requires c = totals_there c.in_ok-at.ensures

pub returns : goal.returns
returns c = totals_told c.in_ok-at.ensures _ c.in_ok-named.ensures c.held_of.ensures.class_reads
