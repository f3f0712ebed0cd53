use Rattle.model.specs.Answer.{Entries}
use Rattle.strikes.proofs.OnClass.{holder_unlisted, held_refused, deliverer_lies, entries_told}
use Rattle.strikes.proofs.held.Goals as goal

pub returns-in_err-who : goal.returns-in_err-who
returns-in_err-who c = holder_unlisted Entries _ _ _ _ c.from_residual.ensures.1 _ _ c.in_err-who.ensures

pub returns-in_err-at : goal.returns-in_err-at
returns-in_err-at c = held_refused Entries _ _ _ _ c.from_residual-in_err-at.ensures.1 _ _ _ c.in_ok-who.ensures c.in_err-at.ensures

pub held_by-requires : goal.held_by-requires
held_by-requires c = deliverer_lies c.in_ok-at.ensures _ c.from.ensures

pub returns : goal.returns
returns c = entries_told c.in_ok-at.ensures _ c.from.ensures _ _ c.in_ok-who.ensures c.held_by.ensures
