use Rattle.model.specs.Answer.{Viewed}
use Rattle.strikes.proofs.OnClass.{deliverer_lies}
use Rattle.strikes.proofs.OnOutput.{viewer_unlisted, deliverer_shut, deliverer_short, deliverer_holds, deliverer_told}
use Rattle.strikes.proofs.view_deliverer.Goals as goal

pub returns-in_err-who : goal.returns-in_err-who
returns-in_err-who c = viewer_unlisted _ _ _ _ _ Viewed _ _ c.from_residual.ensures.1 c.in_err-who.ensures

pub returns-in_err-at : goal.returns-in_err-at
returns-in_err-at c = deliverer_shut _ _ _ _ _ Viewed _ _ c.from_residual-in_err-at.ensures.1 c.in_ok-who.ensures c.in_err-at.ensures

pub view_length-long-requires : goal.view_length-long-requires
view_length-long-requires c = deliverer_lies c.in_ok-at.ensures _ c.from.ensures

pub returns-then-out-long : goal.returns-then-out-long
returns-then-out-long c = deliverer_short _ _ _ _ _ c.in_ok-who.ensures c.in_ok-at.ensures c.from.ensures c.view_length-long.ensures c.if-out-long.true

pub view-requires : goal.view-requires
view-requires c = (deliverer_lies c.in_ok-at.ensures _ c.from.ensures, deliverer_holds _ c.view_length-long.ensures c.if-out-long.false)

pub returns : goal.returns
returns c =
    deliverer_told _ _ _ _ _ c.in_ok-who.ensures c.in_ok-at.ensures c.from.ensures c.view_length-long.ensures c.if-out-long.false c.view.ensures
