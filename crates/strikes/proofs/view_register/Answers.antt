use Rattle.model.specs.Answer.{Viewed}
use Rattle.strikes.proofs.OnRegister.{words_there}
use Rattle.strikes.proofs.OnOutput.{view_shut, view_short, view_holds, view_told}
use Rattle.strikes.proofs.view_register.Goals as goal

pub returns-in_err-at : goal.returns-in_err-at
returns-in_err-at c = view_shut _ _ _ _ Viewed _ _ c.from_residual.ensures.1 c.in_err-at.ensures

pub view_length-long-requires : goal.view_length-long-requires
view_length-long-requires c = let w = c.words.ensures in rw (w.start, w.end) (words_there c.in_ok-at.ensures)

pub returns-then-out-long : goal.returns-then-out-long
returns-then-out-long c =
    let w = c.words.ensures in
    view_short _ _ _ _ c.in_ok-at.ensures (rw (w.start, w.end) at c.view_length-long.ensures) c.if-out-long.true

pub view-requires : goal.view-requires
view-requires c =
    let w = c.words.ensures in
    (rw (w.start, w.end) (words_there c.in_ok-at.ensures), view_holds _ c.view_length-long.ensures c.if-out-long.false)

pub returns : goal.returns
returns c =
    let w = c.words.ensures in
    view_told _ _ _ _ c.in_ok-at.ensures (rw (w.start, w.end) at c.view_length-long.ensures) c.if-out-long.false (rw (w.start, w.end) at c.view.ensures)
