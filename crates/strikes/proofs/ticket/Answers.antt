use Rattle.strikes.proofs.Deeds.{ask_refused, ticket_refused}
use Rattle.strikes.proofs.OnWhole.{run_there}
use Rattle.strikes.proofs.Runs.{was_asked}
use Rattle.strikes.proofs.ticket.Goals as goal

pub returns-in_err-ask : goal.returns-in_err-ask
returns-in_err-ask c = ask_refused _ _ _ _ _ _ _ c.from_residual.ensures.1 c.in_err-ask.ensures

pub returns-in_err-on : goal.returns-in_err-on
returns-in_err-on c = ticket_refused _ _ _ _ _ _ _ c.from_residual-in_err-on.ensures.1 c.in_ok-ask.ensures c.in_err-on.ensures

pub ask-requires : goal.ask-requires
ask-requires c = run_there c.in_ok-on.ensures

pub returns : goal.returns
returns c = was_asked _ _ _ _ _ _ _ _ _ c.in_ok-on.ensures c.in_ok-ask.ensures search
