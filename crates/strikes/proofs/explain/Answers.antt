use Rattle.model.specs.Answer.{Because}
use Rattle.model.specs.Calls.{deed_fits}
use Rattle.model.proofs.Refused.{listed_ok}
use Rattle.strikes.proofs.OnRegister.{code_refused, deed_refused}
use Rattle.strikes.proofs.OnWhole.{run_there}
use Rattle.strikes.proofs.Runs.{was_explained}
use Rattle.strikes.proofs.explain.Goals as goal

pub returns-in_err-ask : goal.returns-in_err-ask
unfolding deed_fits
returns-in_err-ask c = (code_refused Because _ _ _ _ _ _ c.from_residual.ensures.1 _ c.in_err-ask.ensures).answer

pub returns-in_err-on : goal.returns-in_err-on
unfolding deed_fits
returns-in_err-on c = (deed_refused Because _ _ _ _ _ _ c.from_residual-in_err-on.ensures.1 (listed_ok _ c.in_ok-ask.ensures).0 c.in_err-on.ensures).answer

pub explain-requires : goal.explain-requires
explain-requires c = run_there c.in_ok-on.ensures

pub returns : goal.returns
returns c = was_explained _ _ _ _ _ _ _ c.in_ok-on.ensures c.in_ok-ask.ensures search
