use Rattle.model.specs.Calls.{stamp_answer}
use Rattle.strikes.proofs.OnWhole.{run_there}
use Rattle.strikes.proofs.Runs.{seek_ask_refused, seek_wanted_refused, seek_refused, was_sought}
use Rattle.strikes.proofs.stamp_for.Goals as goal

pub returns-in_err-ask : goal.returns-in_err-ask
returns-in_err-ask c = seek_ask_refused _ _ _ _ stamp_answer _ _ c.from_residual.ensures.1 c.in_err-ask.ensures

pub returns-in_err-verdict : goal.returns-in_err-verdict
returns-in_err-verdict c = seek_wanted_refused _ _ _ _ c.in_ok-ask.ensures stamp_answer _ _ c.from_residual-in_err-verdict.ensures.1 c.in_err-verdict.ensures

pub returns-in_err-on : goal.returns-in_err-on
returns-in_err-on c = seek_refused _ _ _ _ c.in_ok-ask.ensures c.in_ok-verdict.ensures stamp_answer _ _ c.from_residual-in_err-on.ensures.1 c.in_err-on.ensures

pub stamp_for-requires : goal.stamp_for-requires
stamp_for-requires c = run_there c.in_ok-on.ensures

pub returns : goal.returns
returns c = was_sought _ _ _ _ c.in_ok-ask.ensures c.in_ok-verdict.ensures c.in_ok-on.ensures _ c.stamp_for.ensures
