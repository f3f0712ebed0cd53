use Rattle.strikes.proofs.Entering.{register_exit, span_there}
use Rattle.strikes.proofs.enter_register.Goals as goal

pub returns-in_err-on : goal.returns-in_err-on
returns-in_err-on c = register_exit _ _ _ _ _ c.from_residual.ensures.1 c.in_err-on.ensures

pub returns : goal.returns
returns c = span_there c.in_ok-on.ensures
