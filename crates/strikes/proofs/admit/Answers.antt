use Rattle.strikes.proofs.Entering.{vetted_exit, unknown, admitted}
use Rattle.strikes.proofs.admit.Goals as goal

pub returns-in_err-s : goal.returns-in_err-s
returns-in_err-s c = vetted_exit _ _ _ _ _ c.from_residual.ensures.1 c.in_err-s.ensures

pub returns-then-s-register : goal.returns-then-s-register
returns-then-s-register c = unknown c.in_ok-s.ensures _ c.if-s-register.true

pub returns : goal.returns
returns c = admitted c.in_ok-s.ensures _ c.if-s-register.false _ _ _
