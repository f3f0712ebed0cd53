use Rattle.model.specs.Calls.{deed_fits}
use Rattle.model.proofs.Refused.{listed_ok}
use Rattle.strikes.specs.Calls.{restored_heard}
use Rattle.strikes.proofs.OnRegister.{code_refused, deed_refused}
use Rattle.strikes.proofs.OnWhole.{run_there}
use Rattle.strikes.proofs.OnRestore.{resume_cut, was_resumed}
use Rattle.strikes.proofs.resume.Goals as goal

pub returns-in_err-flag : goal.returns-in_err-flag
unfolding deed_fits
returns-in_err-flag c = code_refused restored_heard _ _ _ _ _ _ c.from_residual.ensures.1 _ c.in_err-flag.ensures

pub returns-in_err-on : goal.returns-in_err-on
unfolding deed_fits
returns-in_err-on c = deed_refused restored_heard _ _ _ _ _ _ c.from_residual-in_err-on.ensures.1 (listed_ok _ c.in_ok-flag.ensures).0 c.in_err-on.ensures

pub returns-in_err-dump : goal.returns-in_err-dump
returns-in_err-dump c = resume_cut restored_heard c.in_ok-on.ensures _ _ c.from_residual-in_err-dump.ensures.1 _ _ c.read_lengths.ensures c.in_err-dump.ensures.value c.in_ok-flag.ensures

pub resume-whole-requires : goal.resume-whole-requires
resume-whole-requires c = run_there c.in_ok-on.ensures

pub returns : goal.returns
returns c =
    was_resumed _ _ c.read_lengths.ensures c.in_ok-dump.ensures.value c.in_ok-on.ensures _
    c.told_restored.ensures c.in_ok-flag.ensures c.then_some-proven.ensures search
