use mathlib.Core.Path.{refl}
use Rattle.model.specs.Calls.{deed_fits}
use Rattle.strikes.specs.Calls.{restored_heard}
use Rattle.strikes.proofs.OnRegister.{deed_refused}
use Rattle.strikes.proofs.OnWhole.{run_there}
use Rattle.strikes.proofs.OnRestore.{restore_cut, was_restored}
use Rattle.strikes.proofs.restore.Goals as goal

pub returns-in_err-on : goal.returns-in_err-on
unfolding deed_fits
returns-in_err-on c = deed_refused restored_heard _ _ _ _ _ _ c.from_residual.ensures.1 refl c.in_err-on.ensures

pub returns-in_err-dump : goal.returns-in_err-dump
returns-in_err-dump c = restore_cut restored_heard c.in_ok-on.ensures _ _ c.from_residual-in_err-dump.ensures.1 _ _ c.read_lengths.ensures c.in_err-dump.ensures.value

pub restore-whole-requires : goal.restore-whole-requires
restore-whole-requires c = run_there c.in_ok-on.ensures

pub returns : goal.returns
returns c = was_restored _ _ c.read_lengths.ensures c.in_ok-dump.ensures.value c.in_ok-on.ensures _ c.told_restored.ensures search
