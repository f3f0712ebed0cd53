use Rattle.seeking.proofs.Trying.{window_start, window_on, window_end}
use Rattle.seeking.proofs.tries.of_window.Goals as goal

pub loop-k-init : goal.loop-k-init
loop-k-init c = search window_start

pub loop-k-preserved : goal.loop-k-preserved
loop-k-preserved c = search window_on

pub returns : goal.returns
returns c = search window_end
