-- The number falls with each call. The digits before the last one are written by the call, and the last one behind them.
use Rattle.decimals.proofs.+put.Given as goal

abbrev pub decreases-put : goal.decreases-put
decreases-put l = l.n
