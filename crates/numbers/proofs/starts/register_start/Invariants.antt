use Rattle.numbers.proofs.Placing.{Added}
use Rattle.numbers.proofs.starts.register_start.Given as goal

abbrev pub invariant-loop-u : goal.invariant-loop-u
invariant-loop-u l = Added l.fn.s l.register l.start l.u-index
