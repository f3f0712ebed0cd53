use Rattle.pairs.proofs.PairWords.{Walked}
use Rattle.pairs.proofs.earlier.Given as goal

abbrev pub invariant-loop-i : goal.invariant-loop-i
invariant-loop-i l = Walked l.pairs l.n l.second l.cells l.i l.entries
