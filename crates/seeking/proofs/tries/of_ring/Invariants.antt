use Rattle.seeking.proofs.Trying.{Ringed}
use Rattle.seeking.proofs.tries.of_ring.Given as goal

abbrev pub invariant-loop-i : goal.invariant-loop-i
invariant-loop-i l = Ringed l.q l.class l.run l.i-end l.initial.best l.i l.best
