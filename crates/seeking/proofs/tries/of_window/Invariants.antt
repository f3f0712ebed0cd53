use Rattle.seeking.proofs.Trying.{Windowed}
use Rattle.seeking.proofs.tries.of_window.Given as goal

abbrev pub invariant-loop-k : goal.invariant-loop-k
invariant-loop-k l = Windowed l.q l.run l.through.0 l.k-end l.initial.best l.k l.best
