use Rattle.seeking.proofs.Trying.{Listed}
use Rattle.seeking.proofs.tries.least_of.Given as goal

abbrev pub invariant-loop-stamp : goal.invariant-loop-stamp
invariant-loop-stamp l = Listed l.q l.run l.stamps l.initial.best l.stamp-index l.best
