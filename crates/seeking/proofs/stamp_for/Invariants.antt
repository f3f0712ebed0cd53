-- The rings of the classes from the index on are left to try.
use Rattle.seeking.proofs.Sought.{Ringing}
use Rattle.seeking.proofs.stamp_for.Given as goal

abbrev pub invariant-loop-class : goal.invariant-loop-class
invariant-loop-class l = Ringing l.q l.run l.initial.best l.class-index l.best
