-- The classes from the index on are left to expire.
use Rattle.expiring.proofs.Passing.{Expiring}
use Rattle.expiring.proofs.expire.Given as goal

abbrev pub invariant-loop-class : goal.invariant-loop-class
invariant-loop-class l = Expiring l.s l.t.0 l.initial.run l.class-index l.run
