use Rattle.expiring.proofs.LeastOf.{Least}
use Rattle.expiring.proofs.least.least_published.Given as goal

abbrev pub invariant-loop-r : goal.invariant-loop-r
invariant-loop-r l = Least l.s l.initial.least l.run l.least l.r
