-- The words of the registers so far.
use Rattle.numbers.proofs.Needed.{RingsAdded}
use Rattle.numbers.proofs.bounds.words_in_bounds.Given as goal

abbrev pub invariant-loop-u : goal.invariant-loop-u
invariant-loop-u l = RingsAdded l.fn.s l.rings l.u-index
