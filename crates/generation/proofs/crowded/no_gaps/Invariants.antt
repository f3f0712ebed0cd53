-- The run of held slots before slot i, and what the test says of the slots before it.
use Rattle.generation.proofs.Crowding.{Gapless}
use Rattle.generation.proofs.crowded.no_gaps.Given as goal

abbrev pub invariant-loop-i : goal.invariant-loop-i
invariant-loop-i l = Gapless l.slots l.all l.run l.i
