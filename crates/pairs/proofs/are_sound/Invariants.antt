-- The pairs before chunk i are sound, and `left` is what they leave of the entries.
use Rattle.pairs.proofs.Counting.{Left}
use Rattle.pairs.proofs.are_sound.Given as goal

abbrev pub invariant-loop-second : goal.invariant-loop-second
invariant-loop-second l = Left l.pairs l.cells l.n l.entries l.least l.left l.second-index
