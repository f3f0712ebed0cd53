-- Of every ring that the words may be: the loop stands on the way of its sweep's floor, at bucket b.
use Rattle.ring.proofs.Foreseen.{Looks}
use Rattle.ring.proofs.peeking.newest_passed.Given as goal

abbrev pub invariant-loop-b : goal.invariant-loop-b
invariant-loop-b l = Looks l.shape.slots l.shape.ring l.buckets.from.0 l.buckets.through.0 l.words l.b l.went
