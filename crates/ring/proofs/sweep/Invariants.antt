-- Of every ring that the words were at first: the loop stands on the way of its sweep, at bucket b.
use Rattle.ring.proofs.Sweeping.{Sweeps}
use Rattle.ring.proofs.sweep.Given as goal

abbrev pub invariant-loop-b : goal.invariant-loop-b
invariant-loop-b l = Sweeps l.shape.slots l.shape.ring l.buckets.from.0 l.buckets.through.0 l.initial.words l.b l.words l.went
