-- The classes before the index are swept.
use Rattle.register.proofs.Sweeps.{Sweeping}
use Rattle.register.proofs.sweeping.sweep_rings.Given as goal

abbrev pub invariant-loop-class : goal.invariant-loop-class
invariant-loop-class l = Sweeping l.rings.u l.buckets.from.0 l.buckets.through.0 l.initial.part l.class-index l.part
