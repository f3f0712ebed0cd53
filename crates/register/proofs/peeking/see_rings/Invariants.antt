-- The floor is raised by the classes before the index.
use Rattle.register.proofs.Foreseen.{Raised}
use Rattle.register.proofs.peeking.see_rings.Given as goal

abbrev pub invariant-loop-class : goal.invariant-loop-class
invariant-loop-class l = Raised l.rings.u l.seen l.part l.class-index l.floor
