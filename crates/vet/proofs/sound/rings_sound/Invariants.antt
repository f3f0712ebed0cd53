-- The rings before were tested, and `all` is the answer for them.
use Rattle.model.specs.RegisterWords.{ring_form}
use Rattle.vet.proofs.Rings.{Left}
use Rattle.vet.proofs.sound.rings_sound.Given as goal

abbrev pub invariant-loop-ring : goal.invariant-loop-ring
invariant-loop-ring l = Left (ring_form l.fn.u) l.rings l.ring-iterator.size l.ring-iterator.rest.now l.all
