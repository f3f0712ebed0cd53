-- Of every ring that the words may be: what is left to look through.
use Rattle.ring.proofs.Finding.{LookedThrough}
use Rattle.ring.proofs.contains_any.Given as goal

abbrev pub invariant-loop-part : goal.invariant-loop-part
invariant-loop-part l =
    let shape = l.fn.shape in
    LookedThrough shape.slots shape.ring l.fp.word l.words l.part-iterator.size l.part-iterator.rest.now l.any
