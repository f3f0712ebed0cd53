-- The places that are left have that deliverer if all have it.
use Rattle.model.specs.BookWords.{read_who}
use Rattle.book_sound.proofs.Twice.{Seeks}
use Rattle.book_sound.proofs.apart.has_who.Given as goal

abbrev pub invariant-loop-other : goal.invariant-loop-other
invariant-loop-other l = Seeks l.fn.shares l.class l.places (read_who l.class l.code.kind l.code.number) l.other-iterator.size l.other-iterator.rest.now
