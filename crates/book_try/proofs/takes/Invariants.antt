use Rattle.model.specs.declared.Class.TheVariants.{Feeders}
use Rattle.book.specs.ClassRules.{ClassIs}
use Rattle.book_try.specs.Fixed.{fixed}
use Rattle.book_try.proofs.takes.Given as goal

abbrev pub invariant-draws : goal.invariant-draws
invariant-draws g l = ClassIs fixed Feeders l.words
