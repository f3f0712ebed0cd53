-- One class of a state's share book, expired.
use Rattle.std.specs.Prelude.{ℕ}
use Rattle.model.specs.declared.Class.{Class}
use Rattle.model.specs.Class.{pick, swap}
use Rattle.model.specs.Book.{Book, expire_class}
use Rattle.model.specs.Words.{State}
use Rattle.model.specs.Calls.{with_book}

abbrev pub book_expired : Class → ℕ → Book → Book
book_expired c t k = record { limits = k.limits; closed = k.closed; classes = swap c (expire_class t (pick c k.classes)) k.classes }

unfoldable pub class_expired : Class → ℕ → State → State
class_expired c t w = with_book (book_expired c t w.book) w
