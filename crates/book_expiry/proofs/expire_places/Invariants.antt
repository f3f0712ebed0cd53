use Rattle.std.proofs.Common.{◌≡◌, length}
use Rattle.book_expiry.specs.Walks.{Walking}
use Rattle.book_expiry.proofs.expire_places.Given as goal

abbrev pub invariant-loop-i : goal.invariant-loop-i
invariant-loop-i l = (length l.part ≡ length l.initial.part) × Walking l.shares l.class l.t l.initial.part l.i l.kept l.part
