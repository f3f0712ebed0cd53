-- The places that are left are distinct if all are, and `later` are their words.
use mathlib.Core.Path.{◌≡◌}
use Rattle.book_sound.proofs.Twice.{Apart}
use Rattle.book_sound.proofs.apart.distinct.Given as goal

abbrev pub invariant-loop-place : goal.invariant-loop-place
invariant-loop-place l =
    Apart l.shares l.class l.body l.place-iterator.size l.place-iterator.rest.now × (l.later ≡ l.place-iterator.rest.now)
