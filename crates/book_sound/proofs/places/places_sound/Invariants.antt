-- The places before those that are left are used and sound, `sums` are theirs, and `left` are the words that are left.
use mathlib.Core.Path.{◌≡◌}
use Rattle.book_sound.proofs.Adding.{Adds}
use Rattle.book_sound.proofs.places.places_sound.Given as goal

abbrev pub invariant-loop-place : goal.invariant-loop-place
invariant-loop-place l =
    Adds l.shares l.class l.body l.totals l.sums l.place-iterator.size l.place-iterator.rest.now × (l.left ≡ l.place-iterator.rest.now)
