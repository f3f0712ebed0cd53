use Rattle.book.proofs.PlaceTurns.{place_inserts, entries_kept, pairs_kept}
use native.Mathlib.Omega.{arith}
use Rattle.book.proofs.place.insert.Goals as goal

pub returns : goal.returns
returns c =
    let s = c.args in
    let ws = s.place.now in
    let l = c.requires.0.long in
    rw (pairs_kept ws _ _ (omega arith), entries_kept ws _ (omega arith)) (place_inserts ws _ s.k s.second c.insert.ensures)
