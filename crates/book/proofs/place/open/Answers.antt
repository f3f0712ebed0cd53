use native.Mathlib.Omega.{arith}
use Rattle.book.proofs.PlaceTurns.{new_head, opens}
use Rattle.book.proofs.place.open.Goals as goal

pub returns : goal.returns
returns c =
    let s = c.args in
    let h = new_head s.who _ s.place.now (omega arith) c.new_code-code.ensures in
    opens s.who s.second s.place.now _ _ (omega arith) h c.insert.ensures
