use Rattle.std.proofs.Common.{ap, ◌∙◌, eqb}
use Rattle.std.specs.Bool.{then_some}
use Rattle.book.proofs.Finding.{take_asks}
use Rattle.book.proofs.Entering.{enters}
use Rattle.book.proofs.enter.Goals as goal

pub take-requires : goal.take-requires
take-requires c =
    let s = c.args in
    let o = c.then_some.ensures ∙ ap (then_some (eqb s.spot.seen.entries 0)) c.place_units-place.ensures in
    take_asks s.shares s.who s.part.now s.spot c.requires.found.class _ _ o c.read-totals.ensures

pub returns : goal.returns
returns c =
    let s = c.args in
    let o = c.then_some.ensures ∙ ap (then_some (eqb s.spot.seen.entries 0)) c.place_units-place.ensures in
    rw c.write.ensures (enters s.shares s.who s.part.now s.spot c.requires _ _ _ _ o c.read-totals.ensures c.take.ensures c.enter_place.ensures)
