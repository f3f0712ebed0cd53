use Rattle.std.proofs.Common.{ap, ◌∙◌, eqb}
use Rattle.std.specs.Bool.{then_some}
use Rattle.book.proofs.Entering.{found_of}
use Rattle.book.proofs.Returning.{untake_asks, untakes_none, listed_of, untakes}
use Rattle.book.proofs.untake.Goals as goal

pub returns-in_default : goal.returns-in_default
returns-in_default c =
    let s = c.args in
    untakes_none s.shares s.who s.second.0 s.part.now c.requires _ c.find-spot.ensures _ c.in_default.is

pub untake-requires : goal.untake-requires
untake-requires c =
    let s = c.args in
    let o = c.then_some.ensures ∙ ap (then_some (eqb c.find-spot.result.seen.entries 1)) c.place_units-place.ensures in
    untake_asks s.shares s.who s.part.now _ (found_of s.shares s.who s.second.0 s.part.now c.requires _ c.find-spot.ensures) _ c.in-Ok.is _ _ o
    c.read-totals.ensures

pub return_place-requires : goal.return_place-requires
return_place-requires c =
    let s = c.args in
    listed_of s.shares s.who s.second.0 s.part.now c.requires _ c.find-spot.ensures _ c.in-Ok.is

pub returns : goal.returns
returns c =
    let s = c.args in
    let o = c.then_some.ensures ∙ ap (then_some (eqb c.find-spot.result.seen.entries 1)) c.place_units-place.ensures in
    rw c.write.ensures (untakes s.shares s.who s.second.0 s.part.now c.requires _ c.find-spot.ensures _ c.in-Ok.is _ _ _ _ o c.read-totals.ensures c.untake.ensures c.return_place.ensures)
