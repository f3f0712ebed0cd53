use Rattle.std.proofs.Common.{ap, ◌∙◌, arith, eqb}
use Rattle.std.specs.Bool.{then_some}
use Rattle.book.proofs.Finding.{draw_says, some_holder, take_asks}
use Rattle.numbers.proofs.PlaceUnits.{units_small}
use Rattle.model.proofs.Places.{limit_fits}
use Rattle.model.specs.Class.{class_of}
use Rattle.book.proofs.draw.Goals as goal

pub overflow_add-held-2 : goal.overflow_add-held-2
overflow_add-held-2 c =
    let s = c.args in
    let w = c.requires.0.class in
    let u = units_small s.shares s.who w.feeder w.peer in
    omega arith

pub take-requires : goal.take-requires
take-requires c =
    let s = c.args in
    let o = c.then_some.ensures ∙ ap (then_some (eqb s.spot.seen.entries 0)) c.place_units-place.ensures in
    take_asks s.shares s.who s.part.now s.spot c.requires.0.class _ _ o c.read-totals.ensures

pub judge-requires : goal.judge-requires
judge-requires c =
    let s = c.args in
    let pre = c.requires in
    let o = c.then_some.ensures ∙ ap (then_some (eqb s.spot.seen.entries 0)) c.place_units-place.ensures in
    (some_holder s.shares s.terms.limits s.terms.closed s.who s.part.now s.spot pre.0 _ _ _ o c.read-totals.ensures c.take.ensures, limit_fits s.terms.limits (class_of s.who) pre.1)

pub returns : goal.returns
returns c =
    let s = c.args in
    let o = c.then_some.ensures ∙ ap (then_some (eqb s.spot.seen.entries 0)) c.place_units-place.ensures in
    draw_says s.shares s.terms.limits s.terms.closed s.who s.part.now s.spot c.requires.0 _ _ _ _ _ _ c.place_units-place.ensures o c.read-totals.ensures
    c.take.ensures c.room-room.ensures c.judge.ensures
