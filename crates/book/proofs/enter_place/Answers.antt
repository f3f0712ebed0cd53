use Rattle.book.proofs.Entering.{enters_new, raise_asks, enters_listed, insert_asks, enters_pair}
use Rattle.book.proofs.enter_place.Goals as goal

pub returns-then-spot-eq0 : goal.returns-then-spot-eq0
returns-then-spot-eq0 c =
    let s = c.args in
    enters_new s.shares s.who s.part.now s.spot c.requires c.if-spot-eq0.true _ _ c.place_extent.ensures.start
    c.place_extent.ensures.end _ c.«open».ensures

pub raise-requires : goal.raise-requires
raise-requires c =
    let s = c.args in
    raise_asks s.shares s.who s.part.now s.spot c.requires c.if-spot-eq0.false _ _ c.place_extent.ensures.start
    c.place_extent.ensures.end _ c.in-Ok.is

pub insert-requires : goal.insert-requires
insert-requires c =
    let s = c.args in
    insert_asks s.shares s.who s.part.now s.spot c.requires c.if-spot-eq0.false _ _ c.place_extent.ensures.start
    c.place_extent.ensures.end _ c.in-Err.is

pub returns-in-Ok : goal.returns-in-Ok
returns-in-Ok c =
    let s = c.args in
    enters_listed s.shares s.who s.part.now s.spot c.requires c.if-spot-eq0.false _ _ c.place_extent.ensures.start
    c.place_extent.ensures.end _ c.in-Ok.is _ c.raise.ensures

pub returns-in-Err : goal.returns-in-Err
returns-in-Err c =
    let s = c.args in
    enters_pair s.shares s.who s.part.now s.spot c.requires c.if-spot-eq0.false _ _ c.place_extent.ensures.start
    c.place_extent.ensures.end _ c.in-Err.is _ c.insert.ensures
