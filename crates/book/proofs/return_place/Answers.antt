use Rattle.book.proofs.Returning.{closes, count_asks, remove_asks, lower_asks, returns_single, returns_lower}
use Rattle.book.proofs.return_place.Goals as goal

pub returns-then-spot-eq1 : goal.returns-then-spot-eq1
returns-then-spot-eq1 c =
    let s = c.args in
    let l = c.requires in
    closes s.shares s.who s.part.now s.spot l.found _ l.yes c.if-spot-eq1.true _ _ c.place_extent-here.ensures.start c.place_start-used.ensures.0 _
    (rw c.place_width.ensures.0 at c.close_up.ensures)

pub count-requires : goal.count-requires
count-requires c =
    let s = c.args in
    let l = c.requires in
    count_asks s.shares s.who s.part.now s.spot l.found _ l.yes c.if-spot-eq1.false _ _ c.place_extent-here.ensures.start
    c.place_extent-here.ensures.end

pub remove-requires : goal.remove-requires
remove-requires c =
    let s = c.args in
    let l = c.requires in
    remove_asks s.shares s.who s.part.now s.spot l.found _ l.yes c.if-spot-eq1.false _ _ c.place_extent-here.ensures.start
    c.place_extent-here.ensures.end _ c.count.ensures c.if-count-eq1.true

pub returns-then-count-eq1 : goal.returns-then-count-eq1
returns-then-count-eq1 c =
    let s = c.args in
    let l = c.requires in
    returns_single s.shares s.who s.part.now s.spot l.found _ l.yes c.if-spot-eq1.false _ _ c.place_extent-here.ensures.start
    c.place_extent-here.ensures.end _ c.count.ensures c.if-count-eq1.true _ c.remove.ensures

pub lower-requires : goal.lower-requires
lower-requires c =
    let s = c.args in
    let l = c.requires in
    lower_asks s.shares s.who s.part.now s.spot l.found _ l.yes c.if-spot-eq1.false _ _ c.place_extent-here.ensures.start
    c.place_extent-here.ensures.end

pub returns-else-count-eq1 : goal.returns-else-count-eq1
returns-else-count-eq1 c =
    let s = c.args in
    let l = c.requires in
    returns_lower s.shares s.who s.part.now s.spot l.found _ l.yes c.if-spot-eq1.false _ _ c.place_extent-here.ensures.start
    c.place_extent-here.ensures.end _ c.count.ensures c.if-count-eq1.false _ c.lower.ensures
