use Rattle.book_sound.proofs.Chunks.{cut_off}
use Rattle.book_sound.proofs.Twice.{apart_end, apart_none, apart_met, apart_on}
use Rattle.book_sound.proofs.apart.distinct.Goals as goal

pub returns-then-not-in_use : goal.returns-then-not-in_use
returns-then-not-in_use c = apart_none c.loop-place.invariant.0 _ _ c.in-Some.ensures.steps.1 c.if-not-in_use.ensures

pub returns-then-has_who : goal.returns-then-has_who
returns-then-has_who c =
    let i = c.loop-place.invariant in
    let s = c.in-Some.ensures.steps in
    let cut = cut_off c.args.shares c.args.class _ _ s.1 i.0.wide c.place_width-width.ensures.0 i.1 in
    apart_met i.0 _ _ s.1 c.if-not-in_use.ensures _ cut c.if-has_who.ensures

pub loop-place-preserved : goal.loop-place-preserved
loop-place-preserved c =
    let i = c.loop-place.invariant in
    let s = c.in-Some.ensures.steps in
    let cut = cut_off c.args.shares c.args.class _ _ s.1 i.0.wide c.place_width-width.ensures.0 i.1 in
    (apart_on i.0 _ _ s.1 c.if-not-in_use.ensures _ cut c.if-has_who.ensures s.0, cut)

pub returns : goal.returns
returns c = apart_end c.loop-place.invariant.0 c.in-None.ensures.steps.1.0
