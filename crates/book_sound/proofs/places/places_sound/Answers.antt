use mathlib.Core.Path.{refl, ◌∙◌}
use Rattle.book_sound.proofs.Chunks.{cut_off}
use Rattle.book_sound.proofs.Adding.{adds_start, place_few, adds_end, adds_stop, adds_not, adds_on}
use Rattle.book_sound.proofs.places.places_sound.Goals as goal

pub loop-place-init : goal.loop-place-init
loop-place-init c =
    let items = c.chunks_exact-place-items.ensures in
    rw (c.into_iter-place-iterator.ensures.into_iter_gives, items.rest) (adds_start (items.size ∙ c.place_width-width.ensures.0) c.requires, refl)

pub returns-then-not-in_use : goal.returns-then-not-in_use
returns-then-not-in_use c =
    let i = c.loop-place.invariant in
    adds_stop i.0 _ _ c.in-Some.ensures.steps.1 c.if-not-in_use.ensures i.1 c.agree.ensures

pub returns-then-not-place_sound : goal.returns-then-not-place_sound
returns-then-not-place_sound c = adds_not c.loop-place.invariant.0 _ _ c.in-Some.ensures.steps.1 c.if-not-in_use.ensures c.if-not-place_sound.ensures

pub with_place-sums-requires : goal.with_place-sums-requires
with_place-sums-requires c =
    let w = c.requires.few in
    let f = place_few c.loop-place.invariant.0 _ c.if-not-place_sound.ensures in
    (w.feeder, w.peer, f.0, f.1, f.2, f.3)

pub loop-place-preserved : goal.loop-place-preserved
loop-place-preserved c =
    let i = c.loop-place.invariant in
    let s = c.in-Some.ensures.steps in
    let cut = cut_off c.args.shares c.args.class _ _ s.1 i.0.wide c.place_width-width.ensures.0 i.1 in
    (adds_on i.0 _ _ s.1 c.if-not-in_use.ensures c.if-not-place_sound.ensures c.requires.few.feeder c.requires.few.peer (c.with_place-sums.ensures _) s.0, cut)

pub returns : goal.returns
returns c = let i = c.loop-place.invariant in adds_end i.0 c.in-None.ensures.steps.1.0 i.1 c.agree-2.ensures
