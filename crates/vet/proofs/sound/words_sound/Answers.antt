-- The front decides, or else what lies behind it.
use native.Mathlib.Omega.{arith}
use mathlib.Core.Path.{refl, sym, ◌∙◌}
use borrow.Rule.Slice.PartMut.{mid_len}
use Rattle.runs.specs.Combine.{both, free}
use Rattle.model.specs.Calls.{sound}
use Rattle.model.specs.Words.{front_form, book_form, registers_form, unused_width}
use Rattle.vet.proofs.Bounds.{all_inside}
use Rattle.vet.proofs.Tests.{head_not, head_on}
use Rattle.vet.proofs.sound.words_sound.Goals as goal

pub slice_bounds-front_sound-end : goal.slice_bounds-front_sound-end
slice_bounds-front_sound-end c = let v = c.args.vetted.now in let k = all_inside v.s v.fit in omega arith

pub returns-else-front_sound : goal.returns-else-front_sound
unfolding sound
returns-else-front_sound c =
    let v = c.args.vetted.now in
    let s = v.s in
    let k = all_inside s v.fit in
    let if1 = c.if-front_sound in
    let behind = both (book_form s) (both (registers_form s) (free (unused_width s))) in
    if1.false ∙ rw v.needed at (head_not (front_form s) behind v.need c.args.words.now 20 refl (omega arith) (sym if1.false ∙ c.front_sound.ensures))

pub slice_bounds-body_sound-count : goal.slice_bounds-body_sound-count
slice_bounds-body_sound-count c = let v = c.args.vetted.now in let k = all_inside v.s v.fit in omega arith

pub slice_bounds-body_sound-start : goal.slice_bounds-body_sound-start
slice_bounds-body_sound-start c = let v = c.args.vetted.now in let k = all_inside v.s v.fit in omega arith

pub body_sound-requires : goal.body_sound-requires
body_sound-requires c =
    let v = c.args.vetted.now in
    let k = all_inside v.s v.fit in
    let m = mid_len 20 v.need c.args.words.now (omega arith) in
    rw m (omega arith)

pub returns-then-front_sound : goal.returns-then-front_sound
unfolding sound
returns-then-front_sound c =
    let v = c.args.vetted.now in
    let s = v.s in
    let k = all_inside s v.fit in
    let behind = both (book_form s) (both (registers_form s) (free (unused_width s))) in
    rw v.needed at (head_on (front_form s) behind v.need c.args.words.now 20 refl (omega arith) (sym c.if-front_sound.true ∙ c.front_sound.ensures) _ c.body_sound.ensures)
