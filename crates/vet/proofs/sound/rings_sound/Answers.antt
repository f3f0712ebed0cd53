-- Three rings of one width.
use mathlib.Core.Path.{◌≡◌, refl, ◌∙◌}
use Rattle.model.specs.RegisterWords.{ring_form}
use Rattle.model.specs.Words.{ring_width}
use Rattle.vet.proofs.Bounds.{width_positive}
use Rattle.vet.proofs.Rings.{wide, left_start, left_on, left_end}
use Rattle.vet.proofs.sound.rings_sound.Goals as goal

pub chunks_exact-ring-items-requires : goal.chunks_exact-ring-items-requires
chunks_exact-ring-items-requires c = let s = c.of-shape.ensures in rw (c.words.ensures, s.slots, s.ring) (width_positive c.args.u)

pub loop-ring-init : goal.loop-ring-init
loop-ring-init c =
    let u = c.args.u in
    let s = c.of-shape.ensures in
    let made = c.chunks_exact-ring-items.ensures in
    let width : c.words.result ≡ ring_width u = c.words.ensures ∙ rw (s.slots, s.ring) refl in
    rw (c.into_iter-ring-iterator.ensures.into_iter_gives, made.rest)
    (left_start (ring_form u) c.args.rings.now _ (made.size ∙ width) (width_positive u) c.requires.1)

pub is_sound-all-requires : goal.is_sound-all-requires
is_sound-all-requires c =
    let u = c.args.u in
    let s = c.of-shape.ensures in
    rw (s.slots, s.ring) (wide (ring_form u) c.args.rings.now c.loop-ring.invariant c.in-Some.ring.now c.next.new.self.rest.now c.in-Some.ensures.steps.1)

pub loop-ring-preserved : goal.loop-ring-preserved
loop-ring-preserved c =
    let u = c.args.u in
    let s = c.of-shape.ensures in
    let steps = c.in-Some.ensures.steps in
    left_on (ring_form u) c.args.rings.now c.loop-ring.invariant c.in-Some.ring.now c.next.new.self.rest.now steps.1 _ steps.0 _
    (rw (s.slots, s.ring) at c.is_sound-all.ensures)

pub returns : goal.returns
returns c = left_end (ring_form c.args.u) c.args.rings.now c.loop-ring.invariant c.in-None.ensures.steps.1.0
