use mathlib.Core.Path.{refl, ◌∙◌}
use Rattle.runs.proofs.Walk.{walk_start, walk_on, pass_end}
use Rattle.runs.specs.Combine.{form_at}
use Rattle.model.specs.GenerationWords.{generation_place}
use Rattle.ring.proofs.Chunks.{from_start, part_is, below, from_next, from_end}
use Rattle.ring.proofs.is_sound.Goals as goal

pub loop-i-init : goal.loop-i-init
loop-i-init c =
    let a = c.args in
    let made = c.chunks_exact.ensures in
    let counts = c.enumerate-i-items.ensures in
    rw (c.into_iter-i-iterator.ensures.into_iter_gives, counts.source, counts.count, made.rest)
    (from_start _ _ _ _ (made.size ∙ c.width.ensures) c.requires, walk_start (generation_place a.shape.slots a.shape.ring) a.shape.ring _)

pub loop-i-preserved : goal.loop-i-preserved
loop-i-preserved c =
    let l = c.loop-i.invariant in
    let s = c.in-Some.ensures.steps in
    let x = c.in-Some.part.now in
    let q = c.next.new.self.iter.rest.now in
    let a = c.args in
    let t = rw s.1 at c.is_sound-all.ensures in
    rw s.2 (
      from_next _ _ _ _ _ _ l.0 x q s.0.1 _ s.0.0,
      walk_on (generation_place a.shape.slots a.shape.ring) _ _ _ _ l.1 _ _ refl refl (below _ _ _ _ _ _ l.0 x q s.0.1) _ (rw (part_is _ _ _ _ _ _ l.0 x q s.0.1) t),
    )

pub returns : goal.returns
returns c =
    let l = c.loop-i.invariant in
    let a = c.args in
    pass_end (form_at (generation_place a.shape.slots a.shape.ring)) _ _ _ _ _ l.1 (from_end _ _ _ _ _ _ l.0 c.in-None.ensures.steps.0.1.0)
