use mathlib.Core.Path.{◌∙◌}
use Rattle.ring.proofs.Chunks.{from_start, chunk_bounded, chunk_reads, below, from_next, from_end}
use Rattle.ring.proofs.Finding.{look_start, look_on, look_end}
use Rattle.ring.proofs.contains_any.Goals as goal

pub loop-part-init : goal.loop-part-init
loop-part-init c =
    let made = c.chunks_exact-part-items.ensures in
    rw (c.into_iter-part-iterator.ensures.into_iter_gives, made.rest) (record {
      i = 0;
      from = from_start _ _ _ _ (made.size ∙ c.width.ensures) c.requires.long;
      looked = look_start _ _ _ _;
    })

pub contains-any-requires : goal.contains-any-requires
contains-any-requires c =
    let l = c.loop-part.invariant in
    chunk_bounded _ _ _ _ _ _ l.from c.in-Some.part.now c.next.new.self.rest.now c.in-Some.ensures.steps.1 c.args.shape.small c.requires

pub loop-part-preserved : goal.loop-part-preserved
loop-part-preserved c =
    let l = c.loop-part.invariant in
    let s = c.in-Some.ensures.steps in
    let x = c.in-Some.part.now in
    let q = c.next.new.self.rest.now in
    let a = c.args in
    let t = c.contains-any.ensures a.shape.slots a.shape.ring l.i in
    record {
      i = _;
      from = from_next _ _ _ _ _ _ l.from x q s.1 _ s.0;
      looked = look_on _ _ _ _ _ _ l.looked (below _ _ _ _ _ _ l.from x q s.1) _ (chunk_reads _ _ _ _ _ _ l.from x q s.1 t);
    }

pub returns : goal.returns
returns c =
    let l = c.loop-part.invariant in
    look_end _ _ _ _ _ _ l.looked (from_end _ _ _ _ _ _ l.from c.in-None.ensures.steps.1.0)
