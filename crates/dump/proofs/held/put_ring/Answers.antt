use native.Mathlib.Omega.{arith}
use mathlib.Core.Path.{◌∙◌}
use Rattle.runs.proofs.Over.{writes_start, writes_fits, writes_on}
use Rattle.model.specs.Widths.{generation_width}
use Rattle.dump.specs.Parts.{shown}
use Rattle.dump.proofs.Writing.{next_fits, next_on, all_written}
use Rattle.dump.proofs.Turns.{rest_start, rest_here, rest_on}
use Rattle.dump.proofs.held.put_ring.Goals as goal

pub put_head-requires : goal.put_head-requires
put_head-requires g c =
    let k = generation_width c.args.ring.shape.slots in
    let ws = c.args.ring.words.now in
    writes_fits (g.S.Shown.head k ws) (shown g.S.Shown.of_part k ws) (writes_start {enc = g.E.Element.encoded} c.requires)

pub loop-part-init : goal.loop-part-init
loop-part-init g c =
    let k = generation_width c.args.ring.shape.slots in
    let ws = c.args.ring.words.now in
    let made = c.chunks_exact-part-items.ensures in
    rw (c.into_iter-part-iterator.ensures.into_iter_gives, made.rest) (record {
      same = c.put_head.ensures.same;
      left = rest_start (made.size ∙ c.width.ensures) (omega arith) c.args.ring.bounded;
      writes = writes_on g.met.E.Element.encoded_long (g.S.Shown.head k ws) (shown g.S.Shown.of_part k ws) (writes_start c.requires) c.put_head.ensures.puts;
    })

pub put_generation-requires-clause-bounded : goal.put_generation-requires-clause-bounded
put_generation-requires-clause-bounded g c =
    rest_here c.in-Some.part.now c.next.new.self.rest.now c.in-Some.ensures.steps.1 c.loop-part.invariant.left

pub put_generation-requires-clause-fits : goal.put_generation-requires-clause-fits
put_generation-requires-clause-fits g c =
    next_fits g.S.Shown.of_part c.in-Some.part.now c.next.new.self.rest.now c.in-Some.ensures.steps.1 c.loop-part.invariant.left c.loop-part.invariant.writes

pub loop-part-preserved : goal.loop-part-preserved
loop-part-preserved g c = record {
  same = c.put_generation.ensures.same ∙ c.loop-part.invariant.same;
  left = rest_on c.in-Some.part.now c.next.new.self.rest.now c.in-Some.ensures.steps.1 c.loop-part.invariant.left c.in-Some.ensures.steps.0;
  writes =
      next_on g.S.Shown.of_part c.in-Some.part.now c.next.new.self.rest.now c.in-Some.ensures.steps.1 c.loop-part.invariant.left c.loop-part.invariant.writes
      g.met.E.Element.encoded_long c.put_generation.ensures.puts;
}

pub returns-clause-puts : goal.returns-clause-puts
returns-clause-puts g c = all_written g.S.Shown.of_part c.in-None.ensures.steps.1.0 c.loop-part.invariant.left c.loop-part.invariant.writes
