use native.Mathlib.Omega.{arith}
use native.Mathlib.Nat.{mul-pos}
use mathlib.Core.Path.{◌≡◌, refl, ◌∙◌}
use Prim.Native.Nat.{◌-◌, ◌*◌, ◌<◌}
use lib.ListN.{length, drop, length-drop}
use lib.Seq.{take_all}
use Rattle.model.specs.RegisterWords.{heading_width}
use Rattle.runs.proofs.Over.{writes_start}
use Rattle.model.specs.Widths.{generation_width}
use Rattle.dump.specs.Parts.{ring_shown, register_shown}
use Rattle.dump.proofs.Writing.{next_fits, next_on, all_written}
use Rattle.dump.proofs.Turns.{rest_start, rest_here, rest_on}
use Rattle.dump.proofs.held.Rings.show.Goals as goal

pub loop-words-init : goal.loop-words-init
unfolding register_shown
loop-words-init g c =
    let k = generation_width c.args.self.shape.slots in
    let ws = c.args.self.words.now in
    let laid = c.args.self.laid in
    let made = c.chunks_exact-words-items.ensures in
    let l = length-drop heading_width ws in
    let all : c.chunks_exact-words-items.result.rest.now ≡ drop heading_width ws =
    made.rest ∙ take_all (length ws - heading_width) (drop heading_width ws) (omega arith) in
    let some : 0 < c.args.self.shape.ring * k = mul-pos laid.some (omega arith) in
    rw (c.into_iter-words-iterator.ensures.into_iter_gives, all) (record {
      same = refl;
      left = rest_start (made.size ∙ c.words.ensures) some laid.rings;
      writes = writes_start c.requires;
    })

pub invariant_of-put_ring : goal.invariant_of-put_ring
invariant_of-put_ring g c =
    let laid = rest_here c.in-Some.words.now c.next.new.self.rest.now c.in-Some.ensures.steps.1 c.loop-words.invariant.left in
    record { few = laid.few; bounded = laid.bounded }

pub put_ring-requires : goal.put_ring-requires
put_ring-requires g c =
    next_fits (ring_shown g.S.Shown.head g.S.Shown.of_part (generation_width c.args.self.shape.slots)) c.in-Some.words.now c.next.new.self.rest.now
    c.in-Some.ensures.steps.1 c.loop-words.invariant.left c.loop-words.invariant.writes

pub loop-words-preserved : goal.loop-words-preserved
loop-words-preserved g c = record {
  same = c.put_ring.ensures.same ∙ c.loop-words.invariant.same;
  left = rest_on c.in-Some.words.now c.next.new.self.rest.now c.in-Some.ensures.steps.1 c.loop-words.invariant.left c.in-Some.ensures.steps.0;
  writes =
      next_on (ring_shown g.S.Shown.head g.S.Shown.of_part (generation_width c.args.self.shape.slots)) c.in-Some.words.now c.next.new.self.rest.now
      c.in-Some.ensures.steps.1 c.loop-words.invariant.left c.loop-words.invariant.writes g.met.E.Element.encoded_long c.put_ring.ensures.puts;
}

pub returns-clause-puts : goal.returns-clause-puts
returns-clause-puts g c =
    all_written (ring_shown g.S.Shown.head g.S.Shown.of_part (generation_width c.args.self.shape.slots)) c.in-None.ensures.steps.1.0
    c.loop-words.invariant.left c.loop-words.invariant.writes
