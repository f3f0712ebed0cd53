-- What is written so far, with the generations that are left still to come, is all of the class written.
use mathlib.Core.Path.{◌≡◌}
use Rattle.runs.proofs.Over.{Writes}
use Rattle.model.specs.Widths.{generation_width}
use Rattle.generation.specs.Words.{Bounded}
use Rattle.dump.specs.Parts.{shown, ring_shown}
use Rattle.dump.proofs.Turns.{Rest}
use Rattle.dump.proofs.held.put_ring.Given as goal

abbrev pub invariant-loop-part : goal.invariant-loop-part
invariant-loop-part g l =
    let k = generation_width l.fn.ring.shape.slots in
    let rest = l.part-iterator.rest.now in
    record {
      same : l.out.out.ghost_name ≡ l.fn.out.out.ghost_name;
      left : Rest Bounded k l.part-iterator.size rest;
      writes : Writes g.E.Element.encoded g.E.Element.width l.out.at (shown g.S.Shown.of_part k rest) (g.E.Element.numbers l.out.out.now) l.fn.out.at
          (ring_shown g.S.Shown.head g.S.Shown.of_part k l.fn.ring.words.now) (g.E.Element.numbers l.fn.out.out.now);
    }
