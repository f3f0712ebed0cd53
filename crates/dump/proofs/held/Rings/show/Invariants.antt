-- What is written so far, with the rings that are left still to come, is all that is shown of the register written.
use mathlib.Core.Path.{◌≡◌}
use Prim.Native.Nat.{◌*◌}
use Rattle.runs.proofs.Over.{Writes}
use Rattle.model.specs.Widths.{generation_width}
use Rattle.dump.specs.Parts.{Laid, shown, ring_shown, register_shown}
use Rattle.dump.proofs.Turns.{Rest}
use Rattle.dump.proofs.held.Rings.show.Given as goal

abbrev pub invariant-loop-words : goal.invariant-loop-words
invariant-loop-words g l =
    let shape = l.fn.self.shape in
    let k = generation_width shape.slots in
    let rest = l.words-iterator.rest.now in
    record {
      same : l.out.out.ghost_name ≡ l.fn.out.out.ghost_name;
      left : Rest (Laid k) (shape.ring * k) l.words-iterator.size rest;
      writes : Writes g.E.Element.encoded g.E.Element.width l.out.at (shown (ring_shown g.S.Shown.head g.S.Shown.of_part k) (shape.ring * k) rest)
          (g.E.Element.numbers l.out.out.now) l.fn.out.at (register_shown g.S.Shown.head g.S.Shown.of_part k shape.ring l.fn.self.words.now)
          (g.E.Element.numbers l.fn.out.out.now);
    }
