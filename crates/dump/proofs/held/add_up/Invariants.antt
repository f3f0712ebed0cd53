-- The sum so far, with that of the generations that are left, is the sum of all. It is at most so much for each.
use Rattle.model.specs.Widths.{generation_width}
use Rattle.generation.specs.Words.{Bounded}
use Rattle.dump.specs.Parts.{total}
use Rattle.dump.proofs.Turns.{Rest}
use lib.ListN.{length}
use mathlib.Core.Path.{◌≡◌}
use Prim.Native.Nat.{◌+◌, ◌*◌, ◌/◌, ◌≤◌}
use Rattle.dump.proofs.held.add_up.Given as goal

abbrev pub invariant-loop-part : goal.invariant-loop-part
invariant-loop-part g l =
    let k = generation_width l.fn.all.shape.slots in
    let rest = l.part-iterator.rest.now in
    record {
      left : Rest Bounded k l.part-iterator.size rest;
      sum : l.n + total g.C.Counted.counted k rest ≡ total g.C.Counted.counted k l.fn.all.words.now;
      few : l.n + 1_027 * (length rest / k) ≤ 788_736;
    }
