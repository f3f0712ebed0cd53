-- What is written so far, with the fingerprints of the slots from position `slot-index` on still to come, is all of them written.
use Rattle.runs.proofs.Over.{Writes}
use Rattle.model.specs.Dump.{fingerprints}
use lib.ListN.{drop}
use mathlib.Core.Path.{◌≡◌}
use Rattle.dump.proofs.output.Output.put_prints.Given as goal

abbrev pub invariant-loop-slot : goal.invariant-loop-slot
invariant-loop-slot g l = record {
  same : l.self.out.ghost_name ≡ l.fn.self.out.ghost_name;
  writes : Writes g.E.Element.encoded g.E.Element.width l.self.at (fingerprints (drop l.slot-index l.slots)) (g.E.Element.numbers l.self.out.now) l.fn.self.at
      (fingerprints l.slots) (g.E.Element.numbers l.fn.self.out.now);
}
