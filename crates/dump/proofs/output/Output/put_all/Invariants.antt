-- What is written so far, with the words from position `word-index` on still to come, is all of them written.
use Rattle.runs.proofs.Over.{Writes}
use lib.ListN.{drop}
use mathlib.Core.Path.{◌≡◌}
use Rattle.dump.proofs.output.Output.put_all.Given as goal

abbrev pub invariant-loop-word : goal.invariant-loop-word
invariant-loop-word g l = record {
  same : l.self.out.ghost_name ≡ l.fn.self.out.ghost_name;
  writes : Writes g.E.Element.encoded g.E.Element.width l.self.at (drop l.word-index l.words) (g.E.Element.numbers l.self.out.now) l.fn.self.at l.words
      (g.E.Element.numbers l.fn.self.out.now);
}
