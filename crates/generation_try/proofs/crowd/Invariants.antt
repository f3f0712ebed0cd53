use mathlib.Core.Path.{◌≡◌}
use lib.ListN.{length}
use Rattle.model.specs.Widths.{generation_width}
use Rattle.generation_try.proofs.crowd.Given as goal

abbrev pub invariant-loop-k : goal.invariant-loop-k
invariant-loop-k l = length l.part ≡ generation_width 128
