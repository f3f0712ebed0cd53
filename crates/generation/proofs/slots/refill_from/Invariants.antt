-- What the old slots from i on fill is what all of them were to fill.
use mathlib.Core.Path.{◌≡◌}
use lib.ListN.{length, drop}
use Rattle.model.specs.Generation.{refill}
use Rattle.generation.proofs.slots.refill_from.Given as goal

abbrev pub invariant-loop-word : goal.invariant-loop-word
invariant-loop-word l = (length l.slots ≡ length l.initial.slots) × (refill (drop l.word-index l.old) l.slots ≡ refill l.old l.initial.slots)
