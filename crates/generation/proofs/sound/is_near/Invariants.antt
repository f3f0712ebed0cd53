-- What probing finds from slot j on, in the steps that are left, is what was to be found from the start.
use Prim.Native.Nat.{◌-◌, ◌%◌, ◌<◌}
use mathlib.Core.Path.{◌≡◌}
use lib.ListN.{length}
use Rattle.model.specs.Generation.{probe_from}
use Rattle.generation.proofs.sound.is_near.Given as goal

abbrev pub invariant-loop : goal.invariant-loop
invariant-loop l = (l.j < length l.slots) × (probe_from l.slots l.word l.steps (l.word % length l.slots) ≡ probe_from l.slots l.word (l.steps - l.counter) l.j)
