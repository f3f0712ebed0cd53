-- What probing finds in what is left of the range is what was to be found in all of it.
use Prim.Native.Nat.{◌-◌}
use mathlib.Core.Path.{◌≡◌}
use Rattle.model.specs.Generation.{probe_from}
use Rattle.generation.proofs.slots.find_in.Given as goal

abbrev pub invariant-loop-i : goal.invariant-loop-i
invariant-loop-i l =
    let all = l.fn.range in
    let left = l.i-iterator in
    (left.end ≡ all.end) × (probe_from l.slots l.fp (all.end - all.start) all.start ≡ probe_from l.slots l.fp (left.end - left.start) left.start)
