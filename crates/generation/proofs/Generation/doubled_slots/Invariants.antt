-- What doubling from n gives is what doubling from the present number gives.
use Prim.Native.Nat.{suc, ◌+◌, ◌-◌, ◌*◌, ◌<◌, ◌≤◌}
use mathlib.Core.Path.{◌≡◌}
use mathlib.Core.Bool.{false}
use Rattle.model.specs.Generation.{doubled}
use Rattle.generation.specs.Slots.{slots_after}
use Rattle.generation.proofs.Generation.doubled_slots.Given as goal

abbrev pub invariant-loop-n : goal.invariant-loop-n
invariant-loop-n l = (0 < l.n) × (l.n ≤ 4096) × (doubled (4 * suc l.fn.self.held) (suc l.fn.self.held) l.n ≡ slots_after false l.fn.self.slots l.fn.self.held)

abbrev pub decreases-loop-n : goal.decreases-loop-n
decreases-loop-n l = 4 * (l.fn.self.held + 1) - 3 * l.n
