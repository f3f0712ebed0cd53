use native.Mathlib.Nat.{mod-lt}
use mathlib.Core.Path.{refl}
use Rattle.ring.proofs.shapes.Shape.position_of.Goals as goal

pub returns-clause-is : goal.returns-clause-is
returns-clause-is c = record { is = refl; below = mod-lt _ c.args.self.some }
