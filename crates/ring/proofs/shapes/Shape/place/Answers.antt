use native.Mathlib.Omega.{arith}
use native.Mathlib.Nat.{mul-le-mul_right}
use mathlib.Core.Path.{refl}
use Rattle.ring.proofs.Positions.{starts_at}
use Rattle.model.specs.Widths.{generation_width}
use Rattle.ring.proofs.shapes.Shape.place.Goals as goal

pub overflow_mul-start : goal.overflow_mul-start
overflow_mul-start c =
    let s = c.args.self in
    let k = (starts_at s.slots s.ring c.args.i (omega arith)).within in
    record { fits = rw c.width-width.ensures (omega (arith, mul-le-mul_right (generation_width s.slots) c.args.self.few)) }

pub returns : goal.returns
returns c = rw c.width-width.ensures (record { start = starts_at _ _ _ (omega arith); end = refl })
