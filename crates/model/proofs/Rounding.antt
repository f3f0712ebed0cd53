-- Seconds, rounded up by the library as by the rules.
use Prim.Native.Nat.{ℕ, min}
use native.Mathlib.Omega.{arith}
use mathlib.Core.Path.{◌≡◌}
use Rattle.std.specs.Int.{div_ceil}
use Rattle.model.specs.Numbers.{top32, cap32, ceil}

pub seconds_up : (ms n t : ℕ) → n ≡ div_ceil ms 1_000 → t ≡ min n top32 → t ≡ cap32 (ceil ms 1_000)
unfolding cap32 ceil
seconds_up ms n t up capped = omega arith
