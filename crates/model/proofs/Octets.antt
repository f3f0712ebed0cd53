-- A number read from bytes is the sum of the bytes, each times its power of 256 (specs/Octets); that its bytes give it back is
-- `reads_back` in BytesRead. Assumes nothing.
use Prim.Native.Nat.{ℕ, suc, ◌+◌, ◌*◌, ◌^◌}
use mathlib.Core.Path.{◌≡◌, refl, sym, ◌∙◌}
use mathlib.Core.List.{List, [], ◌∷◌}
use native.Mathlib.Nat.{pow-suc, mul_assoc, mul_comm}
use native.Mathlib.Omega.{arith}
use Rattle.model.specs.Numbers.{top64}
use Rattle.model.specs.Dump.{number_of}
use Rattle.model.specs.Octets.{power_sum, SumOfPowers}

-- one power more, for one byte and for a sum
next_power : (b i : ℕ) → b * 256 ^ suc i ≡ 256 * (b * 256 ^ i)
next_power b i = rw (pow-suc 256 i) (sym (mul_assoc b (256 ^ i) 256) ∙ mul_comm (b * 256 ^ i) 256)

next_powers : (i : ℕ) (bs : List ℕ) → power_sum (suc i) bs ≡ 256 * power_sum i bs
unfolding power_sum
next_powers i [] = refl
next_powers i (b ∷ bs) = let first = next_power b i in let rest = next_powers (suc i) bs in omega arith

pub sum_of_powers : SumOfPowers
unfolding number_of power_sum
sum_of_powers [] = refl
sum_of_powers (b ∷ bs) = let same = sum_of_powers bs in let rest = next_powers 0 bs in omega arith

-- ---- computed: the largest number, 2 ^ 56 and 258
pub largest : number_of (255 ∷ 255 ∷ 255 ∷ 255 ∷ 255 ∷ 255 ∷ 255 ∷ 255 ∷ []) ≡ top64
unfolding number_of
largest = refl

pub last_byte_alone : number_of (0 ∷ 0 ∷ 0 ∷ 0 ∷ 0 ∷ 0 ∷ 0 ∷ 1 ∷ []) ≡ 2 ^ 56
unfolding number_of
last_byte_alone = refl

pub two_and_one : number_of (2 ∷ 1 ∷ 0 ∷ 0 ∷ 0 ∷ 0 ∷ 0 ∷ 0 ∷ []) ≡ 258
unfolding number_of
two_and_one = refl

pub their_powers : power_sum 0 (2 ∷ 1 ∷ 0 ∷ 0 ∷ 0 ∷ 0 ∷ 0 ∷ 1 ∷ []) ≡ 2 + 1 * 256 + 1 * 256 ^ 7
unfolding power_sum
their_powers = refl
