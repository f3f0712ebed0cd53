-- The remainder by a power of two is a mask, and a power of two is known by its binary digits.
use Prim.Native.Nat.{ℕ, suc, ◌+◌, ◌-◌, ◌*◌, ◌/◌, ◌%◌, ◌^◌, ◌<◌, min}
use native.Mathlib.Omega.{arith}
use native.Mathlib.Nat.{pow-suc}
use mathlib.Core.Path.{◌≡◌, sym, ◌∙◌}
use lib.Arith.{bin_ind}
use lib.Bits.{bit_and, and_step, and_self, and_mask}
use lib.Dec.{eqb}
use borrow.Author.Tests.{eqb-true, eqb-false}
use Rattle.runs.proofs.Cases.{by_test}

-- a number that has no digit in common with the one before it: its half is such a number too, or it is odd, and then it is 1
module _ (n : ℕ) (pos : 0 < n) (apart : bit_and n (n - 1) ≡ 0) where
  digits : bit_and (n / 2) ((n - 1) / 2) * 2 + min (n % 2) ((n - 1) % 2) ≡ 0
  digits = sym (and_step n (n - 1)) ∙ apart

  even_half : n % 2 ≡ 0 → bit_and (n / 2) (n / 2 - 1) ≡ 0
  even_half even =
      let m : (n - 1) / 2 ≡ n / 2 - 1 = omega arith in
      let d = rw m at digits in
      omega arith

  odd_one : (n % 2 ≡ 0 → ⊥) → n ≡ 1
  odd_one odd =
      let m : (n - 1) / 2 ≡ n / 2 = omega arith in
      let d = rw (m, and_self (n / 2)) at digits in
      omega arith

-- so it is a power of two, by induction on its digits
abbrev Power : ℕ → Type 0
Power n = 0 < n → bit_and n (n - 1) ≡ 0 → (k : ℕ) × (n ≡ 2 ^ k)

twice : (n : ℕ) → n % 2 ≡ 0 → (k : ℕ) × (n / 2 ≡ 2 ^ k) → (k : ℕ) × (n ≡ 2 ^ k)
twice n even h = let e = h.1 in (suc h.0, rw (pow-suc 2 h.0) (omega arith))

doubles : (n : ℕ) → Power (n / 2) → Power n
doubles n half pos apart =
    by_test (eqb (n % 2) 0)
    (λ e. let even = eqb-true (n % 2) 0 e in twice n even (half (omega arith) (even_half n pos apart even)))
    (λ e. (0, odd_one n pos apart (eqb-false (n % 2) 0 e)))

is_power : (n : ℕ) → Power n
is_power = bin_ind Power (λ pos apart. absurd (omega arith)) doubles

-- and the remainder by it is a mask
pub mask_is : (n : ℕ) → 0 < n → bit_and n (n - 1) ≡ 0 → (x : ℕ) → bit_and x (n - 1) ≡ x % n
mask_is n pos apart x = let p = is_power n pos apart in rw p.1 (and_mask x p.0)
