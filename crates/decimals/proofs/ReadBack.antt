-- A number that is written is read back as itself, and takes 20 bytes at most. Assumes nothing.
use Rattle.std.proofs.Common.{ℕ, zero, suc, ◌≡◌, ◌==◌, ◌/◌, ◌^◌, ◌<◌, ◌≤◌, false, List, [], ◌∷◌, ◌++◌, length, Some, sym, ap, ◌∙◌, inl, inr, arith}
use Rattle.std.proofs.Math.Nat.{pow-succ'}
use Rattle.std.proofs.lemmas.Bool.{cases_lt}
use Rattle.std.proofs.lemmas.Bool.Decides.{nat_tests}
use Rattle.std.proofs.lemmas.List.Sums.{fold-append}
use Rattle.decimals.specs.Texts.{with_digit, with_digits, last_digit, digits, text_of}
use Rattle.decimals.specs.ReadBack.{ReadBack, TwentyAtMost}
use Rattle.decimals.proofs.Reading.{number_some}
use Rattle.decimals.proofs.Writing.{digits_short, digits_long, length_short, length_long}

-- the last digit behind the others is the number
last_behind : (n : ℕ) → n < 18446744073709551616 → with_digit (Some (n / 10)) (last_digit n) ≡ Some n
last_behind n h = grind (arith, nat_tests)

last_read : (n : ℕ) (text : List ℕ) → n < 18446744073709551616 → with_digits (Some 0) text ≡ Some (n / 10)
    → with_digits (Some 0) (text ++ (last_digit n ∷ [])) ≡ Some n
last_read n text h e = fold-append with_digit (Some 0) text (last_digit n ∷ []) ∙ ap (λ x. with_digit x (last_digit n)) e ∙ last_behind n h

one_read : (most n : ℕ) → n < 10 → with_digits (Some 0) (digits most n) ≡ Some n
one_read most n s =
    let z : n / 10 ≡ 0 = omega arith in
    ap (with_digits (Some 0)) (digits_short most n s) ∙ last_read n [] (omega arith) (ap Some (sym z))

all_read : (most n : ℕ) → n ≤ most → n < 18446744073709551616 → with_digits (Some 0) (digits most n) ≡ Some n
all_read zero n k h = one_read zero n (omega arith)
all_read (suc most) n k h = elim (cases_lt n 10) [
  | inl s ↦ one_read (suc most) n s
  | inr l ↦ ap (with_digits (Some 0)) (digits_long most n l) ∙ last_read n (digits most (n / 10)) h (all_read most (n / 10) (omega arith) (omega arith))
]

-- ---- its length

fits : (k n : ℕ) → n < 10 ^ suc k → length (text_of n) ≤ suc k
fits zero n h = omega (arith, length_short n h)
fits (suc k) n h = elim (cases_lt n 10) [
  | inl s ↦ omega (arith, length_short n s)
  | inr l ↦ omega (arith, length_long n l, fits k (n / 10) (omega (arith, pow-succ' 10 (suc k))))
]

pub not_empty : (n : ℕ) → 0 < length (text_of n)
not_empty n = elim (cases_lt n 10) [ inl s ↦ omega (arith, length_short n s) | inr l ↦ omega (arith, length_long n l) ]

pub twenty_at_most : TwentyAtMost
twenty_at_most n h = fits 19 n (omega arith)

pub read_back : ReadBack
unfolding text_of
read_back n h =
    let e : (length (text_of n) == 0) ≡ false = grind (arith, nat_tests, not_empty n) in
    sym (number_some (text_of n) e) ∙ all_read n n (omega arith) h
