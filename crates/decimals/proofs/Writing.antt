-- The text of a number by its last digit, and a text that is written byte by byte. Assumes nothing.
use Rattle.std.proofs.Common.{ℕ, zero, suc, ◌≡◌, ◌+◌, ◌/◌, ◌<◌, ◌≤◌, List, [], ◌∷◌, ◌++◌, length, get_or, take, drop, set, refl, sym, ap, ◌∙◌, inl, inr, arith}
use Rattle.std.proofs.lemmas.Bool.{cases_lt}
use mathlib.Core.List.{append_assoc}
use lib.ListN.{length-append}
use lib.Seq.{drop-cons, set_at, set_split, length-take-le}
use borrow.Author.Tests.{lt-ltb, le-ltb}
use Rattle.decimals.specs.Texts.{last_digit, digits, text_of, with_text}

-- ---- the text of a number by its last digit

pub digits_short : (most n : ℕ) → n < 10 → digits most n ≡ last_digit n ∷ []
unfolding digits
digits_short zero n h = refl
digits_short (suc most) n h = simp (lt-ltb n 10 h)

pub digits_long : (most n : ℕ) → 10 ≤ n → digits (suc most) n ≡ digits most (n / 10) ++ (last_digit n ∷ [])
unfolding digits
digits_long most n h = simp (le-ltb n 10 h)

-- any bound that is enough gives the same digits
same_digits : (a b n : ℕ) → n ≤ a → n ≤ b → digits a n ≡ digits b n
same_digits zero b n h k = digits_short zero n (omega arith) ∙ sym (digits_short b n (omega arith))
same_digits (suc a) zero n h k = digits_short (suc a) n (omega arith) ∙ sym (digits_short zero n (omega arith))
same_digits (suc a) (suc b) n h k = elim (cases_lt n 10) [
  | inl s ↦ digits_short (suc a) n s ∙ sym (digits_short (suc b) n s)
  | inr l ↦ digits_long a n l ∙ ap (λ (t : List ℕ). t ++ (last_digit n ∷ [])) (same_digits a b (n / 10) (omega arith) (omega arith)) ∙ sym (digits_long b n l)
]

pub text_short : (n : ℕ) → n < 10 → text_of n ≡ last_digit n ∷ []
unfolding text_of
text_short n h = digits_short n n h

pub text_long : (n : ℕ) → 10 ≤ n → text_of n ≡ text_of (n / 10) ++ (last_digit n ∷ [])
unfolding text_of
text_long zero h = absurd (omega arith)
text_long (suc m) h = digits_long m (suc m) h
    ∙ ap (λ (t : List ℕ). t ++ (last_digit (suc m) ∷ [])) (same_digits m (suc m / 10) (suc m / 10) (omega arith) (omega arith))

-- ---- its length

pub length_short : (n : ℕ) → n < 10 → length (text_of n) ≡ 1
length_short n h = ap length (text_short n h)

pub length_long : (n : ℕ) → 10 ≤ n → length (text_of n) ≡ length (text_of (n / 10)) + 1
length_long n h = ap length (text_long n h) ∙ length-append (text_of (n / 10)) (last_digit n ∷ [])

-- ---- bytes with a text from a place on

pub first_written : (bytes : List ℕ) (at d : ℕ) → at < length bytes → set bytes at d ≡ with_text at (d ∷ []) bytes
first_written bytes at d h =
    let e : at + 1 ≡ suc at = omega arith in
    rw e (set_split bytes at d h)

pub next_written : (bytes text : List ℕ) (at d : ℕ) → at + length text < length bytes
    → set (with_text at text bytes) (at + length text) d ≡ with_text at (text ++ (d ∷ [])) bytes
next_written bytes text at d h =
    let n = at + length text in
    let front = take at bytes ++ text in
    let a : at ≤ length bytes = omega arith in
    let e : length front ≡ at + length text = length-append (take at bytes) text ∙ ap (λ (k : ℕ). k + length text) (length-take-le at bytes a) in
    let l : at + length (text ++ (d ∷ [])) ≡ suc (at + length text) = rw (length-append text (d ∷ [])) (omega arith) in
    rw (
      l,
      append_assoc text (d ∷ []) (drop (suc n) bytes),
      ← append_assoc (take at bytes) text (d ∷ drop (suc n) bytes),
      ← append_assoc (take at bytes) text (drop n bytes),
      drop-cons bytes n 0 h,
    )
    (set_at front (get_or bytes n 0) (drop (suc n) bytes) d n e)

-- what `put` leaves of a number of one digit
pub put_one : (bytes : List ℕ) (n at d : ℕ) → n < 10 → at + length (text_of n) ≤ length bytes → d ≡ last_digit n
    → (at + 1 ≡ at + length (text_of n)) × (set bytes at d ≡ with_text at (text_of n) bytes)
put_one bytes n at d s h e =
    let l = length_short n s in
    (omega (arith, l), rw (text_short n s, e) (first_written bytes at (last_digit n) (omega (arith, l))))

-- what it leaves of a longer one, once the digits before the last are written
pub put_more : (bytes before : List ℕ) (n at end d : ℕ) → 10 ≤ n → at + length (text_of n) ≤ length bytes → d ≡ last_digit n
    → end ≡ at + length (text_of (n / 10)) → before ≡ with_text at (text_of (n / 10)) bytes
    → (end + 1 ≡ at + length (text_of n)) × (set before end d ≡ with_text at (text_of n) bytes)
put_more bytes before n at end d m h e f g =
    let l = length_long n m in
    (omega (arith, l), rw (text_long n m, e, f, g) (next_written bytes (text_of (n / 10)) at (last_digit n) (omega (arith, l))))
