-- Runs of zeros, equal runs, runs filled up with zeros: what the tests say of the lists, and how such runs are cut.
use Prim.Native.Nat.{ℕ, zero, suc, ◌+◌, ◌-◌, ◌≤◌}
use native.Mathlib.Omega.{arith}
use mathlib.Core.Path.{◌≡◌, refl, sym, ◌∙◌, ap₂, ap}
use mathlib.Core.Bool.{true, ◌&&◌, and_assoc, and-true}
use mathlib.Core.List.{List, [], ◌∷◌, ◌++◌}
use lib.ListN.{length, get_or, take, drop, replicate, length-append, length-replicate}
use lib.Seq.{take-append-add, length-take-le, take-nil}
use lib.Dec.{eqb}
use lib.Bits.{bit_or, or_zero_l, or_add_and, and_le_r}
use borrow.Author.Tests.{eq-eqb, eqb-true, ne_eqb}
use Rattle.std.specs.List.{fold}
use Rattle.runs.specs.Words.{zeros, same_words, pad}
use Rattle.runs.proofs.Cases.{both_true}

-- ---- zeros: words that pass are zeros, and zeros pass
pub zeros_are : (ws : List ℕ) → zeros ws ≡ true → ws ≡ replicate (length ws) 0
unfolding zeros
zeros_are [] t = refl
zeros_are (w ∷ ws) t = let p = both_true (eqb w 0) (zeros ws) t in ap₂ ◌∷◌ (eqb-true w 0 p.0) (zeros_are ws p.1)

pub zeros_pass : (n : ℕ) → zeros (replicate n 0) ≡ true
unfolding zeros
zeros_pass zero = refl
zeros_pass (suc n) = zeros_pass n

-- ---- equal runs: words that pass are equal, and equal ones pass
pub same_are : (a b : List ℕ) → same_words a b ≡ true → a ≡ b
unfolding same_words
same_are [] [] t = refl
same_are [] (w ∷ b) t = cc
same_are (v ∷ a) [] t = cc
same_are (v ∷ a) (w ∷ b) t = let p = both_true (eqb v w) (same_words a b) t in ap₂ ◌∷◌ (eqb-true v w p.0) (same_are a b p.1)

pub same_pass : (a : List ℕ) → same_words a a ≡ true
unfolding same_words
same_pass [] = refl
same_pass (v ∷ a) = rw (eq-eqb v v refl) (same_pass a)

-- ---- the bits of all words gathered in one: two words together have no bit exactly where neither has one
no_bit : (a b : ℕ) → eqb (bit_or a b) 0 ≡ (eqb a 0 && eqb b 0)
no_bit zero b = ap (λ (w : ℕ). eqb w 0) (or_zero_l b)
no_bit (suc a) b =
    ne_eqb (bit_or (suc a) b) 0 (λ e. absurd (omega (arith, e, or_add_and (suc a) b, and_le_r (suc a) b)))
    ∙ sym (rw (ne_eqb (suc a) 0 (λ e. absurd (omega (arith, e)))))

gathered : (any : ℕ) (ws : List ℕ) → eqb (fold bit_or any ws) 0 ≡ (eqb any 0 && zeros ws)
unfolding zeros
gathered any [] = sym (and-true (eqb any 0))
gathered any (w ∷ ws) = rw (gathered (bit_or any w) ws, no_bit, and_assoc)

pub zeros_gathered : (ws : List ℕ) → eqb (fold bit_or 0 ws) 0 ≡ zeros ws
zeros_gathered ws = gathered 0 ws

-- ---- a run filled up: it has n words, and a list that fits stands there whole
pub length_pad : (n : ℕ) (ws : List ℕ) → length (pad n ws) ≡ n
unfolding pad
length_pad n ws = length-take-le n (ws ++ replicate n 0) (rw (length-append, length-replicate) (omega arith))

take_zeros : (m n : ℕ) → m ≤ n → take {A = ℕ} m (replicate n 0) ≡ replicate m 0
take_zeros zero n h = refl
take_zeros (suc m) zero h = absurd (omega arith)
take_zeros (suc m) (suc n) h = ap (λ (l : List ℕ). 0 ∷ l) (take_zeros m n (omega arith))

-- what is left of zeros
pub drop_zeros : (m n : ℕ) → drop {A = ℕ} m (replicate n 0) ≡ replicate (n - m) 0
drop_zeros zero n = let e : n - 0 ≡ n = omega arith in rw e
drop_zeros (suc m) zero = let e : 0 - suc m ≡ 0 = omega arith in rw e
drop_zeros (suc m) (suc n) = let e : suc n - suc m ≡ n - m = omega arith in rw e (drop_zeros m n)

pub pad_fits : (n : ℕ) (ws : List ℕ) → length ws ≤ n → pad n ws ≡ ws ++ replicate (n - length ws) 0
unfolding pad
pad_fits n ws h =
    let e : length ws + (n - length ws) ≡ n = omega arith in
    let t = take-append-add ws (replicate n 0) (n - length ws) in
    (rw e at t) ∙ ap (λ (l : List ℕ). ws ++ l) (take_zeros (n - length ws) n (omega arith))

-- ---- lists of any elements: of one element over and over every element is that one, and a list cut at both ends
pub all_same : {A : Type 0} (n j : ℕ) (x : A) → get_or (replicate n x) j x ≡ x
all_same zero j x = refl
all_same (suc n) zero x = refl
all_same (suc n) (suc j) x = all_same n j x

pub drop_take : {A : Type 0} (a n : ℕ) (xs : List A) → a ≤ n → drop a (take n xs) ≡ take (n - a) (drop a xs)
drop_take zero n xs h = let e : n - 0 ≡ n = omega arith in rw e
drop_take (suc a) zero xs h = absurd (omega arith)
drop_take (suc a) (suc n) [] h = sym (take-nil (suc n - suc a))
drop_take (suc a) (suc n) (x ∷ xs) h = let e : suc n - suc a ≡ n - a = omega arith in rw e (drop_take a n xs (omega arith))
