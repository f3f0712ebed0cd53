-- Words by their positions in the bytes.
use Prim.Native.Nat.{ℕ, zero, suc, ◌+◌, ◌/◌, ◌*◌, ◌<◌}
use native.Mathlib.Omega.{arith}
use mathlib.Core.Path.{◌≡◌, refl, ap, sym}
use mathlib.Core.List.{List}
use lib.ListN.{length, get_or, take, drop}
use lib.Seq.{drop-drop}
use Rattle.model.specs.Dump.{number_of, words_in, words_of}

-- ---- words by their positions
pub words_long : (n : ℕ) (bs : List ℕ) → length (words_in n bs) ≡ n
unfolding words_in
words_long zero bs = refl
words_long (suc n) bs = ap suc (words_long n (drop 8 bs))

word_in : (n i : ℕ) (bs : List ℕ) → i < n → get_or (words_in n bs) i 0 ≡ number_of (take 8 (drop (8 * i) bs))
unfolding words_in
word_in zero i bs h = absurd (omega arith)
word_in (suc n) zero bs h = refl
word_in (suc n) (suc i) bs h =
    let e : 8 * suc i ≡ 8 + 8 * i = omega arith in
    rw (e, ← drop-drop (8 * i) 8 bs) (word_in n i (drop 8 bs) (omega arith))

pub word_is : (bs : List ℕ) (i : ℕ) → i < length bs / 8 → number_of (take 8 (drop (8 * i) bs)) ≡ get_or (words_of bs) i 0
word_is bs i h = sym (word_in (length bs / 8) i bs h)
