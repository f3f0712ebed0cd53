-- Numbers of 64 bits come back from their bytes, and words from the bytes of words, whatever bytes follow.
use mathlib.Core.Path.{◌≡◌, refl, ap, ◌∙◌}
use mathlib.Core.List.{List, [], ◌∷◌, ◌++◌, append_assoc}
use Prim.Native.Nat.{ℕ, zero, suc, ◌+◌, ◌*◌, ◌/◌, ◌≤◌, ◌<◌}
use native.Mathlib.Omega.{arith}
use lib.ListN.{length, length-append}
use lib.Seq.{take_at, drop_at}
use Rattle.runs.specs.Chunks.{flat}
use Rattle.runs.proofs.Chunks.{length_flat}
use Rattle.model.specs.Numbers.{top64}
use Rattle.model.specs.RoundTrip.{Words64}
use Rattle.model.specs.Dump.{number_of, bytes_of, word_bytes, words_in, words_of}
use Rattle.model.specs.Octets.{ReadsBack}

-- one more than the largest number of k bytes
abbrev past : ℕ → ℕ
past zero = 1
past (suc k) = 256 * past k

number_back : (k n : ℕ) → n < past k → number_of (bytes_of k n) ≡ n
unfolding number_of bytes_of
number_back zero n h = omega arith
number_back (suc k) n h = let e = number_back k (n / 256) (omega arith) in omega arith

pub reads_back : ReadsBack
reads_back n h = number_back 8 n (omega arith)

bytes_length : (k n : ℕ) → length (bytes_of k n) ≡ k
unfolding bytes_of
bytes_length zero n = refl
bytes_length (suc k) n = ap suc (bytes_length k (n / 256))

-- a word has eight bytes
pub word_length : (n : ℕ) → length (word_bytes n) ≡ 8
word_length n = bytes_length 8 n

pub bytes_long : (ws : List ℕ) → length (flat word_bytes ws) ≡ 8 * length ws
bytes_long ws = let e = length_flat word_bytes 8 word_length ws in omega arith

words_on : (w n : ℕ) (bs : List ℕ) → w ≤ top64 → words_in (suc n) (word_bytes w ++ bs) ≡ w ∷ words_in n bs
unfolding words_in
words_on w n bs h = rw (take_at (word_bytes w) bs 8 (word_length w), drop_at (word_bytes w) bs 8 (word_length w), reads_back w h)

words_back : (ws more : List ℕ) (n : ℕ) → Words64 ws → words_in (length ws + n) (flat word_bytes ws ++ more) ≡ ws ++ words_in n more
unfolding flat
words_back [] more n h = let e : 0 + n ≡ n = omega arith in rw e
words_back (w ∷ ws) more n h =
    let e : suc (length ws) + n ≡ suc (length ws + n) = omega arith in
    rw (e, append_assoc)
    (words_on w (length ws + n) (flat word_bytes ws ++ more) h.0 ∙ ap (λ (l : List ℕ). w ∷ l) (words_back ws more n h.1))

-- the words of bytes that were written, and then whatever other bytes hold
pub words_of_bytes : (ws more : List ℕ) → Words64 ws → words_of (flat word_bytes ws ++ more) ≡ ws ++ words_in (length more / 8) more
words_of_bytes ws more h =
    let l : length (flat word_bytes ws ++ more) / 8 ≡ length ws + length more / 8 = rw (length-append, bytes_long) (omega arith) in
    rw l (words_back ws more (length more / 8) h)
