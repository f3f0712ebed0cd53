-- The library's bytes of a number are the model's, and so is the number of bytes.
use Prim.Native.Nat.{ℕ, suc, ◌+◌, ◌-◌, ◌/◌, ◌≤◌}
use native.Mathlib.Omega.{arith}
use mathlib.Core.Path.{◌≡◌, refl, ap}
use mathlib.Core.List.{List, [], ◌∷◌, ◌++◌}
use lib.ListN.{length, get_or, take, drop}
use lib.Seq.{drop-drop}
use borrow.Rule.Slice.PartMut.{put_mid}
use Rattle.std.specs.Int.{w64, to_le_bytes, from_le_bytes}
use Rattle.runs.specs.Over.{written}
use Rattle.runs.proofs.Firsts.{firsts_are}
use Rattle.model.specs.Dump.{number_of, bytes_of, word_bytes}

le_bytes : (n : ℕ) → to_le_bytes w64 n ≡ word_bytes n
unfolding bytes_of
le_bytes n =
    let a : n / 256 / 256 ≡ n / 65_536 = omega arith in
    let b : n / 65_536 / 256 ≡ n / 16_777_216 = omega arith in
    let c : n / 16_777_216 / 256 ≡ n / 4_294_967_296 = omega arith in
    let d : n / 4_294_967_296 / 256 ≡ n / 1_099_511_627_776 = omega arith in
    let e : n / 1_099_511_627_776 / 256 ≡ n / 281_474_976_710_656 = omega arith in
    let f : n / 281_474_976_710_656 / 256 ≡ n / 72_057_594_037_927_936 = omega arith in
    rw (a, b, c, d, e, f)

le_number : (bs : List ℕ) → length bs ≡ 8 → from_le_bytes w64 bs ≡ number_of bs
unfolding number_of
le_number (a ∷ b ∷ c ∷ d ∷ e ∷ f ∷ g ∷ h ∷ []) l = omega arith
le_number _ l = absurd (omega arith)

-- the number that is read from the eight bytes from a position on
pub number_at : (at : ℕ) (bs : List ℕ) → at + 8 ≤ length bs
    → from_le_bytes w64
    (get_or bs at 0 ∷ get_or bs (at + 1) 0 ∷ get_or bs (at + 2) 0 ∷ get_or bs (at + 3) 0
    ∷ get_or bs (at + 4) 0 ∷ get_or bs (at + 5) 0 ∷ get_or bs (at + 6) 0 ∷ get_or bs (at + 7) 0 ∷ [])
    ≡ number_of (take 8 (drop at bs))
number_at at bs h =
    let k1 : at + 1 ≡ suc at = omega arith in
    let k2 : at + 2 ≡ suc (suc at) = omega arith in
    let k3 : at + 3 ≡ suc (suc (suc at)) = omega arith in
    let k4 : at + 4 ≡ suc (suc (suc (suc at))) = omega arith in
    let k5 : at + 5 ≡ suc (suc (suc (suc (suc at)))) = omega arith in
    let k6 : at + 6 ≡ suc (suc (suc (suc (suc (suc at))))) = omega arith in
    let k7 : at + 7 ≡ suc (suc (suc (suc (suc (suc (suc at)))))) = omega arith in
    rw (k1, k2, k3, k4, k5, k6, k7, firsts_are 8 at bs h) (le_number _ refl)

-- the bytes of a number over eight others
pub put_over : (at n : ℕ) (out : List ℕ) → at + 8 ≤ length out
    → put_mid at (at + 8 - at) out (to_le_bytes w64 n) ≡ written at (word_bytes n) out
unfolding written bytes_of
put_over at n out h =
    let e : at + 8 - at ≡ 8 = omega arith in
    rw (e, drop-drop 8 at out) (ap (λ (ys : List ℕ). take at out ++ (ys ++ drop (at + 8) out)) (le_bytes n))
