-- Runs of one width, of lists that lie one after the other.
use Prim.Native.Nat.{ℕ, zero, suc, ◌+◌, ◌*◌, ◌/◌, ◌<◌}
use native.Mathlib.Nat.{add-mul}
use native.Mathlib.Omega.{arith}
use mathlib.Core.Path.{◌≡◌, ap}
use mathlib.Core.List.{List, [], ◌∷◌, ◌++◌, append-nil}
use lib.ListN.{length, drop, length-append, length-drop}
use lib.Seq.{take_at, drop_at, take_all}
use Rattle.std.proofs.lemmas.List.{take-append-le, drop-append-le}
use Rattle.std.proofs.lemmas.Nat.{div-mul-add}
use Rattle.dump.specs.Parts.{parts, parts_total, AllParts, Each, shown, total}

-- how many there are
pub count_of : (k n : ℕ) (ws : List ℕ) → 0 < k → length ws ≡ n * k → length ws / k ≡ n
count_of k n ws some e = let z : n * k ≡ n * k + 0 = omega arith in rw (e, z) (div-mul-add n k 0 some)

-- ---- m of them, and n more
module _ (k : ℕ) where
  one_more : (m : ℕ) → suc m * k ≡ k + m * k
  one_more m = let e : suc m ≡ m + 1 = omega arith in omega (arith, ap (λ (i : ℕ). i * k) e, add-mul m 1 k)

  total_two : (c : List ℕ → ℕ) (m n : ℕ) (xs ys : List ℕ) → length xs ≡ m * k
      → parts_total c k (m + n) (xs ++ ys) ≡ parts_total c k m xs + parts_total c k n ys
  unfolding parts_total
  total_two c zero n [] ys e = let z : 0 + n ≡ n = omega arith in rw z (omega arith)
  total_two c zero n (x ∷ xs) ys e = absurd (omega arith)
  total_two c (suc m) n xs ys e =
      let s = one_more m in
      let d = length-drop k xs in
      let z : suc m + n ≡ suc (m + n) = omega arith in
      rw (z, take-append-le k xs ys (omega arith), drop-append-le k xs ys (omega arith), total_two c m n (drop k xs) ys (omega arith)) (omega arith)

  all_two : (P : List ℕ → Type 0) (m n : ℕ) (xs ys : List ℕ) → length xs ≡ m * k → AllParts P k m xs → AllParts P k n ys → AllParts P k (m + n) (xs ++ ys)
  unfolding AllParts
  all_two P zero n [] ys e p q = let z : 0 + n ≡ n = omega arith in rw z q
  all_two P zero n (x ∷ xs) ys e p q = absurd (omega arith)
  all_two P (suc m) n xs ys e p q =
      let s = one_more m in
      let d = length-drop k xs in
      let z : suc m + n ≡ suc (m + n) = omega arith in
      rw (z, take-append-le k xs ys (omega arith), drop-append-le k xs ys (omega arith)) (p.0, all_two P m n (drop k xs) ys (omega arith) p.1 q)

-- ---- three lists, each of n runs of k words
module _ (k n : ℕ) (wide : 0 < k) (A B C : List ℕ) (a : length A ≡ n * k) (b : length B ≡ n * k) (c : length C ≡ n * k) where
  all_long : length (A ++ (B ++ C)) ≡ n * k + (n * k + n * k)
  all_long = rw (length-append, length-append, a, b, c)

  pub count_all : length (A ++ (B ++ C)) / k ≡ n + (n + n)
  count_all =
      let e : (n + (n + n)) * k ≡ n * k + (n * k + n * k) = omega (arith, add-mul n (n + n) k, add-mul n n k) in
      count_of k (n + (n + n)) (A ++ (B ++ C)) wide (omega (arith, all_long))

  pub total_all : (f : List ℕ → ℕ) → total f k (A ++ (B ++ C)) ≡ total f k A + (total f k B + total f k C)
  total_all f =
      rw (count_all, count_of k n A wide a, count_of k n B wide b, count_of k n C wide c, total_two k f n (n + n) A (B ++ C) a, total_two k f n n B C b)

  pub each_all : (P : List ℕ → Type 0) → Each P k A → Each P k B → Each P k C → Each P k (A ++ (B ++ C))
  each_all P p q r =
      rw count_all
      (all_two k P n (n + n) A (B ++ C) a (rw (count_of k n A wide a) at p) (all_two k P n n B C b (rw (count_of k n B wide b) at q) (rw (count_of k n C wide c) at r)))

  -- and the lists themselves
  module _ (some : 0 < n * k) where
    three : length (A ++ (B ++ C)) / (n * k) ≡ 3
    three = count_of (n * k) 3 (A ++ (B ++ C)) some (omega (arith, all_long))

    pub shown_three : (f : List ℕ → List ℕ) → shown f (n * k) (A ++ (B ++ C)) ≡ f A ++ (f B ++ f C)
    unfolding parts
    shown_three f =
        rw (three, take_at A (B ++ C) (n * k) a, drop_at A (B ++ C) (n * k) a, take_at B C (n * k) b, drop_at B C (n * k) b, take_all (n * k) C (omega arith), append-nil)

    pub each_three : (P : List ℕ → Type 0) → P A → P B → P C → Each P (n * k) (A ++ (B ++ C))
    unfolding AllParts
    each_three P p q r =
        rw (three, take_at A (B ++ C) (n * k) a, drop_at A (B ++ C) (n * k) a, take_at B C (n * k) b, drop_at B C (n * k) b, take_all (n * k) C (omega arith))
        (p, (q, (r, tt)))
