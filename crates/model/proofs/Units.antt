-- Lists of units, one number for each holder of a class: any one has at most T, and any two at most T and half of it. What is left of
-- that when holders lose, and when one gains. Three holders, of which one keeps to a third, then have at most twice T.
use mathlib.Core.Path.{◌≡◌, refl, ap}
use mathlib.Core.List.{List, [], ◌∷◌, ◌++◌}
use Prim.Native.Nat.{ℕ, suc, ◌+◌, ◌*◌, ◌/◌, ◌≤◌, ◌<◌}
use native.Mathlib.Nat.{le-div_iff_mul-le, mul-le-mul_left}
use native.Mathlib.Omega.{arith}
use lib.ListN.{length}

abbrev pub sum : List ℕ → ℕ
sum [] = 0
sum (x ∷ xs) = x + sum xs

-- x with each of the others is at most m
abbrev pub Beside : ℕ → ℕ → List ℕ → Type 0
Beside m x [] = Unit {0}
Beside m x (y ∷ ys) = (x + y ≤ m) × Beside m x ys

-- any one is at most t, any two are at most t and half of it
abbrev pub Shared : ℕ → List ℕ → Type 0
Shared t [] = Unit {0}
Shared t (x ∷ xs) = (x ≤ t) × Beside (t + t / 2) x xs × Shared t xs

-- ---- a loss: some went, some fell
pub data Shrunk : List ℕ → List ℕ → Type 0 where
  none_left : Shrunk [] []
  lost : {x : ℕ} {xs ys : List ℕ} → Shrunk xs ys → Shrunk xs (x ∷ ys)
  kept : {x y : ℕ} {xs ys : List ℕ} → x ≤ y → Shrunk xs ys → Shrunk (x ∷ xs) (y ∷ ys)

pub shrunk_same : (xs : List ℕ) → Shrunk xs xs
shrunk_same [] = none_left
shrunk_same (x ∷ xs) = kept {x = x} {y = x} (omega arith) (shrunk_same xs)

shrunk_beside : (m a b : ℕ) {xs ys : List ℕ} → Shrunk xs ys → a ≤ b → Beside m b ys → Beside m a xs
shrunk_beside m a b none_left l h = tt
shrunk_beside m a b (lost s) l h = shrunk_beside m a b s l h.1
shrunk_beside m a b (kept {x = x} {y = y} e s) l h = (omega (arith, h.0), shrunk_beside m a b s l h.1)

pub shrunk_shared : (t : ℕ) {xs ys : List ℕ} → Shrunk xs ys → Shared t ys → Shared t xs
shrunk_shared t none_left h = tt
shrunk_shared t (lost s) h = shrunk_shared t s h.2
shrunk_shared t (kept {x = x} {y = y} e s) h =
    (omega (arith, h.0), shrunk_beside (t + t / 2) x y s e h.1, shrunk_shared t s h.2)

-- ---- a gain: one holder's number becomes v, or a holder of v comes last
pub data Gained (v : ℕ) : List ℕ → List ℕ → Type 0 where
  came : Gained v [] (v ∷ [])
  rose : {x : ℕ} {xs : List ℕ} → Gained v (x ∷ xs) (v ∷ xs)
  later : {x : ℕ} {xs ys : List ℕ} → Gained v xs ys → Gained v (x ∷ xs) (x ∷ ys)

pub gained_length : (v : ℕ) {xs ys : List ℕ} → Gained v xs ys → 0 < length ys
gained_length v came = omega arith
gained_length v rose = omega arith
gained_length v (later g) = omega arith

beside_shared : (t v : ℕ) (xs : List ℕ) → (0 < length xs → v ≤ t / 2) → Shared t xs → Beside (t + t / 2) v xs
beside_shared t v [] l h = tt
beside_shared t v (x ∷ xs) l h =
    let k : v ≤ t / 2 = l (omega arith) in (omega (arith, k, h.0), beside_shared t v xs (λ e. k) h.2)

beside_gained : (m a v : ℕ) {xs ys : List ℕ} → Gained v xs ys → a + v ≤ m → Beside m a xs → Beside m a ys
beside_gained m a v came l h = (l, tt)
beside_gained m a v rose l h = (l, h.1)
beside_gained m a v (later g) l h = (h.0, beside_gained m a v g l h.1)

-- a gain that is at most t, and at most half of it where there are others
pub part_shared : (t v : ℕ) {xs ys : List ℕ} → Gained v xs ys → v ≤ t → (1 < length ys → v ≤ t / 2) → Shared t xs → Shared t ys
part_shared t v came l k h = (l, tt, tt)
part_shared t v (rose {xs = xs}) l k h = (l, beside_shared t v xs (λ e. k (omega arith)) h.2, h.2)
part_shared t v (later {x = x} g) l k h =
    let half : v ≤ t / 2 = k (omega (arith, gained_length v g)) in
    (h.0, beside_gained (t + t / 2) x v g (omega (arith, h.0, half)) h.1, part_shared t v g l (λ e. half) h.2)

-- a gain after which all together are at most t
beside_sum : (m x : ℕ) (xs : List ℕ) → x + sum xs ≤ m → Beside m x xs
beside_sum m x [] h = tt
beside_sum m x (y ∷ ys) h = (omega arith, beside_sum m x ys (omega arith))

pub sum_shared : (t : ℕ) (xs : List ℕ) → sum xs ≤ t → Shared t xs
sum_shared t [] h = tt
sum_shared t (x ∷ xs) h = (omega arith, beside_sum (t + t / 2) x xs (omega arith), sum_shared t xs (omega arith))

-- what the others have, beside the one that gained
pub record Others (v : ℕ) (xs ys : List ℕ) : Type 0 where
  pub rest : List ℕ
  pub fewer : Shrunk rest xs
  pub in_all : sum ys ≡ v + sum rest
  pub as_many : length ys ≡ suc (length rest)

pub others : (v : ℕ) {xs ys : List ℕ} → Gained v xs ys → Others v xs ys
others v came = record { rest = []; fewer = none_left; in_all = refl; as_many = refl }
others v (rose {xs = xs}) = record { rest = xs; fewer = lost (shrunk_same xs); in_all = refl; as_many = refl }
others v (later {x = x} g) =
    let o = others v g in
    record {
      rest = x ∷ o.rest;
      fewer = kept {x = x} {y = x} (omega arith) o.fewer;
      in_all = omega (arith, o.in_all);
      as_many = ap suc o.as_many;
    }

-- ---- three at most, one of them within its equal part: all together are at most twice t
pub twice : (t v : ℕ) (rest : List ℕ) → Shared t rest → suc (length rest) ≤ 3 → v ≤ t / suc (length rest) → v + sum rest ≤ 2 * t
twice t v [] h l p = omega arith
twice t v (x ∷ []) h l p = omega (arith, h.0)
twice t v (x ∷ y ∷ []) h l p = omega (arith, h.1.0)
twice t v (x ∷ y ∷ z ∷ rest) h l p = absurd (omega arith)

-- a part of n is at most a part of fewer
pub part_le : (t v n m : ℕ) → 0 < m → m ≤ n → v ≤ t / n → v ≤ t / m
part_le t v n m z l p =
    (le-div_iff_mul-le z).1 (let a : v * n ≤ t = (le-div_iff_mul-le (omega arith)).0 p in omega (arith, a, mul-le-mul_left v l))

-- ---- any one, and any two
pub one_of : (t : ℕ) (before : List ℕ) (x : ℕ) (rest : List ℕ) → Shared t (before ++ (x ∷ rest)) → x ≤ t
one_of t [] x rest h = h.0
one_of t (y ∷ before) x rest h = one_of t before x rest h.2

beside_one : (m y : ℕ) (between : List ℕ) (x : ℕ) (rest : List ℕ) → Beside m y (between ++ (x ∷ rest)) → y + x ≤ m
beside_one m y [] x rest h = h.0
beside_one m y (z ∷ between) x rest h = beside_one m y between x rest h.1

pub two_of : (t : ℕ) (before : List ℕ) (x : ℕ) (between : List ℕ) (y : ℕ) (rest : List ℕ) → Shared t (before ++ (x ∷ (between ++ (y ∷ rest)))) → x + y ≤ t + t / 2
two_of t [] x between y rest h = beside_one (t + t / 2) x between y rest h.1
two_of t (z ∷ before) x between y rest h = two_of t before x between y rest h.2
