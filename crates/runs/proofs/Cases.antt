-- Going by the cases of a test, and taking a conjunction of tests apart. Assumes nothing.
use mathlib.Core.Path.{◌≡◌, refl}
use mathlib.Core.Bool.{Bool, true, false, cond, ◌&&◌}
use mathlib.Core.List.{List, [], ◌∷◌}
use Prim.Native.Nat.{ℕ}
use native.Mathlib.Omega.{arith}

-- The test comes first, so that antt knows what each case is told.
pub by_test : {A : Type 0} (b : Bool) → (b ≡ true → A) → (b ≡ false → A) → A
by_test true f g = f refl
by_test false f g = g refl

-- Where the goal shows one `cond`. Write the type of P's variable: `λ (s : List ℕ). ..`.
pub split_if : {A : Type 0} (P : A → Type 0) (b : Bool) {x y : A} → (b ≡ true → P x) → (b ≡ false → P y) → P (cond b x y)
split_if P true f g = f refl
split_if P false f g = g refl

-- Two constructors that are said to be equal: `no (cc)`.
pub no : {A : Type 0} → ◌≡◌ {A = ℕ} 0 1 → A
no z = absurd (omega arith)

pub both_true : (a b : Bool) → (a && b) ≡ true → (a ≡ true) × (b ≡ true)
both_true true b p = (refl, p)
both_true false b p = (p, (cc))

-- A conjunction of many tests, `t && (u && (v && w))`, taken apart and put together at once: of `p = each_true t us e` the
-- parts are `p.0`, `p.1.0`, `p.1.1.0` and so on, and the last is `p.1.1.1`.
abbrev pub all_of : Bool → List Bool → Bool
all_of t [] = t
all_of t (u ∷ us) = t && all_of u us

abbrev pub AllTrue : Bool → List Bool → Type 0
AllTrue t [] = t ≡ true
AllTrue t (u ∷ us) = (t ≡ true) × AllTrue u us

pub each_true : (t : Bool) (us : List Bool) → all_of t us ≡ true → AllTrue t us
each_true t [] p = p
each_true t (u ∷ us) p = let q = both_true t (all_of u us) p in (q.0, each_true u us q.1)

pub all_true : (t : Bool) (us : List Bool) → AllTrue t us → all_of t us ≡ true
all_true t [] p = p
all_true t (u ∷ us) p = rw p.0 (all_true u us p.1)
