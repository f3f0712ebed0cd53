-- Elements that are well formed at their places, one read and one replaced.
use Prim.Native.Nat.{ℕ, zero, suc, ◌+◌, ◌<◌}
use native.Mathlib.Omega.{arith}
use mathlib.Core.Path.{◌≡◌}
use mathlib.Core.List.{List, [], ◌∷◌}
use lib.ListN.{length, get_or, set}
use Rattle.runs.specs.Combine.{EachOk}

module _ {A : Type 0} (OkAt : ℕ → A → Type 0) where
  from_at : (i : ℕ) (xs : List A) (j : ℕ) (d : A) → EachOk OkAt i xs → j < length xs → OkAt (i + j) (get_or xs j d)
  unfolding EachOk
  from_at i [] j d ok h = absurd (omega arith)
  from_at i (x ∷ xs) zero d ok h = let e : i + 0 ≡ i = omega arith in rw e ok.0
  from_at i (x ∷ xs) (suc j) d ok h = let e : i + suc j ≡ suc i + j = omega arith in rw e (from_at (suc i) xs j d ok.1 (omega arith))

  from_set : (i : ℕ) (xs : List A) (j : ℕ) (y : A) → EachOk OkAt i xs → OkAt (i + j) y → EachOk OkAt i (set xs j y)
  unfolding EachOk
  from_set i [] j y ok h = tt
  from_set i (x ∷ xs) zero y ok h = let e : i + 0 ≡ i = omega arith in (rw e at h, ok.1)
  from_set i (x ∷ xs) (suc j) y ok h =
      let e : i + suc j ≡ suc i + j = omega arith in
      (ok.0, from_set (suc i) xs j y ok.1 (rw e at h))

  pub each_at : (xs : List A) (j : ℕ) (d : A) → EachOk OkAt 0 xs → j < length xs → OkAt j (get_or xs j d)
  each_at xs j d ok h = let e : 0 + j ≡ j = omega arith in rw e at (from_at 0 xs j d ok h)

  pub each_set : (xs : List A) (j : ℕ) (y : A) → EachOk OkAt 0 xs → OkAt j y → EachOk OkAt 0 (set xs j y)
  each_set xs j y ok h = let e : 0 + j ≡ j = omega arith in from_set 0 xs j y ok (rw e h)
