-- The words of many things, one after the other: of lists joined, and how many they are.
use Prim.Native.Nat.{ℕ, ◌*◌}
use native.Mathlib.Nat.{zero-mul, suc-mul}
use native.Mathlib.Omega.{arith}
use mathlib.Core.Path.{◌≡◌, refl, sym}
use mathlib.Core.List.{List, [], ◌∷◌, ◌++◌, append_assoc}
use lib.ListN.{length, length-append}
use Rattle.runs.specs.Chunks.{flat}

pub flat_append : {A : Type 0} (enc : A → List ℕ) (xs ys : List A) → flat enc (xs ++ ys) ≡ flat enc xs ++ flat enc ys
unfolding flat
flat_append enc [] ys = refl
flat_append enc (x ∷ xs) ys = rw (flat_append enc xs ys) (sym (append_assoc (enc x) (flat enc xs) (flat enc ys)))

-- where each has k words
pub length_flat : {A : Type 0} (enc : A → List ℕ) (k : ℕ) → ((x : A) → length (enc x) ≡ k) → (xs : List A) → length (flat enc xs) ≡ length xs * k
unfolding flat
length_flat enc k width [] = sym (zero-mul k)
length_flat enc k width (x ∷ xs) = rw (length-append, width, length_flat enc k width xs, suc-mul) (omega arith)
