-- The words of many things, one after the other.
use Rattle.std.specs.Prelude.{List, [], ◌∷◌, ◌++◌, ℕ}

unfoldable pub flat : {A : Type 0} → (A → List ℕ) → List A → List ℕ
flat enc [] = []
flat enc (x ∷ xs) = enc x ++ flat enc xs
