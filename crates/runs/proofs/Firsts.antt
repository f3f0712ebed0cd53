-- A header by its words: at a literal n, `firsts_are n 0 ws h : ws ≡ get_or ws 0 0 ∷ get_or ws 1 0 ∷ .. ∷ drop n ws` computes.
-- So a law about a header is proved over `a ∷ b ∷ .. ∷ rest`, with no clauses for lists that are too short.
use Prim.Native.Nat.{ℕ, zero, suc, ◌+◌, ◌≤◌}
use native.Mathlib.Omega.{arith}
use mathlib.Core.Path.{◌≡◌, ap, ◌∙◌}
use mathlib.Core.List.{List, ◌∷◌}
use lib.ListN.{length, get_or, drop}
use lib.Seq.{drop-cons}

-- the n words of ws from word i on, and then the rest
abbrev pub firsts : ℕ → ℕ → List ℕ → List ℕ → List ℕ
firsts zero i ws rest = rest
firsts (suc n) i ws rest = get_or ws i 0 ∷ firsts n (suc i) ws rest

pub firsts_are : (n i : ℕ) (ws : List ℕ) → i + n ≤ length ws → drop i ws ≡ firsts n i ws (drop (i + n) ws)
firsts_are zero i ws h = let e : i + 0 ≡ i = omega arith in rw e
firsts_are (suc n) i ws h =
    let e : i + suc n ≡ suc i + n = omega arith in
    drop-cons ws i 0 (omega arith) ∙ ap (λ (l : List ℕ). get_or ws i 0 ∷ l) (rw e (firsts_are n (suc i) ws (omega arith)))
