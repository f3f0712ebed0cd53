-- Words written over others. Each word goes out as k of the output's: as itself, or as so many bytes.
use Rattle.std.specs.Prelude.{ℕ, ◌+◌, ◌*◌, ◌≤◌, ◌≡◌, List, [], ◌∷◌, ◌++◌, length, take, drop}
use Rattle.runs.specs.Chunks.{flat}

-- xs from position p on, and all else as it was
unfoldable pub written : ℕ → List ℕ → List ℕ → List ℕ
written p xs out = take p out ++ (xs ++ drop (p + length xs) out)

-- there is room for words from position p on
pub record Fits (k p : ℕ) (ws out : List ℕ) : Type 0 where
  pub room : p + k * length ws ≤ length out

-- words are written from position p on, and r is the position after them
pub record Puts (enc : ℕ → List ℕ) (k p : ℕ) (ws before after : List ℕ) (r : ℕ) : Type 0 where
  pub out : after ≡ written p (flat enc ws) before
  pub next : r ≡ p + k * length ws

-- a word that goes out as itself
abbrev pub itself : ℕ → List ℕ
itself w = w ∷ []
