-- Plain runs of words: zeros, equal runs, and a run filled up with zeros.
use Rattle.std.specs.Prelude.{ℕ, Bool, true, false, ◌&&◌, List, [], ◌∷◌, ◌++◌, take, replicate, eqb}

-- every word is 0
unfoldable pub zeros : List ℕ → Bool
zeros [] = true
zeros (w ∷ ws) = eqb w 0 && zeros ws

-- the same words, and as many of them
unfoldable pub same_words : List ℕ → List ℕ → Bool
same_words [] [] = true
same_words [] (w ∷ b) = false
same_words (v ∷ a) [] = false
same_words (v ∷ a) (w ∷ b) = eqb v w && same_words a b

-- n words whatever the list: its first n, and zeros where it is shorter
unfoldable pub pad : ℕ → List ℕ → List ℕ
pad n ws = take n (ws ++ replicate n 0)
