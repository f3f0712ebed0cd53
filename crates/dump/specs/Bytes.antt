-- Words written over an output's bytes, eight bytes each.
use Rattle.std.specs.Prelude.{ℕ, ◌≡◌, List, length, refl}
use Rattle.runs.specs.Over.{Fits as FitsOver, Puts as PutsOver}
use Rattle.model.specs.Dump.{word_bytes, bytes_of}

-- there is room for the bytes of words from position p on
abbrev pub Fits : ℕ → List ℕ → List ℕ → Type 0
Fits p ws out = FitsOver 8 p ws out

-- words are written from position p on, and r is the position after them
abbrev pub Puts : ℕ → List ℕ → List ℕ → List ℕ → ℕ → Type 0
Puts p ws before after r = PutsOver word_bytes 8 p ws before after r

-- the bytes of a word are eight
pub word_wide : (n : ℕ) → length (word_bytes n) ≡ 8
unfolding bytes_of
word_wide n = refl
