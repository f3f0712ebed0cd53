-- A register's view by the words of a register, whatever they are. Of the words of a well-formed register it is the model's
-- (proofs/Views).
use Rattle.std.specs.Prelude.{ℕ, cond, List, [], ◌∷◌, eqb, get_or}
use Rattle.runs.specs.Over.{Fits as FitsOver, Puts as PutsOver, itself}
use Rattle.dump.specs.Parts.{register_shown}

-- ---- words over an output's words
abbrev pub Fits : ℕ → List ℕ → List ℕ → Type 0
Fits p ws out = FitsOver 1 p ws out

abbrev pub Puts : ℕ → List ℕ → List ℕ → List ℕ → ℕ → Type 0
Puts p ws before after r = PutsOver itself 1 p ws before after r

-- ---- one generation's words: bucket, oldest, newest, held
unfoldable pub part_view : List ℕ → List ℕ
part_view ws = cond (eqb (get_or ws 1 0) 0) [] (get_or ws 3 0 ∷ get_or ws 4 0 ∷ get_or ws 2 0 ∷ get_or ws 1 0 ∷ [])

-- nothing stands before those of a class
abbrev pub nothing_before : ℕ → List ℕ → List ℕ
nothing_before k ws = []

-- ---- those of a register's three rings, each of n generations of k words
abbrev pub register_parts : ℕ → ℕ → List ℕ → List ℕ
register_parts k n ws = register_shown nothing_before part_view k n ws
