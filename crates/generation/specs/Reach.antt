-- That every slot is reached, in parts: within few steps of probing, and as no slot that probing passes is empty.
use Rattle.std.specs.Prelude.{ℕ, zero, suc, ◌+◌, ◌-◌, ◌%◌, ◌<◌, ◌≤◌, ◌≡◌, Bool, true, cond, not, ◌&&◌, ◌||◌, List, [], ◌∷◌, length, get_or, eqb, leb}
use Rattle.model.specs.Generation.{next, probe_from}
use Rattle.model.specs.GenerationWords.{ends_at}

-- a slot is empty, or probing for what it holds ends there within so many steps
abbrev pub near : List ℕ → ℕ → ℕ → ℕ → Bool
near s i x steps = eqb x 0 || ends_at i (probe_from s x steps (x % length s))

-- how many slots lie from slot j on up to slot i, round the end of n
abbrev pub steps : ℕ → ℕ → ℕ → ℕ
steps n j i = cond (leb j i) (i - j) (i + n - j)

-- how many slots probing for x passes before it comes to slot i: for what an empty slot has, none
abbrev pub passed_to : ℕ → ℕ → ℕ → ℕ
passed_to n i x = cond (eqb x 0) 0 (steps n (x % n) i)

-- so many slots from slot j on are held
unfoldable pub held_on : List ℕ → ℕ → ℕ → Bool
held_on s zero j = true
held_on s (suc k) j = not (eqb (get_or s j 0) 0) && held_on s k (next (length s) j)

-- what probing for x passes before it comes to slot i is held; and so for slot i and those after it
abbrev pub unbroken_to : List ℕ → ℕ → ℕ → Bool
unbroken_to s i x = held_on s (passed_to (length s) i x) (x % length s)

unfoldable pub unbroken_from : List ℕ → ℕ → List ℕ → Bool
unbroken_from s i [] = true
unbroken_from s i (x ∷ xs) = unbroken_to s i x && unbroken_from s (suc i) xs

abbrev pub unbroken : List ℕ → Bool
unbroken s = unbroken_from s 0 s

-- the slot t before slot i, round the end of n
abbrev pub back : ℕ → ℕ → ℕ → ℕ
back n i t = cond (leb t i) (i - t) (i + n - t)

-- The run of held slots that ends before slot i is r long: r slots before slot i are held, and the one before them, if it is among
-- the b + i that were looked at, is not. With b = 0 slot 0 is the first, and with b the number of slots it comes after the last.
pub record Run (s : List ℕ) (b r i : ℕ) : Type 0 where
  pub few : r ≤ b + i
  pub held : (t : ℕ) → 0 < t → t ≤ r → t ≤ length s → get_or s (back (length s) i t) 0 ≡ 0 → ⊥
  pub gap : r < b + i → r < length s → get_or s (back (length s) i (suc r)) 0 ≡ 0
