-- Request Q-6: a number that is read from bytes "is the sum of the bytes, each times its power of 256". The least byte comes first.
use Rattle.std.specs.Prelude.{ℕ, suc, ◌+◌, ◌*◌, ◌^◌, ◌≤◌, ◌≡◌, List, [], ◌∷◌}
use Rattle.model.specs.Numbers.{top64}
use Rattle.model.specs.Dump.{number_of, word_bytes}

-- the sum of bytes, each times its power of 256: the first of them times power i, the next times power i + 1, and so on
unfoldable pub power_sum : ℕ → List ℕ → ℕ
power_sum i [] = 0
power_sum i (b ∷ bs) = b * 256 ^ i + power_sum (suc i) bs

-- of any bytes, eight or not
abbrev pub SumOfPowers : Type 0
SumOfPowers = (bs : List ℕ) → number_of bs ≡ power_sum 0 bs

-- "The bytes of a number give it back": each number of 64 bits
abbrev pub ReadsBack : Type 0
ReadsBack = (n : ℕ) → n ≤ top64 → number_of (word_bytes n) ≡ n
