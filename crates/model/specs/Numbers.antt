-- What all rules share: bounds, rounding up, the two caps, and a floor that may be absent.
use Rattle.std.specs.Prelude.{ℕ, ◌+◌, ◌-◌, ◌/◌, min, max, Bool, false, ◌&&◌, leb, Option, Some, None}

-- lo ≤ n ≤ hi
abbrev pub between : ℕ → ℕ → ℕ → Bool
between lo hi n = leb lo n && leb n hi

-- the largest 64-bit and the largest 32-bit number
abbrev pub top64 : ℕ
top64 = 18_446_744_073_709_551_615

abbrev pub top32 : ℕ
top32 = 4_294_967_295

-- "capped": the largest number of its width in place of one that is larger
unfoldable pub cap64 : ℕ → ℕ
cap64 n = min n top64

unfoldable pub cap32 : ℕ → ℕ
cap32 n = min n top32

-- n / d rounded up
unfoldable pub ceil : ℕ → ℕ → ℕ
ceil n d = (n + (d - 1)) / d

-- a floor, raised: it never falls, and one that is absent becomes the number
unfoldable pub raise : Option ℕ → ℕ → Option ℕ
raise None n = Some n
raise (Some f) n = Some (max f n)

-- stamp ≤ floor
unfoldable pub under : ℕ → Option ℕ → Bool
under stamp None = false
under stamp (Some f) = leb stamp f

-- the rules of this file, for a theorem that computes
unfoldable pub compute_numbers : ℕ
unfolding cap64 cap32 ceil raise under
compute_numbers = 0
