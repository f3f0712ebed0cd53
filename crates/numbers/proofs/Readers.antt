-- Settings and limits that are read of a part of the words are those that the words say.
use Prim.Native.Nat.{ℕ, ◌+◌, ◌*◌}
use native.Mathlib.Omega.{arith}
use mathlib.Core.Path.{◌≡◌, ◌∙◌}
use mathlib.Core.List.{List}
use lib.ListN.{get_or, take, drop}
use lib.Seq.{get_or-take, get_or-drop}
use Rattle.model.specs.Settings.{usable_of, limits_of}
use Rattle.numbers.specs.Readers.{usable_said, shares_said}

-- the first five words are all that limits take
pub limits_first : (ls : List ℕ) → limits_of (take 5 ls) ≡ limits_of ls
limits_first ls =
    rw (get_or-take 5 ls 0 0 (omega arith), get_or-take 5 ls 1 0 (omega arith), get_or-take 5 ls 2 0 (omega arith), get_or-take 5 ls 3 0 (omega arith), get_or-take 5 ls 4 0 (omega arith))

pub shares_first : (ws : List ℕ) → shares_said (take 4 ws) ≡ shares_said ws
shares_first ws =
    rw (get_or-take 4 ws 0 0 (omega arith), get_or-take 4 ws 1 0 (omega arith), get_or-take 4 ws 2 0 (omega arith), get_or-take 4 ws 3 0 (omega arith))

pub usable_first : (ws : List ℕ) → usable_said (take 6 ws) ≡ usable_said ws
usable_first ws =
    rw (
      get_or-take 6 ws 0 0 (omega arith),
      get_or-take 6 ws 1 0 (omega arith),
      get_or-take 6 ws 2 0 (omega arith),
      get_or-take 6 ws 3 0 (omega arith),
      get_or-take 6 ws 4 0 (omega arith),
      get_or-take 6 ws 5 0 (omega arith),
    )

-- the six words of a register, among those of settings
pub usable_part : (st : List ℕ) (r : ℕ) → usable_said (take 6 (drop (5 + 6 * r) st)) ≡ usable_of st r
usable_part st r = let z : 5 + 6 * r + 0 ≡ 5 + 6 * r = omega arith in usable_first (drop (5 + 6 * r) st) ∙ simp (get_or-drop, z)

pub shares_part : (st : List ℕ) → shares_said (take 4 (drop 1 st)) ≡ record { places = get_or st 1 0; pairs = get_or st 2 0; feeder = get_or st 3 0; peer = get_or st 4 0 }
shares_part st = shares_first (drop 1 st) ∙ simp get_or-drop
