-- The starts as they are read are those that the rules read.
use Prim.Native.Nat.{ℕ, zero, suc, ◌+◌, ◌*◌, ◌<◌}
use mathlib.Core.Path.{◌≡◌}
use mathlib.Core.List.{List}
use lib.ListN.{get_or}
use borrow.Author.Tests.{lt-leb}
use native.Mathlib.Omega.{arith}
use Rattle.model.specs.declared.Settings.{Settings}
use Rattle.model.specs.declared.Start.TheVariants.{Empty}
use Rattle.model.specs.Codes.{start_of}
use Rattle.vet.specs.Starts.{starts_read}

pub start_there : (s : Settings) (starts : List ℕ) (r : ℕ) → r < s.registers → r < 4
    → get_or (starts_read s starts) r Empty ≡ start_of (get_or starts (2 * r) 0) (get_or starts (2 * r + 1) 0)
start_there s starts zero h few = rw (lt-leb _ _ h)
start_there s starts (suc zero) h few = rw (lt-leb _ _ h)
start_there s starts (suc (suc zero)) h few = rw (lt-leb _ _ h)
start_there s starts (suc (suc (suc zero))) h few = rw (lt-leb _ _ h)
start_there s starts (suc (suc (suc (suc r)))) h few = absurd (omega arith)
