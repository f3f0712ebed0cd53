-- "The floor shall now rise to the larger of the dump's newest and the dropped generation's newest" (request Q-3).
-- A generation of a dump that fails, wherever it stands among those of its class: when all are restored the floor is at least its newest
-- stamp, and at least the newest stamp of the generation that was dropped, as it was just before.
use Rattle.std.specs.Prelude.{ℕ, ◌≡◌, false, Option, List, ◌∷◌, ◌++◌}
use Rattle.model.specs.declared.Class.{Class}
use Rattle.model.specs.declared.Usable.{Usable}
use Rattle.model.specs.declared.Shares.{Shares}
use Rattle.model.specs.Class.{pick}
use Rattle.model.specs.Generation.{Generation}
use Rattle.model.specs.Register.{generation_at}
use Rattle.model.specs.Dump.{Dumped, Restoring, tried, restore_class}
use Rattle.model.specs.Misreadings.{NoLower}

-- a floor at or past the newest stamp of a dumped generation, and of the one at its position if that is of its bucket
pub record Covered (d : Dumped) (there : Generation) (floor : Option ℕ) : Type 0 where
  pub of_the_dump : NoLower d.newest floor
  pub of_the_dropped : there.bucket ≡ d.bucket → NoLower there.newest floor

abbrev pub FloorCovers : Type 0
FloorCovers =
    (u : Usable) (b : Shares) (c : Class) (earlier later : List Dumped) (d : Dumped) (from : Restoring)
    → (tried u b c d (restore_class u b c earlier from)).fits ≡ false
    → Covered d (generation_at (pick c (tried u b c d (restore_class u b c earlier from)).register.rings) d.bucket)
    (restore_class u b c (earlier ++ d ∷ later) from).register.floor
