-- A failed generation raises the floor (specs/FloorCovers), on words: after a restore that came out Partly a floor is told. It is at least
-- the newest stamp of one of the dump's generations, and at least the newest stamp that the register had of that bucket in that class
-- before the restore.
use Rattle.std.specs.Prelude.{ℕ, ◌≡◌, Some, List}
use Rattle.model.specs.declared.Class.{Class}
use Rattle.model.specs.Answer.{Answer}
use Rattle.model.specs.Answer.{Partly}
use Rattle.model.specs.Settings.{settings_of}
use Rattle.model.specs.Class.{pick}
use Rattle.model.specs.Generation.{Generation}
use Rattle.model.specs.Register.{generation_at}
use Rattle.model.specs.Dump.{Dumped, Dump, OneOf, read_dump}
use Rattle.model.specs.Calls.{Restore, Floor, On, register_at, held_in, reply, after}
use Rattle.model.specs.Floors.{AtLeast}

-- the floor that is told after a restore, and what a class of a register had at a bucket's position before it
abbrev pub floor_told : List ℕ → List ℕ → ℕ → List ℕ → Answer
floor_told st ws r bytes = reply st (after st ws (On r (Restore bytes))) (On r Floor)

abbrev pub had : List ℕ → List ℕ → ℕ → Class → ℕ → Generation
had st ws r c b = generation_at (pick c (register_at r (held_in (settings_of st) ws)).rings) b

pub record RaisedByOne (st ws : List ℕ) (r : ℕ) (bytes : List ℕ) : Type 0 where
  pub dump : Dump
  pub read : read_dump bytes ≡ Some dump
  pub class : Class
  pub failed : Dumped
  pub its : OneOf failed (pick class dump.classes)
  pub of_the_dump : AtLeast failed.newest (floor_told st ws r bytes)
  pub of_the_register : (had st ws r class failed.bucket).bucket ≡ failed.bucket
      → AtLeast (had st ws r class failed.bucket).newest (floor_told st ws r bytes)

abbrev pub PartlyRaises : Type 0
PartlyRaises = (st ws : List ℕ) (r : ℕ) (bytes : List ℕ) (n : ℕ) → reply st ws (On r (Restore bytes)) ≡ Partly n → RaisedByOne st ws r bytes
