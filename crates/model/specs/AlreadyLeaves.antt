-- "Begin: a Fallback start is pending until it raises the floor to the host's number ..; later begins answer Already."
-- A begin that answers Already leaves every word as it was: of any words, settings, register and number.
use Rattle.std.specs.Prelude.{ℕ, ◌≡◌, List}
use Rattle.model.specs.Answer.{Already}
use Rattle.model.specs.Calls.{Begin, On, reply, after}

abbrev pub AlreadyLeaves : Type 0
AlreadyLeaves = (st ws : List ℕ) (r number : ℕ) → reply st ws (On r (Begin number)) ≡ Already → after st ws (On r (Begin number)) ≡ ws
