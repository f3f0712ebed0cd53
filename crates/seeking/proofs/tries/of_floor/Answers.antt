use Rattle.seeking.proofs.Trying.{floor_none, floor_some}
use Rattle.seeking.proofs.tries.of_floor.Goals as goal

pub returns-in-None : goal.returns-in-None
returns-in-None c = search floor_none

pub returns-in-Some : goal.returns-in-Some
returns-in-Some c = search floor_some
