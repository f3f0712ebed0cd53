use Rattle.book.proofs.Entering.{held_none, held_here}
use Rattle.book.proofs.held_by.Goals as goal

pub returns-in-Some : goal.returns-in-Some
returns-in-Some c = let s = c.args in held_here s.shares s.who s.part.now c.requires _ c.in-Some.ensures _ c.place_start.ensures.0

pub returns-in-None : goal.returns-in-None
returns-in-None c = let s = c.args in held_none s.shares s.who s.part.now c.requires c.in-None.ensures
