use Rattle.generation.proofs.Looking.{room_is}
use Rattle.generation.proofs.room.Goals as goal

pub returns : goal.returns
returns c = room_is c.args.part.now _ _ _ _ _ c.contains.ensures c.room_known.ensures
