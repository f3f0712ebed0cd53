use Rattle.generation.proofs.Alone.{parts_sound}
use Rattle.generation.proofs.crowded.slots_sound.Goals as goal

pub returns : goal.returns
returns c = parts_sound _ _ _ _ _ c.no_gaps-gapless.ensures c.are_distinct-alone.ensures c.held_in-n.ensures
