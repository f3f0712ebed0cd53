use Rattle.dump.proofs.Writes.{may_walk}
use Rattle.dump.proofs.held.Rings.of.Goals as goal

pub invariant_of-result : goal.invariant_of-result
invariant_of-result c = let s = c.of-shape.ensures in record { laid = may_walk _ _ c.requires s.slots s.ring }
