use Rattle.dump.proofs.Writes.{counted}
use Rattle.dump.proofs.of_register.dump_length.Goals as goal

pub returns : goal.returns
returns c = let s = c.of.ensures in counted _ _ c.requires s.words s.slots s.ring c.dump_length.ensures
