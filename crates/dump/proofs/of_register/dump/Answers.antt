use Rattle.std.proofs.Common.{rules}
use Rattle.dump.proofs.Writes.{has_room, wrote}
use Rattle.dump.proofs.of_register.dump.Goals as goal

pub put_dump-requires : goal.put_dump-requires
put_dump-requires c = let s = c.of.ensures in has_room _ _ c.requires.0 s.words s.slots s.ring c.requires.1

pub returns : goal.returns
returns c = let s = c.of.ensures in wrote _ _ c.requires.0 s.words s.slots s.ring c.put_dump.ensures.puts (search rules)
