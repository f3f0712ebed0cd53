use Rattle.std.proofs.Common.{rules}
use Rattle.register_view.proofs.Views.{view_fits, view_wrote}
use Rattle.register_view.proofs.view.Goals as goal

pub show-requires : goal.show-requires
show-requires c = let s = c.of.ensures in view_fits c.requires.0 s.words s.slots s.ring c.requires.1

pub returns : goal.returns
returns c = let s = c.of.ensures in view_wrote c.requires.0 s.words s.slots s.ring c.show.ensures.puts (search rules)
