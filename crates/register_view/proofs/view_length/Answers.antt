use Rattle.register_view.proofs.Views.{view_counted}
use Rattle.register_view.proofs.view_length.Goals as goal

pub returns : goal.returns
returns c = let s = c.of.ensures in view_counted c.requires s.words s.slots s.ring c.held.ensures.value
