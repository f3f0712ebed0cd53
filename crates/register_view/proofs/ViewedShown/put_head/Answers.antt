use Rattle.runs.proofs.Over.{puts_none}
use Rattle.register_view.proofs.ViewedShown.put_head.Goals as goal

pub returns-clause-puts : goal.returns-clause-puts
returns-clause-puts g c = puts_none g.E.Element.encoded g.E.Element.width _ _
