-- A generation that holds nothing writes nothing; otherwise its four words.
use Rattle.register_view.proofs.Writing.{view_none, view_fits, view_puts}
use Rattle.register_view.proofs.ViewedShown.put_generation.Goals as goal

pub put_all-requires : goal.put_all-requires
put_all-requires g c = view_fits c.of-head.ensures c.if-head-ne0.true c.requires.fits

pub returns-then-head-ne0-clause-puts : goal.returns-then-head-ne0-clause-puts
returns-then-head-ne0-clause-puts g c = view_puts c.of-head.ensures c.if-head-ne0.true c.put_all.ensures.puts

pub returns-else-head-ne0-clause-puts : goal.returns-else-head-ne0-clause-puts
returns-else-head-ne0-clause-puts g c = view_none c.of-head.ensures c.if-head-ne0.false
