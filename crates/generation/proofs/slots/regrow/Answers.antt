use native.Mathlib.Omega.{arith}
use mathlib.Core.Path.{◌∙◌}
use Rattle.generation.proofs.Putting.{grown_not, grown_on}
use Rattle.generation.proofs.slots.regrow.Goals as goal

pub returns-then-wanted-n : goal.returns-then-wanted-n
returns-then-wanted-n c = let a = c.args in grown_not a.slots.now a.n a.wanted (omega arith) c.if-wanted-n.true

pub returns-then-n-le64 : goal.returns-then-n-le64
returns-then-n-le64 c =
    let a = c.args in
    let more = c.if-wanted-n.false in
    c.rebuild_within.ensures ∙ grown_on a.slots.now a.n a.wanted (omega arith) more

pub returns-else-n-le64 : goal.returns-else-n-le64
returns-else-n-le64 c =
    let a = c.args in
    let more = c.if-wanted-n.false in
    c.rebuild_within-else-n-le64.ensures ∙ grown_on a.slots.now a.n a.wanted (omega arith) more
