use mathlib.Core.Path.{sym, ◌∙◌}
use Rattle.register.proofs.HeadWords.{begin_already, begin_begun, begin_turns}
use Rattle.register.proofs.heading.begin.Goals as goal

pub returns-then-pending-clause-register_turns : goal.returns-then-pending-clause-register_turns
returns-then-pending-clause-register_turns c =
    let a = c.args in
    let told = c.is_pending-pending.ensures.value in
    let e = begin_begun a.number a.part.now _ (sym told ∙ c.if-pending.true) c.raise_floor.ensures.part_after in
    λ u. begin_turns a.number a.part.now u _ _ (e, told)

pub returns-else-pending-clause-register_turns : goal.returns-else-pending-clause-register_turns
returns-else-pending-clause-register_turns c =
    let a = c.args in
    let told = c.is_pending-pending.ensures.value in
    let e = begin_already a.number a.part.now (sym told ∙ c.if-pending.false) in
    λ u. begin_turns a.number a.part.now u _ _ (e, told)
