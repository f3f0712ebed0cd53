use mathlib.Core.Path.{sym, ◌∙◌}
use Rattle.register.proofs.Verdicts.{ahead_turns, ahead_keeps, ahead_other}
use Rattle.register.proofs.judging.ahead_for.Goals.{else-past-via-then-past+else-eq, else-past-via-else-past}
use Rattle.register.proofs.judging.ahead_for.Goals as goal

pub returns-then-eq : goal.returns-then-eq
returns-then-eq c = ahead_turns _ _ c.if-past.true (sym c.eq.ensures ∙ c.if-eq.true)

pub returns-else-past : goal.returns-else-past
returns-else-past c = elim c.else-past.branch [
  | else-past-via-then-past+else-eq w ↦ ahead_other _ _ (sym w.eq.ensures ∙ w.if-eq.false)
  | else-past-via-else-past w ↦ ahead_keeps _ _ w.if-past.false
]
