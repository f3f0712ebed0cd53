use Rattle.register.proofs.Foreseen.{late_floor, late_not, late_ahead, late_behind}
use Rattle.register.proofs.peeking.late_after.Goals as goal

pub returns-then-is_under : goal.returns-then-is_under
returns-then-is_under c = search late_floor

pub returns-then-within : goal.returns-then-within
returns-then-within c = search late_not

pub returns-then-past : goal.returns-then-past
returns-then-past c = search late_ahead

pub returns-else-past : goal.returns-else-past
returns-else-past c = search late_behind
