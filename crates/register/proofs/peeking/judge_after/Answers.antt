use Rattle.register.proofs.Foreseen.{rule_pending, rule_flag, rule_held, rule_late}
use Rattle.register.proofs.peeking.judge_after.Goals as goal

pub returns-then-is_pending : goal.returns-then-is_pending
returns-then-is_pending c = search rule_pending

pub returns-then-not-ask : goal.returns-then-not-ask
returns-then-not-ask c = search rule_flag

pub returns-in-Some : goal.returns-in-Some
returns-in-Some c = search rule_held

pub returns-in_default : goal.returns-in_default
returns-in_default c = search rule_late
