use Rattle.register.specs.Rules.{asked_by}
use Rattle.taking.proofs.Taking.{new_turns, old_turns}
use Rattle.taking.proofs.take_judged.Goals as goal

pub returns-in-New : goal.returns-in-New
returns-in-New c =
    new_turns c.args.on.now.s c.args.on.now.r (asked_by c.args.ask) _ _ _ _ _ c.in-New.is (rw c.args.on.now.at.usable at c.of.ensures) c.take_share.ensures

pub returns-in_default : goal.returns-in_default
returns-in_default c = old_turns c.args.on.now.s c.args.on.now.r (asked_by c.args.ask) _ _ c.in_default.not-New
