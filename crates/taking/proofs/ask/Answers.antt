use Rattle.register.specs.Rules.{asked_by}
use Rattle.taking.proofs.Taking.{judged_only, judged_taken}
use Rattle.taking.proofs.ask.Goals as goal

pub returns-in-Judged : goal.returns-in-Judged
returns-in-Judged c =
    let on = c.args.on.now in
    judged_only on.s on.r (asked_by c.args.ask) on.at.below c.args.manner c.in-Judged.is c.args.run.now _ _ c.judge-verdict.ensures.1

pub returns-in-Taken : goal.returns-in-Taken
returns-in-Taken c =
    let on = c.args.on.now in
    judged_taken on.s on.r (asked_by c.args.ask) on.at.below c.args.manner c.in-Taken.is c.args.run.now _ _ _ _ c.judge-verdict.ensures.1 c.take_judged.ensures
