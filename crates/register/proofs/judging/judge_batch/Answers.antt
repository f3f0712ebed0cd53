use Rattle.register.specs.Rules.{asked_by}
use Rattle.register.proofs.Verdicts.{batch_turns}
use Rattle.register.proofs.judging.judge_batch.Goals as goal

pub returns : goal.returns
returns c =
    let window_for = c.window_for in (
      c.judge-verdict.ensures.0,
      batch_turns c.args.u (asked_by c.args.ask) _ _ _ _ _ _ c.judge-verdict.ensures.1 window_for.ensures c.front_past-past.ensures
          c.ahead_for.ensures,
    )
