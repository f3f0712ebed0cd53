use Rattle.register.specs.Rules.{asked_by}
use Rattle.taking.proofs.AtRegister.{judge_turns, batch_turns}
use Rattle.taking.proofs.InRun.{register_asks}
use Rattle.taking.proofs.on_register.judge.Goals as goal

pub judge-requires : goal.judge-requires
judge-requires c =
    let on = c.args.on.now in
    let w = c.words.ensures in
    rw (w.start, w.end) (register_asks on.s on.r on.at.below _ on.at c.args.run.now c.requires)

pub judge_batch-requires : goal.judge_batch-requires
judge_batch-requires c =
    let on = c.args.on.now in
    let w = c.words.ensures in
    rw (w.start, w.end) (register_asks on.s on.r on.at.below _ on.at c.args.run.now c.requires)

pub returns-in-Judged : goal.returns-in-Judged
returns-in-Judged c =
    let on = c.args.on.now in
    let w = c.words.ensures in
    rw (w.start, w.end) (judge_turns on.s on.r on.at.below _ on.at c.args.run.now
    c.args.manner (asked_by c.args.ask) c.requires _ _ c.in-Judged.is (rw (w.start, w.end) at c.judge.ensures.1))

pub returns-in-JudgedBatch : goal.returns-in-JudgedBatch
returns-in-JudgedBatch c =
    let on = c.args.on.now in
    let w = c.words.ensures in
    rw (w.start, w.end) (batch_turns on.s on.r on.at.below _ on.at c.args.run.now
    c.args.manner (asked_by c.args.ask) c.requires _ _ c.in-JudgedBatch.is (rw (w.start, w.end) at c.judge_batch.ensures.1))
