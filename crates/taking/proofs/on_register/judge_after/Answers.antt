use Rattle.taking.proofs.Explains.{seen_here, judge_after_reads}
use Rattle.taking.proofs.InRun.{register_asks}
use Rattle.taking.proofs.on_register.judge_after.Goals as goal

pub judge_after-requires : goal.judge_after-requires
judge_after-requires c =
    let on = c.args.on.now in
    let w = c.words.ensures in (
      rw (w.start, w.end) (register_asks on.s on.r on.at.below _ on.at c.args.run.now c.requires.0),
      seen_here on.s on.r _ on.at c.args.run.now c.args.seen c.requires.1,
    )

pub returns : goal.returns
returns c =
    let on = c.args.on.now in
    let w = c.words.ensures in
    judge_after_reads on.s on.r _ on.at c.args.run.now c.args.seen _ _ (rw (w.start, w.end) at c.judge_after.ensures)
