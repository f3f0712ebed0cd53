use Rattle.model.specs.Dump.{words_of}
use lib.ListN.{take, drop}
use Rattle.restoring.proofs.Generations.{generation_kept, generation_failed}
use Rattle.restoring.proofs.holding.restore_generation.Goals as goal

pub returns-in_default : goal.returns-in_default
returns-in_default c =
    let a = c.hold_all.ensures in
    (a.0, generation_kept c.args.on.now.s c.args.on.now.r c.args.h (take c.args.long (drop c.args.prints.at (words_of c.args.prints.bytes.now))) c.args.run.now _ _ _ a.1 c.in_default.is)

pub returns : goal.returns
returns c =
    let a = c.hold_all.ensures in
    let e = c.fail.ensures in (
      e.0,
      generation_failed c.args.on.now.s c.args.on.now.r c.args.h (take c.args.long (drop c.args.prints.at (words_of c.args.prints.bytes.now))) c.args.run.now _ _ _ _ _
          c.requires.0.1 a.1 c.in-Err.is c.give_back_all.ensures.1 e.1,
    )
