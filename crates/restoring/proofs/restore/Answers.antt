use Rattle.model.specs.Dump.{words_of}
use Rattle.dump.specs.Walk.{dump_at}
use Rattle.restoring.proofs.Dumps.{restore_turns}
use Rattle.restoring.proofs.restore.Goals as goal

pub returns : goal.returns
returns c =
    let on = c.args.on.now in
    let a = c.restore_dump.ensures in
    (a.0, restore_turns on.s on.r on.at.below (dump_at (words_of c.args.dump.now.bytes.now)) c.args.run.now _ _ a.1)
