use Rattle.model.specs.Dump.{words_of}
use Rattle.dump.specs.Walk.{dump_at}
use Rattle.restoring.proofs.Dumps.{resume_raised}
use Rattle.restoring.proofs.resume.Goals as goal

pub returns : goal.returns
returns c =
    let on = c.args.on.now in
    let a = c.restore_dump-whole.ensures in
    let e = c.raise_floor.ensures in (
      e.0,
      resume_raised on.s on.r on.at.below (dump_at (words_of c.args.dump.now.bytes.now)) c.args.proven c.args.run.now _ _ _
          _ c.forget_floor.ensures.1 a.1 e.1,
    )
