use native.Mathlib.Omega.{arith}
use Rattle.model.specs.Dump.{words_of}
use Rattle.restoring.proofs.Dumps.{found_acts}
use Rattle.restoring.proofs.classes.restore_at.Goals as goal

pub restore_generation-whole-requires : goal.restore_generation-whole-requires
restore_generation-whole-requires c =
    let g = c.generation-found.ensures in
    let l = g.found.length in
    let n = g.next in
    ((c.requires.0, record { second = rw (← c.args.on.now.at.usable) c.second_of.ensures }), rw g.same_bytes (omega arith))

pub returns-clause-acts : goal.returns-clause-acts
returns-clause-acts c =
    let found = c.generation-found in
    let g = found.ensures in
    let a = c.restore_generation-whole.ensures in (
      a.0,
      found_acts c.args.on.now.s c.args.on.now.r (words_of c.args.reader.now.bytes.now) c.args.reader.now.at
          (record { class = c.args.class; bucket = found.result.bucket; newest = found.result.newest; second = c.second_of.result }) g.found.bucket g.found.newest
          c.args.run.now _ _ (rw (g.same_bytes, g.next, g.found.length) at a.1),
    )
