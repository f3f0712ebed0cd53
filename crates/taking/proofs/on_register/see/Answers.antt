use Rattle.taking.proofs.Explains.{seen_there, see_reads}
use Rattle.taking.proofs.InRun.{register_asks}
use Rattle.taking.proofs.on_register.see.Goals as goal

pub see-requires : goal.see-requires
see-requires c =
    let on = c.args.on.now in
    let w = c.words.ensures in
    rw (w.start, w.end) (register_asks on.s on.r on.at.below _ on.at c.args.run.now c.requires)

pub returns : goal.returns
returns c =
    let on = c.args.on.now in
    let w = c.words.ensures in (
      seen_there on.s on.r _ on.at c.args.run.now c.see.result c.see.ensures.0,
      see_reads on.s on.r _ on.at c.args.run.now _ _ (rw (w.start, w.end) at c.see.ensures.1),
    )
