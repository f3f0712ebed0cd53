use Rattle.expiring.proofs.LeastOf.{published_reads}
use Rattle.taking.proofs.InRun.{register_asks}
use Rattle.expiring.proofs.least.published.Goals as goal

pub published_sweep-requires : goal.published_sweep-requires
published_sweep-requires c =
    let w = c.words.ensures in
    rw (w.start, w.end) (register_asks c.args.s c.args.r c.requires.1 _ c.register_extent.ensures c.args.run.now c.requires.0).least

pub returns : goal.returns
returns c =
    let w = c.words.ensures in
    published_reads c.args.s c.args.r c.requires.1 _ c.register_extent.ensures c.args.run.now _
    (λ u. rw (w.start, w.end) at c.published_sweep.ensures.register_reads u)
