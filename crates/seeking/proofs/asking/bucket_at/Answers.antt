use Rattle.taking.proofs.InRun.{register_asks}
use Rattle.seeking.proofs.Trying.{here_below, bucket_told}
use Rattle.seeking.proofs.asking.bucket_at.Goals as goal

pub bucket_at-requires : goal.bucket_at-requires
bucket_at-requires c =
    let q = c.args.q.now in
    let w = c.words.ensures in (
      rw (w.start, w.end) (register_asks q.on.s q.on.r q.on.at.below _ q.on.at c.args.run.now c.requires.0),
      here_below q _ c.requires.1 q.on.at,
    )

pub returns : goal.returns
returns c =
    let q = c.args.q.now in
    let w = c.words.ensures in
    bucket_told q c.args.class c.args.position c.args.run.now _ q.on.at (rw (w.start, w.end) at c.bucket_at.ensures)
