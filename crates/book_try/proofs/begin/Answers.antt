use Rattle.std.proofs.Common.{rules}
use Rattle.book_try.proofs.Kept.{starts}
use Rattle.book_try.proofs.begin.Goals as goal

pub returns : goal.returns
returns c =
    let e = c.requires in
    starts _ (rw e at (c.fill.ensures.after (search rules)))
