use Rattle.strikes.proofs.OnRegister.{words_least}
use Rattle.strikes.proofs.Deeds.{told_by, reader_refused, tells_swept}
use Rattle.strikes.proofs.swept.Goals as goal

pub returns-in_err-at : goal.returns-in_err-at
returns-in_err-at c = reader_refused _ _ _ tells_swept _ _ c.from_residual.ensures.1 c.in_err-at.ensures

pub swept-requires : goal.swept-requires
swept-requires c = let w = c.words.ensures in rw (w.start, w.end) (words_least c.in_ok-at.ensures)

pub returns : goal.returns
returns c = let w = c.words.ensures in told_by c.in_ok-at.ensures tells_swept (rw (w.start, w.end) at c.swept.ensures.register_reads _)
