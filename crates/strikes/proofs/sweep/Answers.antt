use mathlib.Core.Path.{refl}
use Rattle.model.specs.Calls.{deed_fits}
use Rattle.strikes.specs.Calls.{done}
use Rattle.strikes.proofs.OnRegister.{deed_refused, words_there}
use Rattle.strikes.proofs.Deeds.{swept_by}
use Rattle.strikes.proofs.sweep.Goals as goal

pub returns-in_err-at : goal.returns-in_err-at
unfolding deed_fits
returns-in_err-at c = deed_refused done _ _ _ _ _ _ c.from_residual.ensures.1 refl c.in_err-at.ensures

pub sweep-requires : goal.sweep-requires
sweep-requires c = let w = c.words.ensures in rw (w.start, w.end) (words_there c.in_ok-at.ensures)

pub returns : goal.returns
returns c = let w = c.words.ensures in rw (w.start, w.end) (swept_by c.in_ok-at.ensures (rw (w.start, w.end) at c.sweep.ensures.1))
