use mathlib.Core.Path.{refl}
use Rattle.model.specs.Calls.{deed_fits}
use Rattle.strikes.specs.Calls.{begun_or_already}
use Rattle.strikes.proofs.OnRegister.{deed_refused, words_least}
use Rattle.strikes.proofs.Deeds.{begun}
use Rattle.strikes.proofs.begin.Goals as goal

pub returns-in_err-at : goal.returns-in_err-at
unfolding deed_fits
returns-in_err-at c = deed_refused begun_or_already _ _ _ _ _ _ c.from_residual.ensures.1 refl c.in_err-at.ensures

pub begin-requires : goal.begin-requires
begin-requires c = let w = c.words.ensures in rw (w.start, w.end) (words_least c.in_ok-at.ensures)

pub returns : goal.returns
returns c =
    let w = c.words.ensures in
    rw (w.start, w.end) (begun c.in_ok-at.ensures (λ u. rw (w.start, w.end) at c.begin.ensures.register_turns u))
