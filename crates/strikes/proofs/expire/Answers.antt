use mathlib.Core.Path.{refl}
use Rattle.model.specs.Calls.{codes_fit}
use Rattle.strikes.specs.Calls.{done}
use Rattle.strikes.proofs.OnWhole.{book_refused, book_there}
use Rattle.strikes.proofs.Runs.{expires, was_expired}
use Rattle.strikes.proofs.expire.Goals as goal

pub returns-in_err-s : goal.returns-in_err-s
unfolding codes_fit
returns-in_err-s c = book_refused done _ _ _ _ _ c.from_residual.ensures.1 (expires _) refl c.in_err-s.ensures

pub expire-requires : goal.expire-requires
expire-requires c = book_there c.in_ok-s.ensures

pub returns : goal.returns
returns c = was_expired c.in_ok-s.ensures search
