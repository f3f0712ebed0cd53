use mathlib.Core.Path.{refl}
use Rattle.model.specs.Calls.{codes_fit}
use Rattle.strikes.specs.Calls.{done}
use Rattle.strikes.proofs.OnWhole.{book_refused, front_there}
use Rattle.strikes.proofs.Runs.{closes, was_closed}
use Rattle.strikes.proofs.close.Goals as goal

pub returns-in_err-vet : goal.returns-in_err-vet
unfolding codes_fit
returns-in_err-vet c = book_refused done _ _ _ _ _ c.from_residual.ensures.1 closes refl c.in_err-vet.ensures

pub slice_bounds-close-end : goal.slice_bounds-close-end
slice_bounds-close-end c = front_there c.in_ok-vet.ensures

pub returns : goal.returns
returns c = was_closed c.in_ok-vet.ensures search
