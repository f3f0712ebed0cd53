use mathlib.Core.Path.{refl}
use Rattle.model.specs.Calls.{codes_fit, limits_words_fit}
use Rattle.model.proofs.Refused.{listed_ok}
use Rattle.strikes.specs.Calls.{done}
use Rattle.strikes.proofs.OnWhole.{book_refused, book_unlisted, front_there}
use Rattle.strikes.proofs.Runs.{limits, was_limited}
use Rattle.strikes.proofs.set_limits.Goals as goal

pub returns-in_err-wanted : goal.returns-in_err-wanted
unfolding codes_fit
returns-in_err-wanted c = book_unlisted done _ _ _ _ _ c.from_residual.ensures.1 (limits_words_fit c.args.limits.now) _ refl c.in_err-wanted.ensures

pub returns-in_err-vet : goal.returns-in_err-vet
unfolding codes_fit
returns-in_err-vet c = book_refused done _ _ _ _ _ c.from_residual-in_err-vet.ensures.1 (limits _) (listed_ok _ c.in_ok-wanted.ensures).0 c.in_err-vet.ensures

pub slice_bounds-set_limits-end : goal.slice_bounds-set_limits-end
slice_bounds-set_limits-end c = front_there c.in_ok-vet.ensures

pub returns : goal.returns
returns c = was_limited c.in_ok-vet.ensures _ c.in_ok-wanted.ensures search
