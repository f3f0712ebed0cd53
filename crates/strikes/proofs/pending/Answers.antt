use mathlib.Core.Path.{refl}
use Rattle.model.specs.Calls.{Pending, yes_no, deed_fits, deed_refusals, done_on}
use Rattle.strikes.proofs.Deeds.{Tells, told_by, reader_refused}
use Rattle.strikes.proofs.OnRegister.{words_least}
use Rattle.strikes.proofs.pending.Goals as goal

tells : Tells Pending yes_no (λ u reg. reg.pending)
unfolding deed_fits deed_refusals done_on
tells = record { fits = refl; never = λ reg. refl; says = λ s r t. refl }

pub returns-in_err-at : goal.returns-in_err-at
returns-in_err-at c = reader_refused _ _ _ tells _ _ c.from_residual.ensures.1 c.in_err-at.ensures

pub is_pending-requires : goal.is_pending-requires
is_pending-requires c = let w = c.words.ensures in rw (w.start, w.end) (words_least c.in_ok-at.ensures)

pub returns : goal.returns
returns c = let w = c.words.ensures in told_by c.in_ok-at.ensures tells (rw (w.start, w.end) at c.is_pending.ensures.register_reads _)
