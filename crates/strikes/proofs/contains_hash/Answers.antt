use Prim.Native.Nat.{ℕ}
use mathlib.Core.Path.{refl}
use Rattle.model.specs.Generation.{as_read}
use Rattle.model.specs.Register.{any_class, holds_any}
use Rattle.model.specs.Calls.{ContainsHash, yes_no, deed_fits, deed_refusals, done_on}
use Rattle.strikes.proofs.Deeds.{Tells, told_by, reader_refused}
use Rattle.strikes.proofs.OnRegister.{words_there}
use Rattle.strikes.proofs.contains_hash.Goals as goal

tells : (fp : ℕ) → Tells (ContainsHash fp) yes_no (λ u reg. any_class (holds_any (as_read fp)) reg.rings)
unfolding deed_fits deed_refusals done_on
tells fp = record { fits = refl; never = λ reg. refl; says = λ s r t. refl }

pub returns-in_err-at : goal.returns-in_err-at
returns-in_err-at c = reader_refused _ _ _ (tells _) _ _ c.from_residual.ensures.1 c.in_err-at.ensures

pub contains_hash-requires : goal.contains_hash-requires
contains_hash-requires c = let w = c.words.ensures in rw (w.start, w.end) (words_there c.in_ok-at.ensures)

pub returns : goal.returns
returns c = let w = c.words.ensures in told_by c.in_ok-at.ensures (tells _) (rw (w.start, w.end) at c.contains_hash.ensures)
