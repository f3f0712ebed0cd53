use mathlib.Core.Path.{refl}
use Rattle.register.proofs.HeadWords.{pending_reads}
use Rattle.register.proofs.heading.is_pending.Goals as goal

pub returns : goal.returns
returns c = record { value = refl; register_reads = λ u. pending_reads u _ }
