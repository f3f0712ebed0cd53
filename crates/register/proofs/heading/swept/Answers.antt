use mathlib.Core.Path.{refl}
use Rattle.register.proofs.HeadWords.{swept_reads}
use Rattle.register.proofs.heading.swept.Goals as goal

pub returns : goal.returns
returns c = record { value = refl; register_reads = λ u. swept_reads u _ }
