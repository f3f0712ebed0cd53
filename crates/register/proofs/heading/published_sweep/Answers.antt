use mathlib.Core.Path.{refl}
use Rattle.register.proofs.HeadWords.{published_reads}
use Rattle.register.proofs.heading.published_sweep.Goals as goal

pub returns : goal.returns
returns c = record { result_value = refl; register_reads = λ u. published_reads u _ }
