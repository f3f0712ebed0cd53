use mathlib.Core.Path.{sym, ap}
use Rattle.model.proofs.Probing.{found}
use Rattle.generation.proofs.Looking.{found_other, contains_reads}
use Rattle.generation.proofs.contains.Goals as goal

pub returns-in-Held : goal.returns-in-Held
returns-in-Held c = contains_reads c.args.part.now _ _ (rw (c.live.ensures.start, c.live.ensures.end) at c.find.ensures) c.args.fp.some _ (ap found (sym c.in-Held.is))

pub returns-in_default : goal.returns-in_default
returns-in_default c = contains_reads c.args.part.now _ _ (rw (c.live.ensures.start, c.live.ensures.end) at c.find.ensures) c.args.fp.some _ (found_other _ c.in_default.not-Held)
