use native.Mathlib.Omega.{arith}
use mathlib.Core.Path.{sym}
use Rattle.model.specs.Generation.{probe}
use Rattle.model.proofs.Probing.{probe_out}
use Rattle.generation.proofs.Rounds.{ends_before, ends_after}
use Rattle.generation.proofs.slots.find.Goals as goal

pub returns-then-n-eq0 : goal.returns-then-n-eq0
unfolding probe
returns-then-n-eq0 c = sym (probe_out c.args.slots.now _ _ _ (omega arith))

pub returns-in-Nowhere : goal.returns-in-Nowhere
returns-in-Nowhere c = search ends_after

pub returns-in_default : goal.returns-in_default
returns-in_default c = search ends_before
