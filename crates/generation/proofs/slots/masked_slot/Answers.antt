use native.Mathlib.Omega.{arith}
use Rattle.generation.proofs.Masking.{mask_is}
use Rattle.generation.proofs.slots.masked_slot.Goals as goal

pub returns : goal.returns
returns c = let a = c.args in mask_is a.n (omega arith) c.requires.1 a.fp
