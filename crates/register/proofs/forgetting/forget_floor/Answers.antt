use Rattle.register.proofs.HeadWords.{forget_turns}
use mathlib.Core.Path.{refl}
use lib.ListN.{length-set}
use native.Mathlib.Omega.{arith}
use Rattle.register.proofs.forgetting.forget_floor.Goals as goal

pub bounds-part-9 : goal.bounds-part-9
bounds-part-9 c = let h = c.requires in let k = length-set c.args.part.now 8 0 in omega arith

pub returns : goal.returns
returns c = record { part_after = refl; register_turns = λ u. forget_turns _ u }
