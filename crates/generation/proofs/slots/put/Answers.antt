use native.Mathlib.Omega.{arith}
use Rattle.generation.proofs.Putting.{puts_other, puts_within, puts_free}
use Rattle.generation.proofs.slots.put.Goals as goal

pub offset_bounds-slots-i : goal.offset_bounds-slots-i
offset_bounds-slots-i c = let h = puts_within c.args.slots.now _ c.find.ensures c.in-Free.is in omega arith

pub bounds-slots-i : goal.bounds-slots-i
bounds-slots-i c = puts_within c.args.slots.now _ c.find.ensures c.in-Free.is

pub returns-in_default : goal.returns-in_default
returns-in_default c = puts_other c.args.slots.now _ c.find.ensures c.in_default.not-Free

pub returns-in-Free : goal.returns-in-Free
returns-in-Free c = puts_free c.args.slots.now _ c.find.ensures c.in-Free.is c.args.fp.some
