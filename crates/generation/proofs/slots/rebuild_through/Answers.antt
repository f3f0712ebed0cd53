use native.Mathlib.Omega.{arith}
use Rattle.generation.proofs.Putting.{rebuilt}
use Rattle.generation.proofs.slots.rebuild_through.Goals as goal

pub returns-clause-slots_after : goal.returns-clause-slots_after
returns-clause-slots_after c =
    let a = c.args in
    rebuilt a.slots.now a.n a.wanted (omega arith) a.old.now _ c.copy_from_slice.ensures.after (omega arith) _ c.rebuild.ensures
