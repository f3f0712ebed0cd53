-- The positions before i were tested, and `all` is the answer for them.
use Prim.Native.Nat.{◌*◌}
use Rattle.runs.proofs.Walk.{Passed}
use Rattle.runs.specs.Combine.{form_at}
use Rattle.model.specs.Widths.{generation_width}
use Rattle.model.specs.GenerationWords.{generation_place}
use Rattle.ring.proofs.Chunks.{From}
use Rattle.ring.proofs.is_sound.Given as goal

abbrev pub invariant-loop-i : goal.invariant-loop-i
invariant-loop-i l =
    let S = l.shape.slots in
    let n = l.shape.ring in
    let i = l.i-iterator.count in
    let left = l.i-iterator.iter in
    From S n l.words i left.size left.rest.now × Passed (form_at (generation_place S n)) n l.words i (i * generation_width S) l.all
