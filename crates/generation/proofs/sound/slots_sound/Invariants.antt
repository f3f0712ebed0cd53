-- The slots before i are reached, and n of them are held.
use Rattle.generation.proofs.Reaching.{Walked}
use Rattle.generation.proofs.sound.slots_sound.Given as goal

abbrev pub invariant-loop-i : goal.invariant-loop-i
invariant-loop-i l = Walked l.slots l.n l.i
