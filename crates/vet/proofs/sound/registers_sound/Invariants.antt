-- The registers before were tested, the next starts at word a, and `all` is the answer for those before.
use Rattle.runs.proofs.Walk.{Passed}
use Rattle.vet.proofs.Turns.{form_at}
use Rattle.vet.proofs.sound.registers_sound.Given as goal

abbrev pub invariant-loop-u : goal.invariant-loop-u
invariant-loop-u l = Passed (form_at l.fn.s) l.fn.s.registers l.fn.words l.u-index l.a l.all
