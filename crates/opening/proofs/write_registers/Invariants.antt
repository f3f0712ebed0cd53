-- The registers from r on are still to be written (proofs/Steps, `Headed`).
use Rattle.opening.proofs.Steps.{Headed}
use Rattle.opening.proofs.write_registers.Given as goal

abbrev pub invariant-loop-r : goal.invariant-loop-r
invariant-loop-r l = Headed l.s l.starts l.initial.run l.run l.r
