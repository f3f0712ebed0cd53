use Rattle.restoring.proofs.Generations.{Returns}
use Rattle.restoring.proofs.holding.give_back_all.Given as goal

abbrev pub invariant-loop-draw : goal.invariant-loop-draw
invariant-loop-draw l = Returns l.on.s l.on.r l.h l.initial.run l.draws l.run l._draw
