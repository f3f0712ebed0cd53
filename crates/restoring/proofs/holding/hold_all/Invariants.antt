use mathlib.Core.Path.{◌≡◌}
use Prim.Native.Nat.{◌+◌}
use Rattle.restoring.proofs.Generations.{Holds}
use Rattle.restoring.proofs.holding.hold_all.Given as goal

abbrev pub invariant-loop-print : goal.invariant-loop-print
invariant-loop-print l =
    let from = l.fn.prints in
    record {
      holds : Holds l.on.s l.on.r l.h from.bytes.now from.at l.long l.initial.run l.run l.draws l._print;
      bytes : l.prints.bytes ≡ from.bytes;
      at : l.prints.at ≡ from.at + l._print;
    }
