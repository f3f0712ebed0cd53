use mathlib.Core.Path.{◌≡◌}
use Prim.Native.Nat.{◌-◌}
use Rattle.restoring.proofs.Dumps.{Walking}
use Rattle.restoring.proofs.classes.restore_class.Given as goal

abbrev pub invariant-loop-generation : goal.invariant-loop-generation
invariant-loop-generation l =
    let from = l.fn.reader in
    record {
      bytes : l.here.bytes ≡ from.bytes;
      walking : Walking l.on.s l.on.r l.class from.bytes.now from.at l.before l.initial.run l.run l.here.at (l._generation-end - l._generation) l.whole;
    }
