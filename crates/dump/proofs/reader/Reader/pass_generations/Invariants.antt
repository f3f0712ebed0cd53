-- The walk ends where it would have ended from its start.
use Rattle.dump.specs.Walk.{end_from}
use Rattle.model.specs.Dump.{words_of}
use lib.ListN.{length}
use mathlib.Core.Path.{◌≡◌}
use Prim.Native.Nat.{◌≤◌, ◌/◌, ◌-◌}
use Rattle.dump.proofs.reader.Reader.pass_generations.Given as goal

abbrev pub invariant-loop : goal.invariant-loop
invariant-loop l =
    let bs = l.fn.self.bytes.now in
    record {
      bytes : l.self.bytes ≡ l.fn.self.bytes;
      inside : l.self.at ≤ length bs / 8;
      same : end_from (words_of bs) l.self.at (l.n - l.counter) ≡ end_from (words_of bs) l.fn.self.at l.n;
    }
