-- A class ends where its generations do; where its count is not there, it ends past the words.
use lib.ListN.{length}
use native.Mathlib.Omega.{arith}
use Prim.Native.Nat.{◌/◌}
use Rattle.model.specs.Dump.{words_of}
use Rattle.dump.proofs.Passing.{class_far, class_passed}
use Rattle.dump.proofs.reader.Reader.pass_class.Goals as goal

pub returns-then-left-eq0-clause-passes : goal.returns-then-left-eq0-clause-passes
returns-then-left-eq0-clause-passes c =
    let s = c.args.self.now in
    let left = c.left.ensures in
    let none = c.if-left-eq0.true in
    record { is = class_far (words_of s.bytes.now) (length s.bytes.now / 8) s.at (omega arith) }

pub returns-clause-passes : goal.returns-clause-passes
returns-clause-passes c =
    let s = c.args.self.now in
    class_passed (words_of s.bytes.now) (length s.bytes.now / 8) s.at _ _ _ _ c.word-n.ensures.value c.word-n.ensures.next
    (rw c.word-n.ensures.same_bytes at c.pass_generations.ensures.passes)
