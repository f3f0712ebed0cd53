use Rattle.dump.proofs.Passing.{pass_far, pass_on, pass_end}
use Rattle.model.specs.Dump.{words_of}
use lib.ListN.{length}
use native.Mathlib.Omega.{arith}
use mathlib.Core.Path.{◌≡◌, ◌∙◌}
use Prim.Native.Nat.{◌-◌, ◌+◌, ◌/◌}
use Rattle.dump.proofs.reader.Reader.pass_generations.Goals as goal

pub returns-in_err-pass_generation-clause-passes : goal.returns-in_err-pass_generation-clause-passes
returns-in_err-pass_generation-clause-passes c =
    let s = c.args.self.now in
    let before = c.loop.invariant in
    let p = rw before.bytes at c.in_err-pass_generation.ensures.passes in
    rw c.from_residual.ensures (record {
      is = pass_far (words_of s.bytes.now) (length s.bytes.now / 8) s.at c.args.n c.loop.self.at (c.args.n - c.loop.counter) before.same (omega arith) p.is;
    })

pub loop-preserved : goal.loop-preserved
loop-preserved c =
    let s = c.args.self.now in
    let before = c.loop.invariant in
    let one = c.in_ok-pass_generation.ensures in
    let p = rw before.bytes at one.passes in
    let at = p.is.0 in
    let inside = p.is.1 in
    let e : c.args.n - c.loop.counter - 1 ≡ c.args.n - (c.loop.counter + 1) = omega arith in
    record {
      bytes = one.same_bytes ∙ before.bytes;
      inside = omega arith;
      same =
          rw (← e)
          (pass_on (words_of s.bytes.now) (length s.bytes.now / 8) s.at c.args.n c.loop.self.at (c.args.n - c.loop.counter) before.same (omega arith) _ p.is.0);
    }

pub returns-clause-passes : goal.returns-clause-passes
returns-clause-passes c =
    let s = c.args.self.now in
    let before = c.loop.invariant in
    let inside = before.inside in
    let q = pass_end (words_of s.bytes.now) s.at c.args.n c.loop.self.at (c.args.n - c.loop.counter) before.same (omega arith) in
    record { is = (q, omega (arith, q, inside)) }
