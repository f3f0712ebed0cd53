use Prim.Native.Nat.{◌+◌, ◌≤◌}
use mathlib.Core.Path.{◌≡◌, ◌∙◌}
use lib.ListN.{get_or}
use native.Mathlib.Omega.{arith}
use Rattle.std.specs.Prelude.{Ok, Err}
use Rattle.std.proofs.Common.{rules}
use Rattle.model.specs.Dump.{words_of}
use Rattle.restoring.specs.Rules.{draws_in}
use Rattle.restoring.proofs.Generations.{holds_next, holds_stop, holds_end}
use Rattle.restoring.proofs.holding.hold_all.Goals as goal

pub loop-print-preserved : goal.loop-print-preserved
loop-print-preserved c =
    let i = c.loop-print in
    let from = c.args.prints in
    let one = c.hold_one in
    let k = c.loop-print-test.true in
    let held : one.result ≡ Ok c.in_ok-draws.draws = c.in_ok-draws.was in
    let few : draws_in one.result ≤ i.draws + 1 = one.ensures.1.1 in
    let fp : c.word.result ≡ get_or (words_of from.bytes.now) (from.at + i._print) 0 = rw (i.invariant.bytes, i.invariant.at) at c.word.ensures.value in
    let at = i.invariant.at in
    let next = c.word.ensures.next in
    record {
      holds =
          holds_next c.args.on.now.s c.args.on.now.r c.args.h from.bytes.now from.at c.args.long c.args.run.now c.requires.1 _ _ i.draws i._print _ c.in_ok-draws.draws _
          i.invariant.holds k fp one.ensures.0 one.ensures.1.0 (rw held at few) held;
      bytes = c.word.ensures.same_bytes ∙ i.invariant.bytes;
      at = omega arith;
    }

pub returns-in_err-draws : goal.returns-in_err-draws
returns-in_err-draws c =
    let i = c.loop-print in
    let from = c.args.prints in
    let one = c.hold_one in
    let told : c.from_residual.result ≡ Err c.in_err-draws.field-0.0 = search rules in
    let fp : c.word.result ≡ get_or (words_of from.bytes.now) (from.at + i._print) 0 = rw (i.invariant.bytes, i.invariant.at) at c.word.ensures.value in (
      one.ensures.0,
      rw told (holds_stop c.args.on.now.s c.args.on.now.r c.args.h from.bytes.now from.at c.args.long c.args.run.now c.requires.1 _ _ i.draws i._print _ c.in_err-draws.field-0.0 _
          i.invariant.holds c.loop-print-test.true fp one.ensures.1.0 c.in_err-draws.was),
    )

pub returns : goal.returns
returns c =
    let i = c.loop-print in
    let from = c.args.prints in (
      i.invariant.holds.words,
      holds_end c.args.on.now.s c.args.on.now.r c.args.h from.bytes.now from.at c.args.long c.args.run.now c.requires.1 _ i.draws i._print i.invariant.holds
          c.loop-print-test.false,
    )
