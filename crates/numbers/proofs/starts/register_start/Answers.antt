use mathlib.Core.Path.{◌≡◌}
use native.Mathlib.Omega.{arith}
use borrow.Author.Rules.{rules}
use lib.ListN.{length}
use Rattle.model.proofs.Bounds.{fit_usable}
use Rattle.numbers.proofs.Needed.{few_registers, listed, all_listed}
use Rattle.numbers.proofs.Placing.{added_none, added_more, register_within}
use Rattle.numbers.proofs.starts.register_start.Goals as goal

pub loop-u-init : goal.loop-u-init
loop-u-init c = added_none c.args.s c.args.register _ c.class_width.ensures.0 c.class_width.ensures.1

pub register_width-start-requires : goal.register_width-start-requires
register_width-start-requires c =
    let s = c.args.s in
    let i = c.loop-u.u-index in
    let k = listed s c.args.register i c.loop-u-test.true in
    let b = c.requires.1 in
    let h = k.0 in
    rw k.1 (fit_usable s i c.requires.0 (omega arith))

pub loop-u-preserved : goal.loop-u-preserved
loop-u-preserved c =
    let s = c.args.s in
    let i = c.loop-u.u-index in
    let k = listed s c.args.register i c.loop-u-test.true in
    let e = c.register_width-start.ensures in
    added_more s c.args.register c.loop-u.start i _ c.loop-u.invariant k.0 (rw k.1 at e.0) e.1

pub returns : goal.returns
returns c =
    let s = c.args.s in
    let r = c.args.register in
    let l = c.loop-u in
    let four : length s.usable ≡ 4 = search rules in
    let m = few_registers s c.requires.0 in
    let b = c.requires.1 in
    let e = all_listed s r l.u-index four (omega arith) l.auto.u-index-end (search rules) in
    let k = rw e at l.invariant.sum in
    (k, rw k (register_within s r m b))
