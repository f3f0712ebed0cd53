use native.Mathlib.Omega.{arith}
use mathlib.Core.Path.{◌≡◌}
use borrow.Author.Rules.{rules}
use lib.ListN.{length}
use Rattle.runs.proofs.Walk.{pass_end}
use Rattle.model.specs.Words.{unused_width}
use Rattle.model.proofs.Bounds.{fit_usable}
use Rattle.numbers.proofs.Needed.{few_registers, listed, all_listed}
use Rattle.vet.proofs.Tests.{row_then}
use Rattle.vet.proofs.Turns.{form_at, turn_inside, turn_long, turn_on}
use Rattle.vet.proofs.sound.registers_sound.Goals as goal

pub register_width-requires : goal.register_width-requires
register_width-requires c =
    let s = c.args.s in
    let i = c.loop-u.u-index in
    let k = listed s _ i c.loop-u-test.true in
    rw k.1 (fit_usable s i c.requires.0 (omega (arith, k.0)))

pub slice_bounds-register_sound-end : goal.slice_bounds-register_sound-end
slice_bounds-register_sound-end c =
    let s = c.args.s in
    let i = c.loop-u.u-index in
    let k = listed s _ i c.loop-u-test.true in
    turn_inside s c.args.words.now c.requires.1 i _ _ c.loop-u.invariant (omega (arith, k.0)) _ (rw k.1 at c.register_width.ensures.0)

pub register_sound-all-requires : goal.register_sound-all-requires
register_sound-all-requires c =
    let s = c.args.s in
    let i = c.loop-u.u-index in
    let k = listed s _ i c.loop-u-test.true in
    rw k.1 (fit_usable s i c.requires.0 (omega (arith, k.0)), turn_long s c.args.words.now c.requires.1 i _ _ c.loop-u.invariant (omega (arith, k.0)) _ (rw k.1 at c.register_width.ensures.0))

pub loop-u-preserved : goal.loop-u-preserved
loop-u-preserved c =
    let s = c.args.s in
    let i = c.loop-u.u-index in
    let k = listed s _ i c.loop-u-test.true in
    turn_on s c.args.words.now c.requires.1 i _ _ c.loop-u.invariant (omega (arith, k.0)) _ (rw k.1 at c.register_width.ensures.0) _ (rw k.1 at c.register_sound-all.ensures)

pub returns : goal.returns
returns c =
    let s = c.args.s in
    let l = c.loop-u in
    let four : length s.usable ≡ 4 = search rules in
    let e = all_listed s s.registers l.u-index four (few_registers s c.requires.0) l.auto.u-index-end (search rules) in
    row_then (form_at s) s.registers (unused_width s) _ _ (pass_end _ _ _ _ _ _ l.invariant (omega arith))
