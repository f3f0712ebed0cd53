use mathlib.Core.Path.{◌≡◌}
use borrow.Author.Rules.{rules}
use lib.ListN.{length}
use Rattle.model.proofs.Bounds.{fit_usable}
use Rattle.numbers.proofs.Needed.{few_registers, listed, all_listed, rings_more, needed_is}
use Rattle.numbers.proofs.bounds.words_in_bounds.Goals as goal

pub register_words-rings-requires : goal.register_words-rings-requires
register_words-rings-requires c =
    let s = c.args.s in
    let i = c.loop-u.u-index in
    let k = listed s s.registers i c.loop-u-test.true in
    rw k.1 (fit_usable s i c.requires k.0)

pub loop-u-preserved : goal.loop-u-preserved
loop-u-preserved c =
    let s = c.args.s in
    let i = c.loop-u.u-index in
    let k = listed s s.registers i c.loop-u-test.true in
    let e = c.register_words-rings.ensures in
    rings_more s c.loop-u.rings i _ c.loop-u.invariant (rw k.1 at e.0) e.1

pub returns : goal.returns
returns c =
    let s = c.args.s in
    let l = c.loop-u in
    let four : length s.usable ≡ 4 = search rules in
    let e = all_listed s s.registers l.u-index four (few_registers s c.requires) l.auto.u-index-end (search rules) in
    needed_is s _ _ (rw e at l.invariant.sum) c.book_words.ensures.0
