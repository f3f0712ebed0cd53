use Rattle.pairs.proofs.PairWords.{walked_none, walked_all, sum_fits, walked_on}
use Rattle.model.specs.BookWords.{most_entries}
use native.Mathlib.Omega.{arith}
use Rattle.pairs.proofs.earlier.Goals as goal

pub loop-i-init : goal.loop-i-init
loop-i-init c = let a = c.args in walked_none _ a.n a.second a.cells.now c.requires.1 c.as_chunks.ensures.front

pub overflow_add-entries : goal.overflow_add-entries
overflow_add-entries c =
    let l = c.loop-i in
    let k = sum_fits _ _ _ _ l.i l.entries l.invariant c.loop-i-test.true most_entries c.requires.2 in
    record { fits = omega arith }

pub loop-i-preserved : goal.loop-i-preserved
loop-i-preserved c =
    let l = c.loop-i in
    walked_on _ _ _ _ l.i l.entries l.invariant c.loop-i-test.true c.if-second-at.false

pub returns : goal.returns
returns c =
    let l = c.loop-i in
    walked_all _ _ _ _ l.i l.entries l.invariant l.auto.i-end c.loop-i-test.false
