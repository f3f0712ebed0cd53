use Rattle.std.proofs.Common.{◌≤◌, ◌<◌, ◌+◌, ap, arith, get_or}
use Rattle.model.specs.Numbers.{cap32}
use Rattle.book.specs.declared.totals.Totals.{Totals}
use Rattle.book_expiry.proofs.Ended.{noted, waits, moves_on}
use Rattle.book_expiry.proofs.expire.Goals as goal

pub returns-then-min-totals : goal.returns-then-min-totals
unfolding cap32
returns-then-min-totals c =
    let s = c.args in
    let x = ap (λ (z : Totals). z.expired) c.read-totals.ensures in
    let h : cap32 (s.t.0 + 2) < get_or s.part.now 3 0 = omega arith in
    rw c.write.ensures (noted s.shares s.class s.t.0 s.part.now c.requires.0 h _ _ c.read-totals.ensures c.expire.ensures)

pub returns-then-totals-through : goal.returns-then-totals-through
unfolding cap32
returns-then-totals-through c =
    let s = c.args in
    let x = ap (λ (z : Totals). z.expired) c.read-totals.ensures in
    let h : get_or s.part.now 3 0 ≤ cap32 (s.t.0 + 2) = omega arith in
    let l : get_or s.part.now 3 0 < s.t.0 = omega arith in
    moves_on s.shares s.class s.t.0 s.part.now c.requires.0 h l _ c.expire_pairs.ensures

pub returns-else-totals-through : goal.returns-else-totals-through
unfolding cap32
returns-else-totals-through c =
    let s = c.args in
    let x = ap (λ (z : Totals). z.expired) c.read-totals.ensures in
    let h : get_or s.part.now 3 0 ≤ cap32 (s.t.0 + 2) = omega arith in
    let l : s.t.0 ≤ get_or s.part.now 3 0 = omega arith in
    waits s.shares s.class s.t.0 s.part.now c.requires.0 h l
