use Rattle.std.proofs.Common.{refl, rules}
use Rattle.book_expiry.proofs.Ended.{starts, stands, on}
use Rattle.book_expiry.proofs.expire_places.Goals as goal

pub loop-i-init : goal.loop-i-init
loop-i-init c = let s = c.args in (refl, starts s.shares s.class s.t s.part.now)

pub expire_place-kept-requires : goal.expire_place-kept-requires
expire_place-kept-requires c =
    let s = c.args in
    let l = c.loop-i in
    stands s.shares s.class s.t s.part.now c.requires l.i l.kept l.part l.invariant.1 c.loop-i-test.true l.invariant.0

pub loop-i-preserved : goal.loop-i-preserved
loop-i-preserved c =
    let s = c.args in
    let l = c.loop-i in
    (search rules, on s.shares s.class s.t s.part.now c.requires l.i l.kept l.part l.invariant.1 c.loop-i-test.true _ _ c.expire_place-kept.ensures)
