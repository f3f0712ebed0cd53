use native.Mathlib.Omega.{arith}
use mathlib.Core.Path.{◌∙◌}
use Rattle.ring.proofs.Sweeping.{newest_is}
use Rattle.ring.proofs.Foreseen.{peek_start, peek_on, peek_end}
use Rattle.ring.proofs.Positions.{bucket_reads}
use Rattle.ring.proofs.peeking.newest_passed.Goals as goal

pub loop-b-init : goal.loop-b-init
loop-b-init c = peek_start _ _ _ _ _

pub loop-b-preserved : goal.loop-b-preserved
loop-b-preserved c =
    let a = c.args in
    let p = c.position_of-at.ensures.is in
    let one = c.newest_passed-more.ensures a.shape.slots a.shape.ring _ in
    let t = bucket_reads _ _ _ p.below _ _ c.place.ensures.start c.place.ensures.end _ p.is one in
    peek_on _ _ _ _ _ _ _ c.loop-b.invariant (omega arith) _ t _ (c.max-went.ensures ∙ newest_is c.loop-b.went c.newest_passed-more.result)

pub returns : goal.returns
returns c = search peek_end
