use native.Mathlib.Omega.{arith}
use mathlib.Core.Path.{◌∙◌}
use Rattle.ring.proofs.Sweeping.{newest_is, sweep_start, sweep_on, sweep_end}
use Rattle.ring.proofs.Positions.{place_bounded, bucket_turns}
use Rattle.ring.proofs.sweep.Goals as goal

pub loop-b-init : goal.loop-b-init
loop-b-init c = sweep_start _ _ _ _ _ c.requires

pub sweep_one-more-requires : goal.sweep_one-more-requires
sweep_one-more-requires c =
    let l = c.loop-b in
    place_bounded _ _ _ c.position_of-at.ensures.is.below _ _ c.place.ensures.start c.place.ensures.end c.args.shape.small l.words l.invariant.good

pub loop-b-preserved : goal.loop-b-preserved
loop-b-preserved c =
    let l = c.loop-b in
    let p = c.position_of-at.ensures.is in
    let a = c.args in
    let one = c.sweep_one-more.ensures a.shape.slots a.shape.ring _ in
    let t = bucket_turns _ _ _ p.below _ _ c.place.ensures.start c.place.ensures.end _ p.is one in
    sweep_on _ _ _ _ _ _ _ _ l.invariant (omega arith) _ _ t _ (c.max-went.ensures ∙ newest_is l.went c.sweep_one-more.result)

pub returns : goal.returns
returns c =
    let l = c.loop-b in
    let end = sweep_end _ _ _ _ _ _ _ _ l.invariant (omega arith) in
    record { ring_words = end.0; ring_turns = end.1 }
