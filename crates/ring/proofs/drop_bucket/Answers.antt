use Rattle.ring.proofs.Striking.{drop_turns, dropped_words}
use Rattle.ring.proofs.Positions.{place_bounded, bucket_turns}
use Rattle.ring.proofs.drop_bucket.Goals as goal

pub drop_in-requires : goal.drop_in-requires
drop_in-requires c =
    let h = c.position_of-at.ensures.is.below in
    place_bounded _ _ _ h _ _ c.place.ensures.start c.place.ensures.end c.args.shape.small c.args.words.now c.requires

pub returns : goal.returns
returns c =
    let p = c.position_of-at.ensures.is in
    let one = c.drop_in.ensures c.args.shape.slots c.args.shape.ring _ in
    let t = drop_turns _ _ _ (bucket_turns _ _ _ p.below _ _ c.place.ensures.start c.place.ensures.end _ p.is one) in
    record { ring_words = dropped_words _ _ _ t c.requires; ring_turns = t }
