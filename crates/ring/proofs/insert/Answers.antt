use Rattle.ring.proofs.Striking.{found_within, found_position, found_room, inserted_words}
use Rattle.ring.proofs.Positions.{place_bounded, bucket_turns}
use Rattle.ring.proofs.insert.Goals as goal

pub place-requires : goal.place-requires
place-requires c = let p = c.requires in found_within _ _ _ _ _ _ p.0 p.1 c.args.shape.some

pub insert-requires : goal.insert-requires
insert-requires c =
    let p = c.requires in
    let at = c.place.ensures in
    let h = found_within _ _ _ _ _ _ p.0 p.1 c.args.shape.some in (
      place_bounded _ _ _ h _ _ at.start at.end c.args.shape.small c.args.words.now p.0,
      found_room _ _ _ _ _ _ p.0 p.1 c.args.shape.some _ _ at.start at.end,
    )

pub returns : goal.returns
returns c =
    let p = c.requires in
    let h = found_within _ _ _ _ _ _ p.0 p.1 c.args.shape.some in
    let i = found_position _ _ _ _ _ _ p.0 p.1 in
    let one = c.insert.ensures c.args.shape.slots c.args.shape.ring _ in
    let t = bucket_turns _ _ _ h _ _ c.place.ensures.start c.place.ensures.end _ i one in
    record { ring_words = inserted_words _ _ _ _ _ _ p.0 p.1 c.args.shape.some c.args.shape.small _ t c.args.entry.fp.some; ring_turns = t }
