use Rattle.ring.proofs.Finding.{room_reads}
use Rattle.ring.proofs.Positions.{place_bounded, bucket_reads}
use Rattle.ring.proofs.room.Goals as goal

pub room-requires : goal.room-requires
room-requires c =
    let p = c.args.position in
    place_bounded _ _ _ p.is.below _ _ c.place.ensures.start c.place.ensures.end p.shape.small c.args.words.now c.requires

pub returns : goal.returns
returns c =
    let p = c.args.position in
    let at = c.place.ensures in
    room_reads _ _ _ _ _ p.is.is
    (bucket_reads _ _ _ p.is.below _ _ at.start at.end _ p.is.is (c.room.ensures p.shape.slots p.shape.ring _))
