use Rattle.ring.proofs.Finding.{holds_reads}
use Rattle.ring.proofs.Positions.{place_bounded, bucket_reads}
use Rattle.ring.proofs.contains_at.Goals as goal

pub contains_in-requires : goal.contains_in-requires
contains_in-requires c =
    let at = c.place.ensures in
    place_bounded _ _ _ c.args.position.is.below _ _ at.start at.end c.args.position.shape.small c.args.words.now c.requires

pub returns : goal.returns
returns c =
    let p = c.args.position in
    let at = c.place.ensures in
    let t = c.contains_in.ensures p.shape.slots p.shape.ring _ in
    holds_reads _ _ _ _ (bucket_reads _ _ _ p.is.below _ _ at.start at.end _ p.is.is t)
