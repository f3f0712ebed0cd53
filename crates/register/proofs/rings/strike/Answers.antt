use Rattle.model.specs.Register.{strike}
use Rattle.register.proofs.InRings.{ring_asks, ring_turns, room_in_ring}
use Rattle.register.proofs.rings.strike.Goals as goal

pub insert-requires : goal.insert-requires
insert-requires c =
    let l = rw c.of-rings.ensures at c.words.ensures in
    let p = c.requires in
    (ring_asks _ _ _ _ _ _ l c.args.part.now p.0, room_in_ring _ _ _ _ _ _ l _ _ c.args.part.now _ p.0 p.1)

pub returns : goal.returns
unfolding strike
returns c = let l = rw c.of-rings.ensures at c.words.ensures in ring_turns _ _ _ _ _ _ l c.insert.ensures.ring_turns
