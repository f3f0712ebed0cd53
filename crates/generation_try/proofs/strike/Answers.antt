use native.Mathlib.Omega.{arith}
use Rattle.generation.proofs.Looking.{sound_bounded, found_roomy}
use Rattle.generation_try.proofs.strike.Goals as goal

pub room-room-requires : goal.room-room-requires
room-room-requires c =
    let is = c.is_generation.ensures c.if-not-is_generation.false in
    sound_bounded 8 24 0 (omega arith) c.args.part.now is.0 is.1

pub insert-requires : goal.insert-requires
insert-requires c =
    let is = c.is_generation.ensures c.if-not-is_generation.false in
    let part = c.args.part.now in
    let r = c.room-room in
    let roomy = found_roomy 8 24 0 (omega arith) part is.0 is.1 _ _ _ r.result c.in-At.is r.ensures in
    (sound_bounded 8 24 0 (omega arith) part is.0 is.1, roomy)
