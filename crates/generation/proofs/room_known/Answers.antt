use Rattle.generation.proofs.Looking.{room_collides, room_at, room_full}
use Rattle.generation.proofs.room_known.Goals as goal

pub returns-then-head-bucket : goal.returns-then-head-bucket
returns-then-head-bucket c =
    let h = c.of-head.ensures in
    room_collides c.args.part.now _ _ _ (rw (h.bucket, h.held) at c.if-head-bucket.true)

pub returns-then-wanted-most : goal.returns-then-wanted-most
returns-then-wanted-most c =
    let s = c.args.part.now in
    let h = c.of-head.ensures in
    let free = rw (h.bucket, h.held) at c.if-head-bucket.false in
    let w = rw (h.slots, h.held) at c.slots_for-wanted.ensures in
    room_at s _ _ _ free _ w c.if-wanted-most.true

pub returns-else-wanted-most : goal.returns-else-wanted-most
returns-else-wanted-most c =
    let s = c.args.part.now in
    let h = c.of-head.ensures in
    let free = rw (h.bucket, h.held) at c.if-head-bucket.false in
    let w = rw (h.slots, h.held) at c.slots_for-wanted.ensures in
    room_full s _ _ _ free _ w c.if-wanted-most.false
