use Prim.Native.Nat.{◌<◌, ◌≤◌}
use native.Mathlib.Omega.{arith}
use lib.ListN.{get_or}
use Rattle.generation.proofs.Testing.{sound_long, sound_rest, sound_aged, sound_empty, sound_not, sound_filled}
use Rattle.generation.proofs.sound.is_sound.Goals as goal

pub returns-then-most-n : goal.returns-then-most-n
returns-then-most-n c = let long = c.if-most-n.true in search sound_long

pub returns-then-not-zeros_only : goal.returns-then-not-zeros_only
returns-then-not-zeros_only c =
    let fits = c.if-most-n.false in
    let tail = rw c.live-live.ensures.end at c.zeros_only.ensures in
    search sound_rest

pub returns-then-head : goal.returns-then-head
returns-then-head c =
    let h = c.of-head.ensures in
    let fits = c.if-most-n.false in
    let tail = rw c.live-live.ensures.end at c.zeros_only.ensures in
    let s = c.args.part.now in
    let t = c.if-head.true in
    let aged : get_or s 2 0 < get_or s 4 0 = omega (arith, h.newest, h.oldest) in
    search sound_aged

pub returns-then-head-eq0 : goal.returns-then-head-eq0
returns-then-head-eq0 c =
    let h = c.of-head.ensures in
    let fits = c.if-most-n.false in
    let tail = rw c.live-live.ensures.end at c.zeros_only.ensures in
    let s = c.args.part.now in
    let t = c.if-head.false in
    let aged : get_or s 4 0 ≤ get_or s 2 0 = omega (arith, h.newest, h.oldest) in
    let none = rw h.slots at c.if-head-eq0.true in
    rw (h.held, h.newest) (search sound_empty)

pub returns-then-not-filled_sound : goal.returns-then-not-filled_sound
returns-then-not-filled_sound c =
    let h = c.of-head.ensures in
    let fits = c.if-most-n.false in
    let tail = rw c.live-live.ensures.end at c.zeros_only.ensures in
    let s = c.args.part.now in
    let t = c.if-head.false in
    let aged : get_or s 4 0 ≤ get_or s 2 0 = omega (arith, h.newest, h.oldest) in
    let some = rw h.slots at c.if-head-eq0.false in
    let filled = rw (h.slots, h.held, h.bucket) at c.filled_sound.ensures in
    search sound_not

pub returns : goal.returns
returns c =
    let h = c.of-head.ensures in
    let at = c.live-live.ensures in
    let fits = c.if-most-n.false in
    let tail = rw at.end at c.zeros_only.ensures in
    let s = c.args.part.now in
    let t = c.if-head.false in
    let aged : get_or s 4 0 ≤ get_or s 2 0 = omega (arith, h.newest, h.oldest) in
    let some = rw h.slots at c.if-head-eq0.false in
    let filled = rw (h.slots, h.held, h.bucket) at c.filled_sound.ensures in
    let slots = rw (at.start, at.end, h.held) at c.slots_sound.ensures in
    search sound_filled
