use native.Mathlib.Omega.{arith}
use mathlib.Core.Path.{sym, ◌∙◌}
use lib.ListN.{get_or}
use Rattle.generation.proofs.Reaching.{walk_start, walk_on, walk_end, one≤1}
use Rattle.generation.proofs.sound.slots_sound.Goals as goal

pub returns-then-size-last-ne0 : goal.returns-then-size-last-ne0
returns-then-size-last-ne0 c = c.slots_sound.ensures

pub loop-i-init : goal.loop-i-init
loop-i-init c = walk_start _

pub returns-then-not-is_near : goal.returns-then-not-is_near
returns-then-not-is_near c = c.slots_sound-then-not-is_near.ensures

pub overflow_add-n : goal.overflow_add-n
overflow_add-n c =
    let l = c.loop-i in
    let s = c.args.slots.now in
    omega (arith, one≤1 (get_or s l.i 0), c.one_if_held-n.ensures)

pub loop-i-preserved : goal.loop-i-preserved
loop-i-preserved c =
    let l = c.loop-i in
    let steps = c.min-steps in
    let is-near = sym c.if-not-is_near.false ∙ c.is_near.ensures in
    walk_on _ l.n l.i l.invariant (omega arith) steps.result (omega (arith, steps.ensures)) is-near _ c.one_if_held-n.ensures

pub returns : goal.returns
returns c = walk_end _ c.loop-i.n c.loop-i.i c.loop-i.invariant (omega arith) _
