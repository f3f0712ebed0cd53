use native.Mathlib.Omega.{arith}
use lib.ListN.{length-take, length-drop}
use Rattle.generation.proofs.Inserting.{grows_asks, grows_bounded, grows}
use Rattle.generation.proofs.grow.Goals as goal

pub regrow-requires : goal.regrow-requires
regrow-requires c =
    let h = c.of-head.ensures in
    let w = rw (h.slots, h.held) at c.slots_for-wanted.ensures in
    let a = grows_asks c.args.part.now _ c.requires.0 c.requires.1 _ w in
    ((omega (arith, h.slots), simp (length-take, length-drop) (omega arith)), omega arith)

pub returns : goal.returns
returns c =
    let h = c.of-head.ensures in
    let w = rw (h.slots, h.held) at c.slots_for-wanted.ensures in
    let g = c.regrow in
    let y = rw h.slots at g.ensures in (
      grows_bounded c.args.part.now _ c.requires.0 c.requires.1 _ w _ y g.auto.slots,
      grows c.args.part.now _ c.requires.0 c.requires.1 _ w _ y,
    )
