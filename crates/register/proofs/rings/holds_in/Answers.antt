use Rattle.register.proofs.InRings.{ring_asks, ring_reads}
use Rattle.register.proofs.rings.holds_in.Goals as goal

pub contains_at-requires : goal.contains_at-requires
contains_at-requires c =
    let l = rw (← c.requires.1) at c.words.ensures in
    ring_asks _ _ _ _ _ _ l c.args.part.now c.requires.0

pub returns : goal.returns
returns c = let l = rw (← c.requires.1) at c.words.ensures in ring_reads _ _ _ _ _ _ l c.contains_at.ensures
