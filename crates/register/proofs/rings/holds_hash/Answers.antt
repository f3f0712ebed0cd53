use Rattle.register.proofs.InRings.{ring_asks, ring_reads}
use Rattle.register.proofs.rings.holds_hash.Goals as goal

pub contains_any-requires : goal.contains_any-requires
contains_any-requires c = search ring_asks

pub returns : goal.returns
returns c = ring_reads _ _ _ _ _ _ c.words.ensures c.contains_any.ensures
