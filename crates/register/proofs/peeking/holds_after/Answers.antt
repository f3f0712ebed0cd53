use Rattle.register.proofs.InRings.{ring_asks}
use Rattle.register.proofs.Foreseen.{ring_visits, class_after}
use Rattle.register.proofs.peeking.holds_after.Goals as goal

pub contains_after-requires : goal.contains_after-requires
contains_after-requires c = let l = rw (← c.requires.1.0) at c.words.ensures in search (ring_asks, ring_visits)

pub returns : goal.returns
returns c = let l = rw (← c.requires.1.0) at c.words.ensures in search class_after
