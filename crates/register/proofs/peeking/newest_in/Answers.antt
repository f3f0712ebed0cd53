use Rattle.register.proofs.InRings.{ring_asks}
use Rattle.register.proofs.Foreseen.{class_newest}
use Rattle.register.proofs.peeking.newest_in.Goals as goal

pub newest_passed-requires : goal.newest_passed-requires
newest_passed-requires c = search ring_asks

pub returns : goal.returns
returns c = search class_newest
