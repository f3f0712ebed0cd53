-- A place costs few units.
use Prim.Native.Nat.{◌≤◌}
use native.Mathlib.Omega.{arith}
use Rattle.model.specs.declared.Deliverer.{Deliverer}
use Rattle.model.specs.declared.Deliverer.TheVariants.{Feeder, Peer, Relay, Restored}
use Rattle.model.specs.declared.Shares.{Shares}
use Rattle.model.specs.Book.{place_units}

pub units_small : (b : Shares) (who : Deliverer) → b.feeder ≤ 4_096 → b.peer ≤ 4_096 → place_units b who ≤ 4_096
unfolding place_units
units_small b (Feeder id) f p = f
units_small b (Peer id) f p = p
units_small b Relay f p = omega arith
units_small b (Restored c) f p = p
