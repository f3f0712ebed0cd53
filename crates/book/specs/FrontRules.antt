-- What the front says of draws, and the front with other limits, and with the book closed: of a front, and of any words.
use Rattle.std.specs.Prelude.{ℕ, true, List, set}
use Rattle.model.specs.declared.Limits.{Limits}
use Rattle.model.specs.Words.{Front}
use Rattle.book.specs.declared.front.Terms.{Terms}
use Rattle.numbers.specs.Layout.{feeder_limit_at, feeders_limit_at, peer_limit_at, peers_limit_at, relay_limit_at, closed_at}

abbrev pub terms_of : Front → Terms
terms_of f = record { limits = f.limits; closed = f.closed }

abbrev pub limited : Limits → Front → Front
limited l f = record { limits = l; closed = f.closed; spare = f.spare }

abbrev pub shut : Front → Front
shut f = record { limits = f.limits; closed = true; spare = f.spare }

abbrev pub limits_stored : Limits → List ℕ → List ℕ
limits_stored l ws =
    set (set (set (set (set ws feeder_limit_at l.feeder) feeders_limit_at l.feeders) peer_limit_at l.peer) peers_limit_at l.peers)
    relay_limit_at l.relay

abbrev pub closed_stored : List ℕ → List ℕ
closed_stored ws = set ws closed_at 1
