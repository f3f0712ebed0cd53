-- "So a Feeder or Peer never brings the class above twice T."
-- T is the class limit, units are entries plus place units: both as the words hold them. The words are any, and so is the call.
use Rattle.std.specs.Prelude.{ℕ, ◌*◌, ◌≤◌, ◌<◌, ◌≡◌, false, List}
use Rattle.model.specs.declared.Class.{Class}
use Rattle.model.specs.declared.Deliverer.{Deliverer}
use Rattle.model.specs.declared.Manner.{Manner}
use Rattle.model.specs.Settings.{settings_of}
use Rattle.model.specs.Class.{class_of, deliverer_of}
use Rattle.model.specs.Book.{units, together, fair, places_of}
use Rattle.model.specs.Calls.{Asking, Ticket, On, held_in, after}

-- a class's units and its limit, in words under settings
abbrev pub class_units : List ℕ → List ℕ → Class → ℕ
class_units st ws c = units (settings_of st).shares (places_of c (held_in (settings_of st) ws).book)

abbrev pub class_limit : List ℕ → List ℕ → Class → ℕ
class_limit st ws c = together (held_in (settings_of st) ws).book.limits c

-- units that a deliverer raised are at most twice T; and at most T if it is no Feeder and no Peer
pub record Bounded (who : Deliverer) (before after limit : ℕ) : Type 0 where
  pub twice : before < after → after ≤ 2 * limit
  pub others : fair who ≡ false → before < after → after ≤ limit

abbrev pub who_asks : Asking → Deliverer
who_asks a = deliverer_of a.kind a.number

-- the promise
abbrev pub NeverAboveTwice : Type 0
NeverAboveTwice =
    (st ws : List ℕ) (r : ℕ) (m : Manner) (a : Asking)
    → Bounded (who_asks a) (class_units st ws (class_of (who_asks a))) (class_units st (after st ws (On r (Ticket m a))) (class_of (who_asks a)))
    (class_limit st ws (class_of (who_asks a)))
