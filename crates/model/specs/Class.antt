-- The three classes, the deliverers with their codes, and one thing of a kind for each class.
use Rattle.std.specs.Prelude.{ℕ, Bool, true, false, cond, ◌&&◌, ◌||◌, List, [], ◌∷◌, eqb, leb}
use Rattle.model.specs.declared.Class.{Class}
use Rattle.model.specs.declared.Class.TheVariants.{Feeders, Peers, Own}
use Rattle.model.specs.declared.Deliverer.{Deliverer}
use Rattle.model.specs.declared.Deliverer.TheVariants.{Feeder, Peer, Relay, Restored}

-- all classes, in the order of their words and of a dump
abbrev pub classes : List Class
classes = Feeders ∷ Peers ∷ Own ∷ []

-- ---- classes: 0 Feeders, 1 Peers, 2 Own
unfoldable pub class_number : Class → ℕ
class_number Feeders = 0
class_number Peers = 1
class_number Own = 2

-- a class code that is listed
abbrev pub class_fits : ℕ → Bool
class_fits n = leb n 2

unfoldable pub class_at : ℕ → Class
class_at n = cond (eqb n 0) Feeders (cond (eqb n 1) Peers Own)

abbrev pub same_class : Class → Class → Bool
same_class Feeders Feeders = true
same_class Feeders Peers = false
same_class Feeders Own = false
same_class Peers Feeders = false
same_class Peers Peers = true
same_class Peers Own = false
same_class Own Feeders = false
same_class Own Peers = false
same_class Own Own = true

-- ---- deliverers: kind 0 Feeder, 1 Peer, 2 Relay, 3 Restored; the number is an id, or of a Restored the class; of Relay it is not read
unfoldable pub class_of : Deliverer → Class
class_of (Feeder id) = Feeders
class_of (Peer id) = Peers
class_of Relay = Own
class_of (Restored c) = c

unfoldable pub kind_of : Deliverer → ℕ
kind_of (Feeder id) = 0
kind_of (Peer id) = 1
kind_of Relay = 2
kind_of (Restored c) = 3

-- a deliverer code that is listed
unfoldable pub deliverer_fits : ℕ → ℕ → Bool
deliverer_fits kind number = leb kind 2 || (eqb kind 3 && class_fits number)

unfoldable pub deliverer_of : ℕ → ℕ → Deliverer
deliverer_of kind number =
    cond (eqb kind 0) (Feeder number) (cond (eqb kind 1) (Peer number) (cond (eqb kind 2) Relay (Restored (class_at number))))

unfoldable pub same_deliverer : Deliverer → Deliverer → Bool
same_deliverer (Feeder a) (Feeder b) = eqb a b
same_deliverer (Feeder a) (Peer b) = false
same_deliverer (Feeder a) Relay = false
same_deliverer (Feeder a) (Restored d) = false
same_deliverer (Peer a) (Feeder b) = false
same_deliverer (Peer a) (Peer b) = eqb a b
same_deliverer (Peer a) Relay = false
same_deliverer (Peer a) (Restored d) = false
same_deliverer Relay (Feeder b) = false
same_deliverer Relay (Peer b) = false
same_deliverer Relay Relay = true
same_deliverer Relay (Restored d) = false
same_deliverer (Restored c) (Feeder b) = false
same_deliverer (Restored c) (Peer b) = false
same_deliverer (Restored c) Relay = false
same_deliverer (Restored c) (Restored d) = same_class c d

-- ---- one for each class
pub record Each (A : Type 0) : Type 0 where
  pub of_feeders : A
  pub of_peers : A
  pub of_own : A

abbrev pub pick : {A : Type 0} → Class → Each A → A
pick Feeders e = e.of_feeders
pick Peers e = e.of_peers
pick Own e = e.of_own

abbrev pub swap : {A : Type 0} → Class → A → Each A → Each A
swap Feeders a e = record { of_feeders = a; of_peers = e.of_peers; of_own = e.of_own }
swap Peers a e = record { of_feeders = e.of_feeders; of_peers = a; of_own = e.of_own }
swap Own a e = record { of_feeders = e.of_feeders; of_peers = e.of_peers; of_own = a }

abbrev pub each : {A B : Type 0} → (A → B) → Each A → Each B
each f e = record { of_feeders = f e.of_feeders; of_peers = f e.of_peers; of_own = f e.of_own }

abbrev pub three : {A : Type 0} → A → Each A
three a = record { of_feeders = a; of_peers = a; of_own = a }

-- the rules of this file, for a theorem that computes
unfoldable pub compute_class : ℕ
unfolding class_number class_at class_of kind_of deliverer_fits deliverer_of same_deliverer
compute_class = 0
