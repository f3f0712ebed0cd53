-- "Entry shares": who holds how many entries, by the second in which they end.
use Rattle.std.specs.Prelude.{ℕ, suc, ◌+◌, ◌-◌, ◌*◌, ◌/◌, Bool, true, false, cond, not, ◌||◌, List, [], ◌∷◌, ◌++◌, leb, ltb, eqb, length, drop, replicate, if◌then◌else◌}
use Rattle.model.specs.declared.Class.{Class}
use Rattle.model.specs.declared.Class.TheVariants.{Feeders, Peers, Own}
use Rattle.model.specs.declared.Deliverer.{Deliverer}
use Rattle.model.specs.declared.Deliverer.TheVariants.{Feeder, Peer, Relay, Restored}
use Rattle.model.specs.declared.Draw.{Draw}
use Rattle.model.specs.declared.Draw.TheVariants.{Granted, Closed, OwnShare, ClassLimit, EqualPart, TwiceLimit, Places, Pairs}
use Rattle.model.specs.declared.Shares.{Shares}
use Rattle.model.specs.declared.Limits.{Limits}
use Rattle.model.specs.Numbers.{ceil, cap64, cap32}
use Rattle.model.specs.Class.{class_of, same_deliverer, Each, pick, swap, each, three}

-- so many entries end in this second
pub record Pair : Type 0 where
  pub second : ℕ
  pub count : ℕ

-- a deliverer that holds entries. `mark` is the number word of a deliverer that has none (Relay, Restored), `past` the cells
-- after the pairs: no rule reads either
pub record Place : Type 0 where
  pub who : Deliverer
  pub mark : ℕ
  pub pairs : List Pair
  pub past : List ℕ

-- one class: its places in order of arrival, and the second up to which pairs have gone
pub record Held : Type 0 where
  pub places : List Place
  pub expired : ℕ

pub record Book : Type 0 where
  pub limits : Limits
  pub closed : Bool
  pub classes : Each Held

-- ---- entries, units, totals
unfoldable pub total : List Pair → ℕ
total [] = 0
total (q ∷ qs) = q.count + total qs

abbrev pub entries : Place → ℕ
entries p = total p.pairs

-- "Restored costs Peer units, Relay none."
unfoldable pub place_units : Shares → Deliverer → ℕ
place_units b (Feeder id) = b.feeder
place_units b (Peer id) = b.peer
place_units b Relay = 0
place_units b (Restored c) = b.peer

-- "Class totals are the sums": entries, holders, and units, which "are entries plus place units"
unfoldable pub entries_in : List Place → ℕ
entries_in [] = 0
entries_in (p ∷ ps) = entries p + entries_in ps

unfoldable pub units : Shares → List Place → ℕ
units b [] = 0
units b (p ∷ ps) = entries p + place_units b p.who + units b ps

-- a deliverer's entries and pairs: none where it has no place
unfoldable pub entries_of : Deliverer → List Place → ℕ
entries_of who [] = 0
entries_of who (p ∷ ps) = cond (same_deliverer who p.who) (entries p) (entries_of who ps)

unfoldable pub pairs_of : Deliverer → List Place → List Pair
pairs_of who [] = []
pairs_of who (p ∷ ps) = cond (same_deliverer who p.who) p.pairs (pairs_of who ps)

-- ---- a draw's second: "ceil(bucket × width, capped, / 1,000), at most 2^32 − 1"
unfoldable pub second_of : ℕ → ℕ → ℕ
second_of bucket width = cap32 (ceil (cap64 (bucket * width)) 1_000)

-- ---- may a deliverer draw?
-- "T is the class limit"
unfoldable pub together : Limits → Class → ℕ
together l Feeders = l.feeders
together l Peers = l.peers
together l Own = l.relay

-- "entries < share"; "Restored has no share bound; Relay's share is T"
unfoldable pub below_share : Limits → Deliverer → ℕ → Bool
below_share l (Feeder id) n = ltb n l.feeder
below_share l (Peer id) n = ltb n l.peer
below_share l Relay n = ltb n l.relay
below_share l (Restored c) n = true

-- "for Feeder and Peer alone": who may pass T up to the equal part
unfoldable pub fair : Deliverer → Bool
fair (Feeder id) = true
fair (Peer id) = true
fair Relay = false
fair (Restored c) = false

-- "n the holders with the asker"
unfoldable pub holders_with : Deliverer → List Place → ℕ
holders_with who ps = cond (eqb (entries_of who ps) 0) (suc (length ps)) (length ps)

-- own units and class units afterwards
unfoldable pub own_after : Shares → Deliverer → List Place → ℕ
own_after b who ps = suc (entries_of who ps) + place_units b who

unfoldable pub units_after : Shares → Deliverer → List Place → ℕ
units_after b who ps = suc (units b ps) + cond (eqb (entries_of who ps) 0) (place_units b who) 0

unfoldable pub listed : ℕ → List Pair → Bool
listed s [] = false
listed s (q ∷ qs) = eqb s q.second || listed s qs

-- "Then refuse a new deliverer if P places are used, and a new second if E pairs are listed."
unfoldable pub place_free : Shares → Deliverer → List Place → Bool
place_free b who ps = not (eqb (entries_of who ps) 0) || ltb (length ps) b.places

unfoldable pub pair_free : Shares → Deliverer → ℕ → List Place → Bool
pair_free b who s ps = listed s (pairs_of who ps) || ltb (length (pairs_of who ps)) b.pairs

-- the first rule that stands against a draw
unfoldable pub draw_room : Shares → Deliverer → ℕ → List Place → Draw
draw_room b who s ps = if not (place_free b who ps) then Places else if not (pair_free b who s ps) then Pairs else Granted

unfoldable pub draw_limits : Shares → Limits → Deliverer → ℕ → List Place → Draw
draw_limits b l who s ps =
    let t = together l (class_of who) in
    if leb (units_after b who ps) t then draw_room b who s ps
    else if not (fair who) then ClassLimit
    else if ltb (t / holders_with who ps) (own_after b who ps) then EqualPart
    else if ltb (2 * t) (units_after b who ps) then TwiceLimit
    else draw_room b who s ps

unfoldable pub draw_test : Shares → Limits → Bool → Deliverer → ℕ → List Place → Draw
draw_test b l closed who s ps =
    if closed then Closed
    else if not (below_share l who (entries_of who ps)) then OwnShare
    else draw_limits b l who s ps

abbrev pub granted : Draw → Bool
granted Granted = true
granted Closed = false
granted OwnShare = false
granted ClassLimit = false
granted EqualPart = false
granted TwiceLimit = false
granted Places = false
granted Pairs = false

-- ---- pairs and the cells after them: a pair that comes takes the next two cells, and two cells that a pair leaves are 0
unfoldable pub with_pairs : List Pair → Place → Place
with_pairs qs p = record {
  who = p.who;
  mark = p.mark;
  pairs = qs;
  past = replicate (2 * (length p.pairs - length qs)) 0 ++ drop (2 * (length qs - length p.pairs)) p.past;
}

-- a draw enters its second, seconds rising
unfoldable pub add_pair : ℕ → List Pair → List Pair
add_pair s [] = record { second = s; count = 1 } ∷ []
add_pair s (q ∷ qs) =
    if eqb s q.second then record { second = q.second; count = suc q.count } ∷ qs
    else if ltb s q.second then record { second = s; count = 1 } ∷ q ∷ qs
    else q ∷ add_pair s qs

abbrev pub new_place : Shares → Deliverer → ℕ → Place
new_place b who s = record { who = who; mark = 0; pairs = record { second = s; count = 1 } ∷ []; past = replicate (2 * b.pairs - 2) 0 }

-- in its deliverer's place, or in a new one after the others
unfoldable pub enter : Shares → Deliverer → ℕ → List Place → List Place
enter b who s [] = new_place b who s ∷ []
enter b who s (p ∷ ps) = cond (same_deliverer who p.who) (with_pairs (add_pair s p.pairs) p ∷ ps) (p ∷ enter b who s ps)

-- ---- "A draw given back lowers its pair; a pair at 0 goes, and so does an empty place."
unfoldable pub lower_pair : ℕ → List Pair → List Pair
lower_pair s [] = []
lower_pair s (q ∷ qs) =
    if eqb s q.second then (if leb q.count 1 then qs else record { second = q.second; count = q.count - 1 } ∷ qs)
    else q ∷ lower_pair s qs

-- the place with these pairs, or nothing where there are none; then the others
unfoldable pub keep_place : List Pair → Place → List Place → List Place
keep_place [] p ps = ps
keep_place (q ∷ qs) p ps = with_pairs (q ∷ qs) p ∷ ps

unfoldable pub give_back : Deliverer → ℕ → List Place → List Place
give_back who s [] = []
give_back who s (p ∷ ps) = cond (same_deliverer who p.who) (keep_place (lower_pair s p.pairs) p ps) (p ∷ give_back who s ps)

-- ---- expire: "pairs with smaller seconds go; an empty place goes and later ones close up"
unfoldable pub later_pairs : ℕ → List Pair → List Pair
later_pairs t [] = []
later_pairs t (q ∷ qs) = cond (ltb q.second t) (later_pairs t qs) (q ∷ later_pairs t qs)

unfoldable pub later_places : ℕ → List Place → List Place
later_places t [] = []
later_places t (p ∷ ps) = keep_place (later_pairs t p.pairs) p (later_places t ps)

-- "If that plus 2 (capped) is below `expired`, `expired` becomes it and nothing is freed. If ≤ `expired`, nothing. Else .."
unfoldable pub expire_class : ℕ → Held → Held
expire_class t h =
    if ltb (cap32 (t + 2)) h.expired then record { places = h.places; expired = t }
    else if leb t h.expired then h
    else record { places = later_places t h.places; expired = t }

-- "in seconds rounded up, capped at 2^32 − 1"
unfoldable pub expire : ℕ → Book → Book
expire ms k = record { limits = k.limits; closed = k.closed; classes = each (expire_class (cap32 (ceil ms 1_000))) k.classes }

-- ---- the book as a whole
abbrev pub places_of : Class → Book → List Place
places_of c k = (pick c k.classes).places

abbrev pub with_places : Class → List Place → Book → Book
with_places c ps k = record {
  limits = k.limits;
  closed = k.closed;
  classes = swap c (record { places = ps; expired = (pick c k.classes).expired }) k.classes;
}

unfoldable pub draw_says : Shares → Deliverer → ℕ → Book → Draw
draw_says b who s k = draw_test b k.limits k.closed who s (places_of (class_of who) k)

unfoldable pub drawn : Shares → Deliverer → ℕ → Book → Book
drawn b who s k = with_places (class_of who) (enter b who s (places_of (class_of who) k)) k

unfoldable pub undrawn : Deliverer → ℕ → Book → Book
undrawn who s k = with_places (class_of who) (give_back who s (places_of (class_of who) k)) k

unfoldable pub opened_book : Limits → Book
opened_book l = record { limits = l; closed = false; classes = three (record { places = []; expired = 0 }) }

unfoldable pub closed_book : Book → Book
closed_book k = record { limits = k.limits; closed = true; classes = k.classes }

unfoldable pub with_limits : Limits → Book → Book
with_limits l k = record { limits = l; closed = k.closed; classes = k.classes }

-- the rules of this file, for a theorem that computes
unfoldable pub compute_book : ℕ
unfolding total place_units entries_in units entries_of pairs_of second_of together below_share fair holders_with own_after units_after listed place_free pair_free draw_room draw_limits draw_test with_pairs add_pair enter lower_pair keep_place give_back later_pairs later_places expire_class expire draw_says drawn undrawn opened_book closed_book with_limits
compute_book = 0
