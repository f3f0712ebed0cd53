-- "Settings and soundness": the share book's words, and when they are sound.
-- A class: entries, holders, units, `expired`, then P places. A place: kind, number, entries, pairs, then E cells of two words.
use Rattle.std.specs.Prelude.{ℕ, zero, suc, ◌+◌, ◌*◌, ◌≤◌, ◌≡◌, Bool, true, false, cond, not, ◌&&◌, ◌||◌, List, [], ◌∷◌, ◌++◌, length, get_or, drop, eqb, leb}
use Rattle.model.specs.declared.Class.{Class}
use Rattle.model.specs.declared.Class.TheVariants.{Feeders, Peers, Own}
use Rattle.model.specs.declared.Deliverer.{Deliverer}
use Rattle.model.specs.declared.Deliverer.TheVariants.{Feeder, Peer, Relay, Restored}
use Rattle.model.specs.declared.Shares.{Shares}
use Rattle.runs.specs.Form.{Form}
use Rattle.runs.specs.Chunks.{flat}
use Rattle.runs.specs.Combine.{Both, both, up_to, such, led, seen_as}
use Rattle.model.specs.Numbers.{top32}
use Rattle.model.specs.Widths.{place_head, place_width}
use Rattle.model.specs.Class.{class_number, class_of, kind_of, same_class, same_deliverer}
use Rattle.model.specs.Book.{Pair, Place, Held, total, entries, entries_in, units}

-- "entries at most 2,000,000"
abbrev pub most_entries : ℕ
most_entries = 2_000_000

-- ---- a place's pairs, in as many cells: how pairs lie in words is said here alone
abbrev pub pair_words : Pair → List ℕ
pair_words q = q.second ∷ q.count ∷ []

unfoldable pub read_pairs : ℕ → List ℕ → List Pair
read_pairs zero ws = []
read_pairs (suc n) ws = record { second = get_or ws 0 0; count = get_or ws 1 0 } ∷ read_pairs n (drop 2 ws)

-- "seconds rising and 32-bit, counts at least 1", the first second being at least `least`
unfoldable pub pairs_sound : ℕ → List Pair → Bool
pairs_sound least [] = true
pairs_sound least (q ∷ qs) =
    (leb least q.second && (leb q.second top32 && leb 1 q.count)) && pairs_sound (suc q.second) qs

-- ---- a place's deliverer: its kind and its number; the class is where it stands
-- the number word of a deliverer that has no number is free
abbrev pub number_word : Deliverer → ℕ → ℕ
number_word (Feeder id) mark = id
number_word (Peer id) mark = id
number_word Relay mark = mark
number_word (Restored c) mark = mark

abbrev pub own_deliverer : Class → ℕ → Deliverer
own_deliverer Feeders number = Feeder number
own_deliverer Peers number = Peer number
own_deliverer Own number = Relay

abbrev pub own_mark : Class → ℕ → ℕ
own_mark Feeders number = 0
own_mark Peers number = 0
own_mark Own number = number

abbrev pub read_who : Class → ℕ → ℕ → Deliverer
read_who c kind number = cond (eqb kind 3) (Restored c) (own_deliverer c number)

abbrev pub read_mark : Class → ℕ → ℕ → ℕ
read_mark c kind number = cond (eqb kind 3) number (own_mark c number)

-- "deliverers .. of that class": Feeder, Peer and Relay have the number of their class as their kind
abbrev pub kind_sound : Class → ℕ → Bool
kind_sound c kind = eqb kind 3 || eqb kind (class_number c)

-- ---- a place
abbrev pub encode_place : Place → List ℕ
encode_place p =
    kind_of p.who ∷ number_word p.who p.mark ∷ entries p ∷ length p.pairs ∷ flat pair_words p.pairs ++ p.past

abbrev pub read_place : Class → List ℕ → Place
read_place c ws = record {
  who = read_who c (get_or ws 0 0) (get_or ws 1 0);
  mark = read_mark c (get_or ws 0 0) (get_or ws 1 0);
  pairs = read_pairs (get_or ws 3 0) (drop place_head ws);
  past = drop (2 * get_or ws 3 0) (drop place_head ws);
}

-- "Each has 1 to E pairs .. summing to its entries": no sum is larger than the class's entries may be
abbrev pub counts_sound : List Pair → ℕ → Bool
counts_sound qs sum = pairs_sound 0 qs && (eqb (total qs) sum && leb sum most_entries)

unfoldable pub place_sound : Class → ℕ → List ℕ → Bool
place_sound c E ws =
    kind_sound c (get_or ws 0 0) && ((leb 1 (get_or ws 3 0) && leb (get_or ws 3 0) E) && counts_sound (read_pairs (get_or ws 3 0) (drop place_head ws)) (get_or ws 2 0))

pub record PlaceOk (c : Class) (E : ℕ) (p : Place) : Type 0 where
  pub class : same_class (class_of p.who) c ≡ true
  -- a deliverer that has a number has no other mark
  pub mark : p.mark ≡ read_mark c (kind_of p.who) (number_word p.who p.mark)
  pub least : 1 ≤ length p.pairs
  pub cells : 2 * length p.pairs + length p.past ≡ 2 * E
  pub pairs : pairs_sound 0 p.pairs ≡ true
  pub few : entries p ≤ most_entries

abbrev pub place_form : Class → ℕ → Form Place
place_form c E = record {
  wide = place_width E;
  enc = encode_place;
  read = read_place c;
  Ok = PlaceOk c E;
  test = place_sound c E;
}

-- a place is used if it has pairs
unfoldable pub used_place : List ℕ → Bool
used_place ws = not (eqb (get_or ws 3 0) 0)

-- ---- a class's places: "Used places come first, in order of arrival, deliverers distinct .. Unused places are 0."
unfoldable pub has_place : Deliverer → List Place → Bool
has_place who [] = false
has_place who (p ∷ ps) = same_deliverer who p.who || has_place who ps

unfoldable pub distinct : List Place → Bool
distinct [] = true
distinct (p ∷ ps) = not (has_place p.who ps) && distinct ps

abbrev pub places_rule : List Place → Bool
places_rule ps = distinct ps && leb (entries_in ps) most_entries

abbrev pub places_form : Shares → Class → Form (List Place)
places_form b c = such (up_to (place_form c b.pairs) used_place b.places) places_rule

-- ---- a class: "Class totals are the sums, .. `expired` 32-bit"
abbrev pub expired_form : Form ℕ
expired_form = record { wide = 1; enc = λ t. t ∷ []; read = λ ws. get_or ws 0 0; Ok = λ t. t ≤ top32; test = λ ws. leb (get_or ws 0 0) top32 }

abbrev pub totals_words : Shares → Held → List ℕ
totals_words b h = entries_in h.places ∷ length h.places ∷ units b h.places ∷ []

abbrev pub held_of : Both ℕ (List Place) → Held
held_of x = record { expired = x.head; places = x.body }

abbrev pub of_held : Held → Both ℕ (List Place)
of_held h = record { head = h.expired; body = h.places }

abbrev pub class_form : Shares → Class → Form Held
class_form b c = led 3 (totals_words b) (seen_as held_of of_held (both expired_form (places_form b c)))
