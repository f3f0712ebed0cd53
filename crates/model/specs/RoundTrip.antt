-- The round trip, for words and dump bytes of any content: what a dump call wrote, a restore call reads into an untouched register with
-- the same settings. It answers Whole with the dump's length as the bytes read, whatever bytes follow, and brings back for each class
-- the same fingerprints, buckets and newest stamps, and the floor unless that is 2^64 − 1. The customer's sentences:
--
-- "Proved: .. a dump restored into a newly opened register brings back what it held."
--
-- "Little-endian 64-bit words: floor (0 none, else floor + 1, capped); per class a count, then held generations by position: bucket,
-- newest, length, fingerprints by slot. Restore first reads the lengths (7 before any change), ignores trailing bytes, and returns bytes
-- read and Whole or Partly."
--
-- "Enough room: book open; per class with entries in the dump, the limit covers present units, those entries and a new Restored place's
-- units, a place is free and E covers its seconds with those already listed."
use Rattle.std.specs.Prelude.{ℕ, ◌+◌, ◌*◌, ◌≤◌, ◌<◌, ◌≡◌, Bool, true, false, cond, not, ◌&&◌, Some, List, [], ◌∷◌, ◌++◌, eqb, length, get_or, take, replicate}
use Rattle.model.specs.declared.Class.{Class}
use Rattle.model.specs.declared.Deliverer.{Deliverer}
use Rattle.model.specs.declared.Deliverer.TheVariants.{Restored}
use Rattle.model.specs.declared.Start.TheVariants.{Empty}
use Rattle.model.specs.Answer.{Dumped, Whole}
use Rattle.model.specs.declared.Shares.{Shares}
use Rattle.model.specs.declared.Usable.{Usable}
use Rattle.model.specs.Numbers.{top64}
use Rattle.model.specs.Settings.{settings_of, usable_at}
use Rattle.model.specs.Class.{Each, pick}
use Rattle.model.specs.Generation.{Generation, empty, held, among}
use Rattle.model.specs.Book.{Pair, Place, Book, second_of, together, units, place_units, entries_of, pairs_of, place_free, add_pair, places_of}
use Rattle.model.specs.Register.{Ring, Register, started}
use Rattle.model.specs.Words.{State}
use Rattle.model.specs.Calls.{Call, Open, On, DumpTo, Restore, Kind, Opens, OnOne, Sets, Other, kind, register_at, settings_words_fit, reply, after, output_after}
use Rattle.model.specs.View.{kept_settings, view, Given, words_after}
use Rattle.model.specs.Codes.{went_through}

-- ---- enough room
-- the entries of a class in the dump: the second of each
unfoldable pub seconds_in : Usable → Ring → List ℕ
seconds_in u [] = []
seconds_in u (g ∷ gs) = replicate (held g) (second_of g.bucket u.bucket) ++ seconds_in u gs

-- the pairs that are listed once these seconds are entered
unfoldable pub pairs_with : List ℕ → List Pair → List Pair
pairs_with [] qs = qs
pairs_with (s ∷ ss) qs = pairs_with ss (add_pair s qs)

-- a new place's units: none where the deliverer has a place
unfoldable pub new_units : Shares → Deliverer → List Place → ℕ
new_units b who ps = cond (eqb (entries_of who ps) 0) (place_units b who) 0

-- in one class, for entries that end in these seconds
pub record RoomFor (b : Shares) (limit : ℕ) (c : Class) (seconds : List ℕ) (ps : List Place) : Type 0 where
  -- "the limit covers present units, those entries and a new Restored place's units"
  pub covered : units b ps + length seconds + new_units b (Restored c) ps ≤ limit
  -- "a place is free"
  pub a_place : place_free b (Restored c) ps ≡ true
  -- "E covers its seconds with those already listed"
  pub the_pairs : length (pairs_with seconds (pairs_of (Restored c) ps)) ≤ b.pairs

pub record EnoughRoom (u : Usable) (b : Shares) (k : Book) (rings : Each Ring) : Type 0 where
  pub open_book : k.closed ≡ false
  pub per_class : (c : Class) → 0 < length (seconds_in u (pick c rings))
      → RoomFor b (together k.limits c) c (seconds_in u (pick c rings)) (places_of c k)

-- ---- brought back
-- the same fingerprints, newest stamp and, where anything is held, bucket: the bucket word of an empty generation is free
pub record SameGeneration (g h : Generation) : Type 0 where
  pub prints : (fp : ℕ) → 0 < fp → among fp h.slots ≡ among fp g.slots
  pub newest : h.newest ≡ g.newest
  pub bucket : 0 < held g → h.bucket ≡ g.bucket

pub record SameRing (from to : Ring) : Type 0 where
  pub as_long : length to ≡ length from
  pub each : (i : ℕ) → SameGeneration (get_or from i empty) (get_or to i empty)

pub record BroughtBack (from to : Register) : Type 0 where
  pub rings : (c : Class) → SameRing (pick c from.rings) (pick c to.rings)
  pub floor : (from.floor ≡ Some top64 → ⊥) → to.floor ≡ from.floor

-- ---- words and bytes
-- lent words are 64-bit numbers
abbrev pub Words64 : List ℕ → Type 0
Words64 [] = Unit {0}
Words64 (w ∷ ws) = (w ≤ top64) × Words64 ws

-- the source: any words that hold a state, of which register r was dumped, as many bytes as the call said
pub record Source (st ws : List ℕ) (t : State) (r : ℕ) (out : List ℕ) (n : ℕ) : Type 0 where
  pub words : Words64 ws
  pub holds : view ws ≡ Some t
  pub said : reply st ws (On r (DumpTo out)) ≡ Dumped n

-- what the call wrote
abbrev pub written : List ℕ → List ℕ → ℕ → List ℕ → ℕ → List ℕ
written st ws r out n = take n (output_after st ws (On r (DumpTo out)))

-- the target: any words that hold a state, under the settings that come with the call; register q has the source's settings, and is
-- untouched since its opening Empty
pub record Target (u : Usable) (st ws : List ℕ) (t : State) (q : ℕ) : Type 0 where
  pub holds : view ws ≡ Some t
  pub fit : settings_words_fit st ≡ true
  pub kept : kept_settings ws ≡ settings_of st
  pub there : q < (settings_of st).registers
  pub settings : usable_at (settings_of st) q ≡ u
  pub untouched : register_at q t ≡ started u Empty

-- a restore of these bytes reads all of the dump, and then register q is what `from` was
pub record Returns (from : Register) (dump : List ℕ) (st ws : List ℕ) (q : ℕ) (bytes : List ℕ) : Type 0 where
  pub answer : reply st ws (On q (Restore bytes)) ≡ Whole (length dump)
  pub left : State
  pub holds : view (after st ws (On q (Restore bytes))) ≡ Some left
  pub brought : BroughtBack from (register_at q left)

abbrev pub RoundTrip : Type 0
RoundTrip =
    (st ws : List ℕ) (t : State) (r : ℕ) (out : List ℕ) (n : ℕ) → Source st ws t r out n
    → (st₂ ws₂ : List ℕ) (t₂ : State) (q : ℕ) → Target (usable_at (settings_of st) r) st₂ ws₂ t₂ q
    → EnoughRoom (usable_at (settings_of st) r) (settings_of st₂).shares t₂.book (register_at r t).rings
    → (more : List ℕ)
    → (length (written st ws r out n) ≡ n) × Returns (register_at r t) (written st ws r out n) st₂ ws₂ q (written st ws r out n ++ more)

-- ---- "untouched since its opening Empty": no call since then is an opening, or on that register
unfoldable pub reaches : ℕ → Kind → Bool
reaches q (Opens limits starts) = true
reaches q (OnOne r d) = eqb q r
reaches q (Sets limits) = false
reaches q Other = false

unfoldable pub touches : ℕ → Call → Bool
unfolding kind reaches
touches q call = reaches q (kind call)

unfoldable pub none_touches : ℕ → List Given → Bool
none_touches q [] = true
none_touches q (g ∷ gs) = not (touches q g.call) && none_touches q gs

-- after an opening that went through with register q Empty (0), and any calls that do not touch it, its words hold it as it started
abbrev pub StaysUntouched : Type 0
StaysUntouched =
    (start st limits starts : List ℕ) (calls : List Given) (q : ℕ) (t : State)
    → went_through (reply st start (Open limits starts)) ≡ true → q < (settings_of st).registers → get_or starts (2 * q) 0 ≡ 0
    → none_touches q calls ≡ true → view (words_after (after st start (Open limits starts)) calls) ≡ Some t
    → register_at q t ≡ started (usable_at (settings_of st) q) Empty
