-- An expiry under way: the places before i have been seen, and those of them that keep pairs lie one behind the other at the front.
use Rattle.std.specs.Prelude.{ℕ, suc, ◌+◌, ◌-◌, ◌*◌, ◌≤◌, ◌<◌, ◌≡◌, cond, List, [], ◌∷◌, ◌++◌, length, take, drop, replicate, eqb}
use Rattle.model.specs.declared.Class.{Class}
use Rattle.model.specs.declared.Shares.{Shares}
use Rattle.runs.specs.Chunks.{flat}
use Rattle.runs.specs.Combine.{EachOk}
use Rattle.model.specs.Widths.{class_head, place_width}
use Rattle.model.specs.Book.{Place, Held, entries_in, units, with_pairs, later_pairs, later_places}
use Rattle.model.specs.BookWords.{most_entries, encode_place, PlaceOk, class_form}
use Rattle.numbers.specs.declared.units.Sums.{Sums}

-- what an expiry leaves of a place, in the place's own words
abbrev pub expired_words : ℕ → Place → List ℕ
expired_words t p = encode_place (with_pairs (later_pairs t p.pairs) p)

-- The words between the places kept and those not seen yet, where a place has W words. A place that goes leaves its own there. One that
-- is kept moves down over the first of them, and leaves a copy behind.
unfoldable pub between : ℕ → ℕ → List ℕ → List Place → List ℕ
between W t gap [] = gap
between W t gap (p ∷ ps) = between W t (drop (cond (eqb (length (later_pairs t p.pairs)) 0) 0 W) (gap ++ expired_words t p)) ps

-- Behind the lead: the places kept, the words between, the places that are not seen yet, and the rest.
pub record Walk (b : Shares) (t i : ℕ) (lead : List ℕ) (ps : List Place) (rest : List ℕ) (k : Sums) (ws : List ℕ) : Type 0 where
  pub gap : List ℕ
  pub words : ws ≡ (lead ++ flat encode_place (later_places t (take i ps))) ++ (gap ++ (flat encode_place (drop i ps) ++ rest))
  pub left : gap ≡ between (place_width b.pairs) t [] (take i ps)
  pub size : length (later_places t (take i ps)) * place_width b.pairs + length gap ≡ i * place_width b.pairs
  pub holders : k.holders ≡ length (later_places t (take i ps))
  pub entries : k.entries ≡ entries_in (later_places t (take i ps))
  pub units : k.units ≡ units b (later_places t (take i ps))

-- one place more can be seen, with the bounds that indices and sums need
pub record Standing (b : Shares) (c : Class) (t i : ℕ) (k : Sums) (ws : List ℕ) : Type 0 where
  pub lead : List ℕ
  pub ps : List Place
  pub rest : List ℕ
  pub walk : Walk b t i lead ps rest k ws
  pub totals : length lead ≡ class_head
  pub ok : EachOk (λ (j : ℕ). PlaceOk c b.pairs) 0 ps
  pub below : i < length ps
  pub index : i ≤ 64
  pub pairs : b.pairs ≤ 512
  pub feeder : b.feeder ≤ 4_096
  pub peer : b.peer ≤ 4_096
  pub within : class_head + i * place_width b.pairs + place_width b.pairs ≤ length ws
  pub behind : k.holders * place_width b.pairs ≤ i * place_width b.pairs
  pub holders : k.holders ≤ 64
  pub entries : k.entries ≤ most_entries
  pub units : k.units ≤ 2_262_144

-- and has been seen
pub record Steps (b : Shares) (c : Class) (t i : ℕ) (k : Sums) (before after : List ℕ) (r : Sums) : Type 0 where
  pub does : (lead : List ℕ) (ps : List Place) (rest : List ℕ) → length lead ≡ class_head → EachOk (λ (j : ℕ). PlaceOk c b.pairs) 0 ps → i < length ps
      → Walk b t i lead ps rest k before → Walk b t (suc i) lead ps rest r after

-- a class's totals, and the zeros after its places
abbrev pub lead_of : Shares → Held → List ℕ
lead_of b h = entries_in h.places ∷ length h.places ∷ units b h.places ∷ h.expired ∷ []

abbrev pub rest_of : Shares → Held → List ℕ
rest_of b h = replicate ((b.places - length h.places) * place_width b.pairs) 0

-- the words of a class, of which i places have been seen
pub record Walking (b : Shares) (c : Class) (t : ℕ) (before : List ℕ) (i : ℕ) (k : Sums) (ws : List ℕ) : Type 0 where
  pub does : (h : Held) → (class_form b c).Ok h → before ≡ (class_form b c).enc h → Walk b t i (lead_of b h) h.places (rest_of b h) k ws

-- the class after a walk up to t
abbrev pub freed_to : ℕ → Held → Held
freed_to t h = record { places = later_places t h.places; expired = t }
