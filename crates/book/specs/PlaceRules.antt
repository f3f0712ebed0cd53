-- One place: what its words say of a second, and which places a function on a place's words may be given.
use Rattle.std.specs.Prelude.{ℕ, ◌-◌, ◌≤◌, ◌<◌, ◌≡◌, Bool, true, cond, Result, Ok, Err, List, ◌∷◌, ◌++◌, length, get_or, drop}
use Rattle.model.specs.declared.Deliverer.{Deliverer}
use Rattle.model.specs.Widths.{place_head, place_width}
use Rattle.model.specs.Class.{kind_of}
use Rattle.model.specs.Book.{Pair, Place, total, entries, with_pairs, later_pairs}
use Rattle.model.specs.BookWords.{most_entries, pair_words, read_pairs, pairs_sound, number_word}
use Rattle.book.specs.declared.place.Seen.{Seen}
use Rattle.book.specs.declared.place.Left.{Left}
use Rattle.pairs.specs.Pairs.{before, second_at, raise_at, lower_at, count_at, insert_at, remove_at}

-- the pairs of a place's words
abbrev pub pairs_in : List ℕ → List Pair
pairs_in ws = read_pairs (get_or ws 3 0) (drop place_head ws)

-- the pair of a second: Ok of its index where it is listed, or Err of where it would come
abbrev pub found_at : Bool → ℕ → Result ℕ ℕ
found_at listed k = cond listed (Ok k) (Err k)

abbrev pub seen_in : ℕ → List ℕ → Seen
seen_in s ws = record {
  entries = get_or ws 2 0;
  pairs = get_or ws 3 0;
  pair = found_at (second_at s (before s (pairs_in ws)) (pairs_in ws)) (before s (pairs_in ws));
}

-- a place's words, wide enough for its pairs, with a sum that is small
pub record Wide (ws : List ℕ) : Type 0 where
  pub few : get_or ws 3 0 ≤ 512
  pub long : place_width (get_or ws 3 0) ≤ length ws
  pub small : get_or ws 2 0 ≤ most_entries
  pub sum : total (pairs_in ws) ≤ most_entries

-- pair k is there and has an entry
pub record Has (k : ℕ) (p : Place) : Type 0 where
  pub there : k < length p.pairs
  pub some : 1 ≤ count_at k p.pairs

-- pair k is there and has one entry
pub record Single (k : ℕ) (p : Place) : Type 0 where
  pub there : k < length p.pairs
  pub one : count_at k p.pairs ≡ 1

-- a pair may come before pair k
pub record Fits (k : ℕ) (p : Place) : Type 0 where
  pub there : k ≤ length p.pairs
  pub room : 2 ≤ length p.past

-- pairs that are sound and whose sum is small
pub record Summed (p : Place) : Type 0 where
  pub rise : pairs_sound 0 p.pairs ≡ true
  pub small : entries p ≤ most_entries

abbrev pub raised_place : ℕ → Place → Place
raised_place k p = with_pairs (raise_at k p.pairs) p

abbrev pub lowered_place : ℕ → Place → Place
lowered_place k p = with_pairs (lower_at k p.pairs) p

abbrev pub shorter_place : ℕ → Place → Place
shorter_place k p = with_pairs (remove_at k 1 p.pairs) p

abbrev pub longer_place : ℕ → ℕ → Place → Place
longer_place k s p = with_pairs (insert_at k s p.pairs) p

abbrev pub later_place : ℕ → Place → Place
later_place t p = with_pairs (later_pairs t p.pairs) p

-- what an expiry leaves of a place
abbrev pub left_of : ℕ → Place → Left
left_of t p = record { pairs = length (later_pairs t p.pairs); gone = entries p - total (later_pairs t p.pairs) }

-- the head of a new place, before its cells
abbrev pub headed : Deliverer → List ℕ → List ℕ
headed who cells = kind_of who ∷ number_word who 0 ∷ 1 ∷ 1 ∷ cells

-- the words of a new place, over words that were there
abbrev pub opened_words : Deliverer → ℕ → List ℕ → List ℕ
opened_words who s ws = headed who (pair_words (record { second = s; count = 1 }) ++ drop (place_width 1) ws)
