-- A dump by the positions of its words. The model reads a dump from the front and hands on what is left; code has a position in
-- the bytes. Here is what lies at a position, said of any words: past their end they read as 0, so that a walk comes to an end
-- past the last word exactly when the model says that the dump is cut short.
use Rattle.std.specs.Prelude.{ℕ, zero, suc, ◌+◌, ◌-◌, ◌/◌, ◌<◌, ◌≤◌, ◌≡◌, Option, Some, None, List, [], ◌∷◌, length, get_or, take, drop}
use Rattle.std.specs.Option.{MatchOption}
use Rattle.model.specs.Dump.{Dumped, Dump, words_of, read_dump}
use Rattle.dump.specs.declared.walk.Found.{Found}

-- ---- one generation: its bucket, its newest, its length, its fingerprints
abbrev pub length_at : List ℕ → ℕ → ℕ
length_at ws p = get_or ws (p + 2) 0

abbrev pub dumped_at : List ℕ → ℕ → Dumped
dumped_at ws p = record { bucket = get_or ws p 0; newest = get_or ws (p + 1) 0; prints = take (length_at ws p) (drop (p + 3) ws) }

-- the position after it
abbrev pub next_at : List ℕ → ℕ → ℕ
next_at ws p = p + 3 + length_at ws p

-- ---- n generations from a position on, and the position after them
unfoldable pub dumped_from : List ℕ → ℕ → ℕ → List Dumped
dumped_from ws p zero = []
dumped_from ws p (suc n) = dumped_at ws p ∷ dumped_from ws (next_at ws p) n

unfoldable pub end_from : List ℕ → ℕ → ℕ → ℕ
end_from ws p zero = p
end_from ws p (suc n) = end_from ws (next_at ws p) n

-- ---- a class: a count, and so many generations
abbrev pub class_dumped : List ℕ → ℕ → List Dumped
class_dumped ws p = dumped_from ws (p + 1) (get_or ws p 0)

unfoldable pub class_end : List ℕ → ℕ → ℕ
class_end ws p = end_from ws (p + 1) (get_or ws p 0)

-- ---- a dump: a floor, and three classes
abbrev pub peers_at : List ℕ → ℕ
peers_at ws = class_end ws 1

abbrev pub own_at : List ℕ → ℕ
own_at ws = class_end ws (peers_at ws)

abbrev pub dump_end : List ℕ → ℕ
dump_end ws = class_end ws (own_at ws)

-- the floor that a dump's first word tells: 0 is none, and otherwise the floor and 1
unfoldable pub told_by : ℕ → Option ℕ
told_by zero = None
told_by (suc n) = Some n

abbrev pub dump_at : List ℕ → Dump
dump_at ws = record {
  floor = get_or ws 0 0;
  classes = record { of_feeders = class_dumped ws 1; of_peers = class_dumped ws (peers_at ws); of_own = class_dumped ws (own_at ws) };
  words = dump_end ws;
}

-- ---- what code answers
-- a walk that would end at position e of so many words: none where that is past them, and otherwise it is there
pub record Passes (e all at : ℕ) (r : Option (Unit {0})) : Type 0 where
  pub is : MatchOption r (all < e) (λ x. (at ≡ e) × (e ≤ all))

-- how many words a dump has, and none where it is cut short
abbrev pub lengths_of : Option Dump → Option ℕ
lengths_of None = None
lengths_of (Some d) = Some d.words

pub record FoundAt (ws : List ℕ) (p : ℕ) (f : Found) : Type 0 where
  pub bucket : f.bucket.0 ≡ (dumped_at ws p).bucket
  pub newest : f.newest ≡ (dumped_at ws p).newest
  pub length : f.length ≡ length_at ws p

-- ---- what a loop over a dump's generations knows
-- n generations lie within the bytes from word position p on, and e is the position after them
pub record Walks (bs : List ℕ) (p n e : ℕ) : Type 0 where
  pub ends : end_from (words_of bs) p n ≡ e
  pub inside : e ≤ length bs / 8

-- the first of them, which is all there, and then the others
pub record Steps (bs : List ℕ) (p n e : ℕ) : Type 0 where
  pub inside : next_at (words_of bs) p ≤ length bs / 8
  pub dumped : dumped_from (words_of bs) p n ≡ dumped_at (words_of bs) p ∷ dumped_from (words_of bs) (next_at (words_of bs) p) (n - 1)
  pub walks : Walks bs (next_at (words_of bs) p) (n - 1) e

-- the class at word position p, and e is the position after it
pub record ClassWalks (bs : List ℕ) (p e : ℕ) : Type 0 where
  pub count : p < length bs / 8
  pub walks : Walks bs (p + 1) (get_or (words_of bs) p 0) e

-- a dump of so many words
pub record Whole (bs : List ℕ) (words : ℕ) : Type 0 where
  pub reads : read_dump bs ≡ Some (dump_at (words_of bs))
  pub long : words ≡ dump_end (words_of bs)
  pub floor : 0 < length bs / 8
  pub feeders : ClassWalks bs 1 (peers_at (words_of bs))
  pub peers : ClassWalks bs (peers_at (words_of bs)) (own_at (words_of bs))
  pub own : ClassWalks bs (own_at (words_of bs)) (dump_end (words_of bs))
