-- One class in its part of the words: what a function may know of the words that it is lent, and what it makes of the class.
use Rattle.std.specs.Prelude.{ℕ, suc, ◌+◌, ◌*◌, ◌≤◌, ◌≡◌, Bool, true, cond, List, [], ◌∷◌, length, get_or, take, drop, Option, Ok, position}
use Rattle.model.specs.declared.Class.{Class}
use Rattle.model.specs.declared.Deliverer.{Deliverer}
use Rattle.model.specs.declared.Shares.{Shares}
use Rattle.model.specs.declared.Limits.{Limits}
use Rattle.runs.specs.Combine.{enc_up}
use Rattle.runs.specs.Turns.{Is, Turns, Reads}
use Rattle.model.specs.Numbers.{top32}
use Rattle.model.specs.Widths.{class_head, place_width}
use Rattle.model.specs.Class.{class_of, same_deliverer}
use Rattle.model.specs.Book.{Place, Held, entries_of, pairs_of, listed, place_free, pair_free, draw_test, granted, enter, give_back}
use Rattle.model.specs.BookWords.{class_form, place_form, most_entries}
use Rattle.book.specs.declared.Spot.{Spot}
use Rattle.pairs.specs.Pairs.{before}
use Rattle.book.specs.PlaceRules.{found_at}

-- the words of a class, with the bounds that indices and sums need
pub record ClassIs (b : Shares) (c : Class) (ws : List ℕ) : Type 0 where
  pub is : Is (class_form b c).enc (class_form b c).Ok ws
  pub places : b.places ≤ 64
  pub pairs : b.pairs ≤ 512
  pub two : 2 ≤ b.pairs
  pub feeder : b.feeder ≤ 4_096
  pub peer : b.peer ≤ 4_096
  pub long : length ws ≡ class_head + b.places * place_width b.pairs
  pub used : class_head + get_or ws 1 0 * place_width b.pairs ≤ length ws
  pub holders : get_or ws 1 0 ≤ b.places
  pub entries : get_or ws 0 0 ≤ most_entries
  pub units : get_or ws 2 0 ≤ 2_262_144
  pub expired : get_or ws 3 0 ≤ top32

-- a contract of a function that reads the words of a class, and of one that writes them
abbrev pub ClassReads : {R : Type 0} → Shares → Class → (Held → R) → List ℕ → R → Type 0
ClassReads b c out ws r = Reads (class_form b c).enc (class_form b c).Ok out ws r

abbrev pub ClassTurns : {R : Type 0} → Shares → Class → (Held → Held) → (Held → R) → List ℕ → List ℕ → R → Type 0
ClassTurns b c f out ws last r = Turns (class_form b c).enc (class_form b c).Ok f out ws last r

-- the place of a deliverer, where it has one
abbrev pub place_of : Deliverer → List Place → Option ℕ
place_of who ps = position (λ p. same_deliverer who p.who) ps

-- where a draw is entered: at the deliverer's place, or behind the others where it has none
unfoldable pub place_index : Deliverer → List Place → ℕ
place_index who [] = 0
place_index who (p ∷ ps) = cond (same_deliverer who p.who) 0 (suc (place_index who ps))

-- what a class holds of a deliverer and a second
abbrev pub spot_of : Deliverer → ℕ → List Place → Spot
spot_of who s ps = record {
  second = s;
  place = place_index who ps;
  seen = record {
    entries = entries_of who ps;
    pairs = length (pairs_of who ps);
    pair = found_at (listed s (pairs_of who ps)) (before s (pairs_of who ps));
  };
}

-- a deliverer and a second that were looked up in these words
pub record Found (b : Shares) (who : Deliverer) (ws : List ℕ) (spot : Spot) : Type 0 where
  pub class : ClassIs b (class_of who) ws
  pub at : spot ≡ spot_of who spot.second class.is.value.places
  pub few : spot.seen.entries ≤ most_entries

-- and there is room for the draw
pub record Roomy (b : Shares) (who : Deliverer) (ws : List ℕ) (spot : Spot) : Type 0 where
  pub found : Found b who ws spot
  pub place : place_free b who found.class.is.value.places ≡ true
  pub pair : pair_free b who spot.second found.class.is.value.places ≡ true
  pub within : class_head + spot.place * place_width b.pairs + place_width b.pairs ≤ length ws

-- the second is listed at pair k, so its deliverer has a place
pub record Listed (b : Shares) (who : Deliverer) (ws : List ℕ) (spot : Spot) (k : ℕ) : Type 0 where
  pub found : Found b who ws spot
  pub yes : spot.seen.pair ≡ Ok k
  pub within : class_head + spot.place * place_width b.pairs + place_width b.pairs ≤ length ws
  pub before_end : class_head + spot.place * place_width b.pairs + place_width b.pairs ≤ class_head + get_or ws 1 0 * place_width b.pairs

-- what a function does to the places alone: the totals stay, and the words after them become those of `f` of the places
pub record BodyTurns (b : Shares) (c : Class) (f : List Place → List Place) (before after : List ℕ) : Type 0 where
  pub totals : take class_head after ≡ take class_head before
  pub does : (h : Held) → (class_form b c).Ok h → before ≡ (class_form b c).enc h
      → drop class_head after ≡ enc_up (place_form c b.pairs) b.places (f h.places)

-- the class with other places
abbrev pub with_held : List Place → Held → Held
with_held ps h = record { places = ps; expired = h.expired }

abbrev pub entered : Shares → Deliverer → ℕ → Held → Held
entered b who s h = with_held (enter b who s h.places) h

-- a draw entered where it is granted
unfoldable pub drawn_class : Shares → Limits → Bool → Deliverer → ℕ → Held → Held
drawn_class b l closed who s h = cond (granted (draw_test b l closed who s h.places)) (entered b who s h) h

abbrev pub returned : Deliverer → ℕ → Held → Held
returned who s h = with_held (give_back who s h.places) h
