-- The places of a class in their words, and what they add up to.
use Rattle.std.specs.Prelude.{ℕ, ◌+◌, ◌*◌, ◌/◌, ◌≤◌, ◌≡◌, Bool, ◌&&◌, List, eqb, leb, length}
use Rattle.model.specs.declared.Class.{Class}
use Rattle.model.specs.declared.Shares.{Shares}
use Rattle.runs.specs.Combine.{read_up, test_up}
use Rattle.model.specs.Widths.{place_width}
use Rattle.model.specs.Book.{Place, entries_in, units}
use Rattle.model.specs.BookWords.{most_entries, place_form, used_place}
use Rattle.numbers.specs.declared.units.Sums.{Sums}

-- the bounds of settings that fit
pub record Few (b : Shares) : Type 0 where
  pub places : b.places ≤ 64
  pub pairs : b.pairs ≤ 512
  pub feeder : b.feeder ≤ 4_096
  pub peer : b.peer ≤ 4_096

-- the words of P places, under such settings
pub record Within (b : Shares) (ws : List ℕ) : Type 0 where
  pub few : Few b
  pub long : length ws ≡ b.places * place_width b.pairs

-- the used places of such words
abbrev pub places_in : Shares → Class → List ℕ → List Place
places_in b c ws = read_up (place_form c b.pairs) used_place (length ws / place_width b.pairs) ws

-- they are sound, and what follows them is 0
abbrev pub test_in : Shares → Class → List ℕ → Bool
test_in b c ws = test_up (place_form c b.pairs) used_place (length ws / place_width b.pairs) ws

-- ---- sums
-- the totals are those that were added up
abbrev pub agreeing : Sums → Sums → Bool
agreeing t s = leb s.entries most_entries && (eqb t.entries s.entries && (eqb t.holders s.holders && eqb t.units s.units))

-- the same with places ps still to come after some with these sums
unfoldable pub totals_rule : Shares → Sums → Sums → List Place → Bool
totals_rule b t s ps = agreeing t (record { entries = s.entries + entries_in ps; holders = s.holders + length ps; units = s.units + units b ps })
