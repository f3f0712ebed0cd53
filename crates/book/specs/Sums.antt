-- A class's totals as numbers: what they are of a class, how a draw, a return and an expiry alter them, and what each of these asks.
use Rattle.std.specs.Prelude.{ℕ, ◌+◌, ◌-◌, ◌≤◌, Option, Some, None, List, length, get_or}
use Rattle.model.specs.declared.Shares.{Shares}
use Rattle.numbers.specs.declared.units.Sums.{Sums}
use Rattle.model.specs.Book.{Held, entries_in, units}
use Rattle.book.specs.declared.totals.Totals.{Totals}

abbrev pub totals_in : List ℕ → Totals
totals_in ws = record { entries = get_or ws 0 0; holders = get_or ws 1 0; units = get_or ws 2 0; expired = get_or ws 3 0 }

abbrev pub totals_of : Shares → Held → Totals
totals_of b h = record { entries = entries_in h.places; holders = length h.places; units = units b h.places; expired = h.expired }

-- a place that opens or closes, where one does, by its units: how many places it is, and how many units
abbrev pub places_in : Option ℕ → ℕ
places_in None = 0
places_in (Some place) = 1

abbrev pub units_in : Option ℕ → ℕ
units_in None = 0
units_in (Some place) = place

-- one entry more or less, with so many places, and the units of these
abbrev pub taken_with : Totals → ℕ → ℕ → Totals
taken_with t first place = record { entries = t.entries + 1; holders = t.holders + first; units = t.units + 1 + place; expired = t.expired }

abbrev pub untaken_with : Totals → ℕ → ℕ → Totals
untaken_with t gone place = record { entries = t.entries - 1; holders = t.holders - gone; units = t.units - 1 - place; expired = t.expired }

abbrev pub taken : Totals → Option ℕ → Totals
taken t opened = taken_with t (places_in opened) (units_in opened)

abbrev pub untaken : Totals → Option ℕ → Totals
untaken t closed = untaken_with t (places_in closed) (units_in closed)

abbrev pub expired_to : Totals → Sums → ℕ → Totals
expired_to t gone through =
    record { entries = t.entries - gone.entries; holders = t.holders - gone.holders; units = t.units - gone.units; expired = through }

-- so that no sum is too large and nothing is taken off that is not there
abbrev pub CanTakeWith : Totals → ℕ → ℕ → Type 0
CanTakeWith t first place = (t.entries ≤ 4_000_000) × (t.holders ≤ 64) × (t.units ≤ 4_000_000) × (first ≤ 1) × (place ≤ 4_096)

abbrev pub CanUntakeWith : Totals → ℕ → ℕ → Type 0
CanUntakeWith t gone place = (1 ≤ t.entries) × (gone ≤ t.holders) × (1 + place ≤ t.units)

abbrev pub CanTake : Totals → Option ℕ → Type 0
CanTake t opened = (t.entries ≤ 4_000_000) × (t.holders ≤ 64) × (t.units ≤ 4_000_000) × (units_in opened ≤ 4_096)

abbrev pub CanUntake : Totals → Option ℕ → Type 0
CanUntake t closed = (1 ≤ t.entries) × (places_in closed ≤ t.holders) × (1 + units_in closed ≤ t.units)

abbrev pub CanExpire : Totals → Sums → Type 0
CanExpire t gone = (gone.entries ≤ t.entries) × (gone.holders ≤ t.holders) × (gone.units ≤ t.units)
