-- What places of a class add up to: of no places, and with one place more.
use Rattle.std.specs.Prelude.{ℕ, ◌+◌}
use Rattle.model.specs.declared.Deliverer.{Deliverer}
use Rattle.model.specs.declared.Shares.{Shares}
use Rattle.model.specs.Book.{place_units}
use Rattle.numbers.specs.declared.units.Sums.{Sums}

abbrev pub no_sums : Sums
no_sums = record { entries = 0; holders = 0; units = 0 }

abbrev pub with_place : Shares → Deliverer → ℕ → Sums → Sums
with_place b who entries s = record {
  entries = s.entries + entries;
  holders = s.holders + 1;
  units = s.units + entries + place_units b who;
}
