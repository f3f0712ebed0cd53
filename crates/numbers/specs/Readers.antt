-- What six words say of a register, and four of the share book, wherever they stand.
use Rattle.std.specs.Prelude.{ℕ, List, get_or}
use Rattle.model.specs.declared.Shares.{Shares}
use Rattle.model.specs.declared.Usable.{Usable}

abbrev pub usable_said : List ℕ → Usable
usable_said ws = record {
  origin = record { behind = get_or ws 0 0; ahead = get_or ws 1 0 };
  copy = record { behind = get_or ws 2 0; ahead = get_or ws 3 0 };
  bucket = get_or ws 4 0;
  slots = get_or ws 5 0;
}

abbrev pub shares_said : List ℕ → Shares
shares_said ws = record { places = get_or ws 0 0; pairs = get_or ws 1 0; feeder = get_or ws 2 0; peer = get_or ws 3 0 }
