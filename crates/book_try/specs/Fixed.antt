-- The settings that the program runs with: four places of two pairs, a Feeder's place at 1 unit, and limits of 12.
use Rattle.model.specs.declared.Shares.{Shares}
use Rattle.model.specs.declared.Limits.{Limits}

abbrev pub fixed : Shares
fixed = record { places = 4; pairs = 2; feeder = 1; peer = 2 }

abbrev pub twelve : Limits
twelve = record { feeder = 12; feeders = 12; peer = 12; peers = 12; relay = 12 }
