-- The settings that the program runs with: three places of three pairs, a Feeder's place at 5 units, a Restored one's at 2.
use Rattle.model.specs.declared.Shares.{Shares}

abbrev pub fixed : Shares
fixed = record { places = 3; pairs = 3; feeder = 5; peer = 2 }
