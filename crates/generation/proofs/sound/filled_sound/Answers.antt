use Rattle.generation.proofs.Doubling.{three_quarters}
use Rattle.generation.proofs.sound.filled_sound.Goals as goal

pub returns : goal.returns
returns c = let h = c.args.head in rw (c.is_power_of_two-power.ensures, three_quarters h.held h.slots)
