use Rattle.std.proofs.Common.{rules}
use Rattle.register.proofs.HeadWords.{under_floor}
use Rattle.register.proofs.heading.is_under.Goals as goal

pub returns : goal.returns
returns c = under_floor c.args.floor c.args.stamp _ (search rules)
