use Rattle.seeking.proofs.Trying.{around_told}
use Rattle.seeking.proofs.tries.of_bucket.Goals as goal

pub returns : goal.returns
returns c = search around_told
