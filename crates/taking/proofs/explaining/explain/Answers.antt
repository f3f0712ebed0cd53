use Rattle.taking.proofs.Explains.{seen_explains}
use Rattle.taking.proofs.explaining.explain.Goals as goal

pub returns : goal.returns
returns c = search seen_explains
