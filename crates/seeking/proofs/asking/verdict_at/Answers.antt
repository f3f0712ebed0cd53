use Rattle.seeking.proofs.Trying.{verdict_told}
use Rattle.seeking.proofs.asking.verdict_at.Goals as goal

pub returns : goal.returns
returns c = search verdict_told
