use Rattle.seeking.proofs.Trying.{edges_told}
use Rattle.seeking.proofs.tries.of_edges.Goals as goal

pub returns : goal.returns
returns c = search edges_told
