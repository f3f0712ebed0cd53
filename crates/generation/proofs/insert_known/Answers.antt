use Rattle.generation.proofs.Inserting.{inserts}
use Rattle.generation.proofs.insert_known.Goals as goal

pub returns : goal.returns
returns c =
    let p = c.requires in
    inserts _ _ _ _ _ _ _ p.0 p.1.1 c.grow.ensures.1 c.enter.ensures
