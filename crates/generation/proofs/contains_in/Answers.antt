use Rattle.generation.proofs.Looking.{holds_reads}
use Rattle.generation.proofs.contains_in.Goals as goal

pub returns-then-part-bucket : goal.returns-then-part-bucket
returns-then-part-bucket c = holds_reads c.args.part.now _ _ _ c.if-part-bucket.true c.contains.ensures
