use Rattle.generation.proofs.Dropping.{bucket_drops}
use Rattle.generation.proofs.drop_in.Goals as goal

pub returns-then-part-bucket : goal.returns-then-part-bucket
returns-then-part-bucket c =
    let same = c.if-part-bucket.true in
    bucket_drops c.args.part.now _ _ _ same c.drop_all.ensures
