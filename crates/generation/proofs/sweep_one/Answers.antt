use Rattle.generation.proofs.Dropping.{sweep_drops, sweep_leaves}
use Rattle.generation.proofs.sweep_one.Goals as goal

pub returns-then-part-through : goal.returns-then-part-through
returns-then-part-through c =
    let before = c.if-part-through.true in
    sweep_drops c.args.part.now _ _ _ before c.drop_all.ensures

pub returns-else-part-through : goal.returns-else-part-through
returns-else-part-through c = sweep_leaves c.args.part.now _ c.if-part-through.false
