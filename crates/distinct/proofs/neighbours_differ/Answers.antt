use Rattle.std.proofs.Common.{rules}
use Rattle.distinct.proofs.Telling.{windows_told}
use Rattle.distinct.proofs.neighbours_differ.Goals as goal

pub returns : goal.returns
returns c =
    let run = c.all.ensures.runs.0 in
    windows_told run c.args.words.now (search rules) _ (search rules)
