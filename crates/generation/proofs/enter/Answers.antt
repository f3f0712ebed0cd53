use Rattle.generation.proofs.Inserting.{enters}
use Rattle.generation.proofs.enter.Goals as goal

pub returns : goal.returns
returns c =
    let at = c.live.ensures in
    let puts = rw (at.start, at.end) at c.put-added.ensures in
    let led = rw (at.start, at.end) at c.lead.ensures in
    search enters
