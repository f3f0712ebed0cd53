use Rattle.restoring.proofs.Registers.{raise_acts}
use Rattle.restoring.proofs.on_register.raise_floor.Goals as goal

pub returns : goal.returns
returns c =
    let on = c.args.on.now in
    let w = c.words.ensures in
    rw (w.start, w.end) (raise_acts on.s on.r on.at.below _ on.at c.args.run.now _ c.requires c.args.floor
    (λ u. rw (w.start, w.end) at c.raise_by.ensures.register_turns u))
