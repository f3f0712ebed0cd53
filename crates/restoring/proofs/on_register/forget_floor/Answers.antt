use Rattle.restoring.proofs.Registers.{forget_acts}
use Rattle.restoring.proofs.on_register.forget_floor.Goals as goal

pub returns : goal.returns
returns c =
    let on = c.args.on.now in
    let w = c.words.ensures in
    rw (w.start, w.end) (forget_acts on.s on.r on.at.below _ on.at c.args.run.now _ c.requires
    (λ u. rw (w.start, w.end) at c.forget_floor.ensures.register_turns u))
