use Rattle.restoring.proofs.Shares.{share_asks, draw_acts}
use mathlib.Core.Path.{sym}
use Rattle.book.proofs.Entering.{not_granted}
use Rattle.taking.proofs.Draws.{limits_are_fit}
use Rattle.restoring.proofs.on_book.draw.Goals as goal

pub class_extent-class-requires : goal.class_extent-class-requires
class_extent-class-requires c = c.requires.0.fit

pub take-answer-requires : goal.take-answer-requires
take-answer-requires c =
    let on = c.args.on.now in
    let class = c.class_extent-class.ensures in (
      share_asks on.s on.r on.at.below c.args.h c.args.run.now c.requires.0 _ _ class.start class.end,
      limits_are_fit on.s c.args.run.now c.requires.0 _ (c.read-terms.ensures.reads on.s),
    )

pub returns-in-Granted : goal.returns-in-Granted
returns-in-Granted c =
    let on = c.args.on.now in
    let class = c.class_extent-class.ensures in
    draw_acts on.s on.r on.at.below c.args.h c.args.run.now c.requires.0 _ _ class.start class.end
    _ (c.read-terms.ensures.reads on.s) c.requires.1 _ _ _ c.take-answer.ensures (rw c.in-Granted.is)

pub returns-in_default : goal.returns-in_default
returns-in_default c =
    let on = c.args.on.now in
    let class = c.class_extent-class.ensures in
    draw_acts on.s on.r on.at.below c.args.h c.args.run.now c.requires.0 _ _ class.start class.end
    _ (c.read-terms.ensures.reads on.s) c.requires.1 _ _ _ c.take-answer.ensures (sym (not_granted _ c.in_default.not-Granted))
