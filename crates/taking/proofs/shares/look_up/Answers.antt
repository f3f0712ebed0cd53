use mathlib.Core.Path.{◌∙◌, ap}
use Rattle.model.specs.Class.{class_of}
use Rattle.model.specs.Words.{class_start}
use Rattle.model.specs.declared.Class.{Class}
use Rattle.taking.proofs.InRun.{class_asks}
use Rattle.taking.proofs.Draws.{limits_are_fit, look_reads}
use Rattle.taking.proofs.shares.look_up.Goals as goal

pub class_extent-class-requires : goal.class_extent-class-requires
class_extent-class-requires c = c.requires.fit

pub look-requires : goal.look-requires
look-requires c =
    let class = c.class_extent-class.ensures in
    let start = class.start ∙ ap (λ (z : Class). class_start c.args.on.now.s z) c.class.ensures in (
      class_asks c.args.on.now.s (class_of c.args.ticket.who) _ _ start class.end c.args.run.now c.requires,
      limits_are_fit c.args.on.now.s c.args.run.now c.requires _ (c.read-terms.ensures.reads c.args.on.now.s),
    )

pub returns : goal.returns
returns c =
    let class = c.class_extent-class.ensures in
    let start = class.start ∙ ap (λ (z : Class). class_start c.args.on.now.s z) c.class.ensures in
    look_reads c.args.on.now.s c.args.ticket c.args.run.now c.requires _ (c.read-terms.ensures.reads c.args.on.now.s) _ _ start class.end _ c.look.ensures
