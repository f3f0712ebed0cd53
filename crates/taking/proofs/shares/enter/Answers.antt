use mathlib.Core.Path.{◌∙◌, ap}
use Rattle.model.specs.Words.{class_start}
use Rattle.model.specs.declared.Class.{Class}
use Rattle.taking.proofs.Draws.{enter_asks, enter_turns, enter_words}
use Rattle.taking.proofs.shares.enter.Goals as goal

pub class_extent-class-requires : goal.class_extent-class-requires
class_extent-class-requires c = c.requires.0.fit

pub enter-requires : goal.enter-requires
enter-requires c =
    let class = c.class_extent-class.ensures in
    let start = class.start ∙ ap (λ (z : Class). class_start c.args.on.now.s z) c.class.ensures in
    enter_asks c.args.on.now.s c.args.ticket c.args.run.now c.requires.0 c.args.spot c.requires.1 _ _ start class.end

pub returns : goal.returns
returns c =
    let class = c.class_extent-class.ensures in
    let start = class.start ∙ ap (λ (z : Class). class_start c.args.on.now.s z) c.class.ensures in
    let t = enter_turns c.args.on.now.s c.args.ticket c.args.run.now c.requires.0 c.args.spot c.requires.1 _ _ start class.end _ c.enter.ensures in
    (enter_words c.args.on.now.s c.args.ticket c.args.run.now c.requires.0 c.args.spot c.requires.1 _ t, t)
