use Rattle.restoring.proofs.Shares.{share_asks, return_acts}
use Rattle.restoring.proofs.on_book.give_back.Goals as goal

pub class_extent-class-requires : goal.class_extent-class-requires
class_extent-class-requires c = c.requires.fit

pub untake-requires : goal.untake-requires
untake-requires c =
    let on = c.args.on.now in
    let class = c.class_extent-class.ensures in
    share_asks on.s on.r on.at.below c.args.h c.args.run.now c.requires _ _ class.start class.end

pub returns : goal.returns
returns c =
    let on = c.args.on.now in
    let class = c.class_extent-class.ensures in
    return_acts on.s on.r on.at.below c.args.h c.args.run.now c.requires _ _ class.start class.end _ c.untake.ensures
