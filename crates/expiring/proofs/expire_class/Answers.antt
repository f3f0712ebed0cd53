use Rattle.expiring.proofs.Passing.{class_done}
use Rattle.taking.proofs.InRun.{class_asks}
use Rattle.expiring.proofs.expire_class.Goals as goal

pub class_extent-requires : goal.class_extent-requires
class_extent-requires c = c.requires.0.fit

pub expire-requires : goal.expire-requires
expire-requires c =
    let class = c.class_extent.ensures in
    (class_asks c.args.s c.args.class _ _ class.start class.end c.args.run.now c.requires.0, c.requires.1)

pub returns : goal.returns
returns c =
    let class = c.class_extent.ensures in
    class_done c.args.s c.args.class _ _ class.start class.end c.args.run.now _ c.args.t.0 c.requires.1 c.requires.0 c.expire.ensures
