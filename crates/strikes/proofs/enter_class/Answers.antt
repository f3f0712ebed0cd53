use Rattle.strikes.proofs.Entering.{class_exit, class_there}
use Rattle.strikes.proofs.enter_class.Goals as goal

pub returns-in_err-vetted : goal.returns-in_err-vetted
returns-in_err-vetted c = class_exit _ _ _ _ _ c.from_residual.ensures.1 c.in_err-vetted.ensures

pub returns : goal.returns
returns c =
    let class = c.class_extent-words.ensures in
    class_there c.in_ok-vetted.ensures c.args.class _ _ class.start class.end class.within
