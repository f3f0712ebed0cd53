use Rattle.numbers.proofs.Placing.{needed_few}
use Rattle.model.proofs.Bounds.{fit_shares}
use native.Mathlib.Omega.{arith}
use Rattle.numbers.proofs.starts.class_extent.Goals as goal

pub class_width-requires : goal.class_width-requires
class_width-requires c = fit_shares c.args.s c.requires

pub overflow_add-result : goal.overflow_add-result
overflow_add-result c =
    let b = c.class_start-start.ensures.1 in
    let w = c.class_width.ensures.0 in
    let m = needed_few c.args.s c.requires in
    omega (arith, b, w, m)
