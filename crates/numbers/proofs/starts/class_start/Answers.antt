use Rattle.numbers.proofs.Placing.{product_few, class_within}
use Rattle.model.specs.Most.{class_most}
use Rattle.model.proofs.Bounds.{fit_shares}
use native.Mathlib.Omega.{arith}
use Rattle.numbers.proofs.starts.class_start.Goals as goal

pub class_width-requires : goal.class_width-requires
class_width-requires c = fit_shares c.args.s c.requires

pub overflow_mul-result : goal.overflow_mul-result
overflow_mul-result c = let k = product_few c.args.class _ _ class_most c.from.ensures c.class_width.ensures.1 in omega arith

pub overflow_add-result : goal.overflow_add-result
overflow_add-result c = let k = product_few c.args.class _ _ class_most c.from.ensures c.class_width.ensures.1 in omega arith

pub returns : goal.returns
returns c =
    let s = c.args in
    (rw (c.from.ensures, c.class_width.ensures.0), rw (c.from.ensures, c.class_width.ensures.0) (class_within s.s s.class))
