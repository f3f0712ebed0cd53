use Rattle.model.proofs.Words.{registers≤4}
use Rattle.numbers.proofs.Placing.{needed_few, register_placed}
use Rattle.model.proofs.Bounds.{fit_usable}
use native.Mathlib.Omega.{arith}
use mathlib.Core.Path.{refl}
use Rattle.numbers.proofs.starts.register_extent.Goals as goal

pub offset_bounds-s-r : goal.offset_bounds-s-r
offset_bounds-s-r c = let k = registers≤4 c.args.s c.requires.0 in let h = c.requires.1 in omega (arith, k)

pub bounds-s-r : goal.bounds-s-r
bounds-s-r c = let k = registers≤4 c.args.s c.requires.0 in let h = c.requires.1 in omega (arith, k)

pub register_width-requires : goal.register_width-requires
register_width-requires c = fit_usable c.args.s c.args.r c.requires.0 c.requires.1

pub overflow_add-result : goal.overflow_add-result
overflow_add-result c =
    let b = c.register_start-start.ensures.1 in
    let w = c.register_width.ensures.0 in
    let m = needed_few c.args.s c.requires.0 in
    omega (arith, b, w, m)

pub returns : goal.returns
returns c =
    register_placed c.args.s c.args.r _ _ _ c.requires.0 c.requires.1 refl c.register_start-start.ensures.0
    c.register_start-start.ensures.1 c.register_width.ensures.0
