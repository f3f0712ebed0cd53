use Rattle.numbers.proofs.Placing.{places_few}
use Rattle.numbers.proofs.Needed.{shares_few}
use Prim.Native.Nat.{ℕ, ◌+◌, ◌*◌}
use mathlib.Core.Path.{ap}
use native.Mathlib.Omega.{arith}
use Rattle.model.specs.Widths.{class_head}
use Rattle.numbers.proofs.starts.class_width.Goals as goal

pub place_width-requires : goal.place_width-requires
place_width-requires c = (shares_few c.args.b c.requires).pairs

pub overflow_mul-result : goal.overflow_mul-result
overflow_mul-result c = let k = places_few c.args.b.places _ (shares_few c.args.b c.requires).places c.place_width.ensures.1 in omega arith

pub overflow_add-result : goal.overflow_add-result
overflow_add-result c = let k = places_few c.args.b.places _ (shares_few c.args.b c.requires).places c.place_width.ensures.1 in omega arith

pub returns : goal.returns
returns c =
    let k = places_few c.args.b.places _ (shares_few c.args.b c.requires).places c.place_width.ensures.1 in
    (ap (λ (n : ℕ). class_head + c.args.b.places * n) c.place_width.ensures.0, omega arith)
