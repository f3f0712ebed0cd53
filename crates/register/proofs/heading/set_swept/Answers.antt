use Prim.Native.Nat.{ℕ}
use mathlib.Core.Path.{ap}
use lib.ListN.{set, length-set}
use Rattle.numbers.specs.Layout.{swept_at, published_at}
use native.Mathlib.Omega.{arith}
use Rattle.register.proofs.HeadWords.{sweep_turns}
use Rattle.register.proofs.heading.set_swept.Goals as goal

pub bounds-part-7 : goal.bounds-part-7
bounds-part-7 c = let h = c.requires in let k = length-set c.args.part.now 6 c.args.swept.0 in omega arith

pub returns : goal.returns
returns c =
    let a = c.args in
    let e = ap (λ (p : ℕ). set (set a.part.now swept_at a.swept.0) published_at p) c.published-published.ensures in
    record { part_after = e; register_turns = sweep_turns a.u a.swept.0 a.part.now _ e }
