use mathlib.Core.Path.{sym, ◌∙◌}
use lib.ListN.{length-set}
use native.Mathlib.Omega.{arith}
use Rattle.register.proofs.HeadWords.{raise_stays, raise_moves, raise_turns}
use Rattle.register.proofs.heading.raise_floor.Goals as goal

pub returns-else-not-is_under : goal.returns-else-not-is_under
returns-else-not-is_under c =
    let a = c.args in
    let e = raise_stays a.stamp a.part.now (sym (rw c.floor.ensures.value at c.is_under.ensures) ∙ c.if-not-is_under.false) in
    record { part_after = e; register_turns = λ u. raise_turns a.stamp a.part.now u _ e }

pub bounds-part-9 : goal.bounds-part-9
bounds-part-9 c = let h = c.requires in let k = length-set c.args.part.now 8 1 in omega arith

pub returns-then-not-is_under : goal.returns-then-not-is_under
returns-then-not-is_under c =
    let a = c.args in
    let e = raise_moves a.stamp a.part.now (sym (rw c.floor.ensures.value at c.is_under.ensures) ∙ c.if-not-is_under.true) in
    record { part_after = e; register_turns = λ u. raise_turns a.stamp a.part.now u _ e }
