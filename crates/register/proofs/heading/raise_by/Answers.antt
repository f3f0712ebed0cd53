use Rattle.register.proofs.HeadWords.{by_newest, by_turns}
use Rattle.register.proofs.heading.raise_by.Goals as goal

pub returns-in-Some-clause-register_turns : goal.returns-in-Some-clause-register_turns
returns-in-Some-clause-register_turns c =
    let a = c.args in
    let e = by_newest a.went a.part.now _ _ c.in-Some.is c.raise_floor.ensures.part_after in
    λ u. by_turns a.went a.part.now u _ e
