use Rattle.book_try.proofs.Kept.{asks, untake_keeps}
use Rattle.book_try.proofs.untake.Goals as goal

pub untake-requires : goal.untake-requires
untake-requires c = let s = c.args in asks s.id s.second s.words.now c.requires

pub returns : goal.returns
returns c =
    let s = c.args in
    let pre = c.requires in
    let untake = c.untake in
    untake_keeps s.id s.second s.words.now pre _ untake.ensures
