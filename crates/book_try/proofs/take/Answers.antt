use Rattle.book_try.proofs.Kept.{take_asks, take_keeps}
use Rattle.book_try.proofs.take.Goals as goal

pub take-requires : goal.take-requires
take-requires g c = let s = c.args in take_asks s.id s.second s.words.now c.requires.0

pub returns : goal.returns
returns g c =
    let s = c.args in
    let pre = c.requires in
    let take = c.take in
    take_keeps s.id s.second s.words.now pre.0 pre.1 _ _ take.ensures
