use Rattle.std.proofs.Common.{◌∙◌, rules}
use Rattle.std.proofs.lemmas.Iterator.Search.{position_from_yields_List}
use Rattle.book.proofs.Finding.{named, used_chunks, place_says}
use Rattle.book.proofs.find_place.Goals as goal

pub returns : goal.returns
returns c =
    let s = c.args in
    let cut = c.chunks_exact.ensures in
    place_says s.shares s.who s.part.now c.requires _
    (position_from_yields_List (named s.who) _ _ _ c.position.ensures.ran
    (used_chunks s.shares s.who s.part.now c.requires _ c.place_start-used.ensures.0 _ (cut.size ∙ c.place_width.ensures.0) cut.rest) (λ x r q k. search rules))
