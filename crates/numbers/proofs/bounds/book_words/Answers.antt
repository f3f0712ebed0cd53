use Rattle.numbers.proofs.Needed.{shares_few, book_some}
use native.Mathlib.Omega.{arith}
use Rattle.numbers.proofs.bounds.book_words.Goals as goal

pub place_width-requires : goal.place_width-requires
place_width-requires c = (shares_few c.args.b c.requires).pairs

pub overflow_mul-result : goal.overflow_mul-result
overflow_mul-result c = let k = shares_few c.args.b c.requires in omega arith

pub overflow_mul-result-2 : goal.overflow_mul-result-2
overflow_mul-result-2 c = let w = (book_some c.args.b c.requires _ c.place_width.ensures.0).1 in omega arith

pub returns : goal.returns
returns c = book_some c.args.b c.requires _ c.place_width.ensures.0
