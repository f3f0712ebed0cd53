use Rattle.book_view.proofs.Viewed.{place_written}
use Rattle.book_view.proofs.put_place.Goals as goal

pub returns : goal.returns
returns c = search place_written
