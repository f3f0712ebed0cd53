use Rattle.book_view.proofs.Viewed.{stranger_viewed, here_inside, here_wide, here_fits, here_viewed}
use Rattle.book_view.proofs.view.Goals as goal

pub returns-in_default : goal.returns-in_default
returns-in_default c = stranger_viewed c.args.who c.requires.0 c.in_default.ensures c.requires.1

pub slice_bounds-put_place-end : goal.slice_bounds-put_place-end
slice_bounds-put_place-end c =
    here_inside c.args.who c.requires.0 c.in-Some.ensures c.place_extent.ensures.start c.place_extent.ensures.end

pub put_place-requires : goal.put_place-requires
put_place-requires c = (
  here_wide c.args.who c.requires.0 c.in-Some.ensures c.place_extent.ensures.start c.place_extent.ensures.end,
  here_fits c.args.who c.requires.0 c.in-Some.ensures c.place_extent.ensures.start c.place_extent.ensures.end c.requires.1,
)

pub returns : goal.returns
returns c =
    here_viewed c.args.who c.requires.0 c.in-Some.ensures c.place_extent.ensures.start c.place_extent.ensures.end c.put_place.ensures
