use Rattle.book_view.proofs.Viewed.{stranger_counted, here_inside, here_wide, here_counted}
use Rattle.book_view.proofs.view_length.Goals as goal

pub returns-in_default : goal.returns-in_default
returns-in_default c = stranger_counted c.args.who c.requires c.in_default.ensures

pub slice_bounds-place_length-end : goal.slice_bounds-place_length-end
slice_bounds-place_length-end c =
    here_inside c.args.who c.requires c.in-Some.ensures c.place_extent.ensures.start c.place_extent.ensures.end

pub place_length-requires : goal.place_length-requires
place_length-requires c =
    here_wide c.args.who c.requires c.in-Some.ensures c.place_extent.ensures.start c.place_extent.ensures.end

pub returns : goal.returns
returns c =
    here_counted c.args.who c.requires c.in-Some.ensures c.place_extent.ensures.start c.place_extent.ensures.end c.place_length.ensures
