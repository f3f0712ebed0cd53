use native.Mathlib.Omega.{arith}
use Rattle.book_expiry.proofs.Walked.{asks_expire, asks_with, place_goes, place_stays}
use Rattle.book_expiry.proofs.expire_place.Goals as goal

pub expire-requires : goal.expire-requires
expire-requires c =
    let s = c.args in
    asks_expire s.shares s.class s.t s.i s.kept s.part.now _ _ c.place_extent-here.ensures.start c.place_extent-here.ensures.end c.requires

pub returns-then-expire-eq0 : goal.returns-then-expire-eq0
returns-then-expire-eq0 c =
    let s = c.args in
    place_goes s.shares s.class s.t s.i s.kept s.part.now _ _ c.place_extent-here.ensures.start c.place_extent-here.ensures.end _ _
    c.expire.ensures c.if-expire-eq0.true

pub with_place-more-requires : goal.with_place-more-requires
with_place-more-requires c =
    let s = c.args in
    let g = c.requires in
    let x = asks_with s.shares s.class s.t s.i s.kept s.part.now _ _ c.place_extent-here.ensures.start c.place_extent-here.ensures.end _ _
    c.expire.ensures g in
    let e = g.entries in
    let u = g.units in
    (g.feeder, g.peer, x.1, omega arith, g.holders, omega arith)

pub returns : goal.returns
returns c =
    let s = c.args in
    place_stays s.shares s.class s.t s.i s.kept s.part.now _ _ c.place_extent-here.ensures.start c.place_extent-here.ensures.end _ _
    c.expire.ensures c.if-expire-eq0.false _ c.place_start-free.ensures.0 _ c.copy_within.ensures.after _ (c.with_place-more.ensures _)
