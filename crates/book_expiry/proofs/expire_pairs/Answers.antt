use Rattle.std.proofs.Common.{◌+◌, ◌*◌, ap, ◌∙◌, rules}
use Rattle.model.specs.Widths.{class_head, place_width}
use Rattle.book.specs.declared.totals.Totals.{Totals}
use Rattle.book_expiry.proofs.Ended.{kept_within, ends}
use Rattle.book_expiry.proofs.expire_pairs.Goals as goal

pub overflow_sub-gone : goal.overflow_sub-gone
overflow_sub-gone c =
    let s = c.args in
    (kept_within s.shares s.class s.t s.part.now c.requires _ _ c.expire_places-kept.ensures _ c.read-totals.ensures).0

pub overflow_sub-gone-3 : goal.overflow_sub-gone-3
overflow_sub-gone-3 c =
    let s = c.args in
    (kept_within s.shares s.class s.t s.part.now c.requires _ _ c.expire_places-kept.ensures _ c.read-totals.ensures).2

pub returns : goal.returns
returns c =
    let s = c.args in
    let e = c.place_start-end.ensures.0 ∙ ap (λ (z : Totals). class_head + z.holders * place_width s.shares.pairs) c.read-totals.ensures in
    rw c.write.ensures (ends s.shares s.class s.t s.part.now c.requires _ _ c.expire_places-kept.ensures _ _ c.place_start-start.ensures.0 e _
    (search rules) _ _ c.read-totals.ensures c.expire.ensures)
