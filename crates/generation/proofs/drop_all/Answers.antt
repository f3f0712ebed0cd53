use Rattle.generation.proofs.Dropping.{drops_nothing, drops_all}
use Rattle.generation.proofs.drop_all.Goals as goal

pub returns-then-head-eq0 : goal.returns-then-head-eq0
returns-then-head-eq0 c = drops_nothing c.args.part.now _ c.of-head.ensures c.if-head-eq0.true

pub returns : goal.returns
returns c =
    let h = c.of-head in
    let some = c.if-head-eq0.false in
    let at = c.live.ensures in
    let cleared = rw (at.start, at.end) at (c.fill.ensures.after (λ y e. e)) in
    let o = c.open.ensures in
    rw (c.lead.ensures, at.start, at.end)
    (drops_all c.args.part.now h.result h.ensures some _ cleared _ (rw o))
