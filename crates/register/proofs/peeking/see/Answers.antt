use Rattle.register.proofs.Foreseen.{seen_few, seen_still, seen_on}
use Rattle.register.proofs.peeking.see.Goals as goal

pub returns-then-through-swept : goal.returns-then-through-swept
returns-then-through-swept c =
    let t = seen_still c.args.u c.args.reading.0 c.args.part.now _ c.through_of-through.ensures _ c.floor-floor.ensures.register_reads _
    c.is_pending.ensures.register_reads c.if-through-swept.either in
    (seen_few c.args.u c.args.reading.0 _ _ c.requires t, t)

pub returns-else-through-swept : goal.returns-else-through-swept
returns-else-through-swept c =
    let on = c.if-through-swept.false in
    let rings = c.of-rings in
    let seen = rw rings.ensures at c.see_rings.ensures in
    let from = rw (rings.result.sizes.ring, rings.ensures) at c.sweep_from.ensures in
    let t = seen_on c.args.u c.args.reading.0 c.args.part.now _ c.through_of-through.ensures _ c.floor-floor.ensures.register_reads _ c.is_pending.ensures.register_reads
    on.0 on.1 _ from _ seen in
    (seen_few c.args.u c.args.reading.0 _ _ c.requires t, t)
