use native.Mathlib.Omega.{arith}
use Rattle.register.proofs.Sweeps.{sweep_idle, sweep_same, sweep_back, sweep_on, swept_words}
use Rattle.register.proofs.sweeping.sweep.Goals as goal

pub returns-then-is_pending : goal.returns-then-is_pending
returns-then-is_pending c =
    let t = sweep_idle c.args.u c.args.reading.0 _ _ (c.is_pending.ensures.register_reads c.args.u) c.if-is_pending.true in
    (swept_words c.args.u c.args.reading.0 _ _ t c.requires, t)

pub returns-else-swept-through : goal.returns-else-swept-through
returns-else-swept-through c =
    let t = sweep_same c.args.u c.args.reading.0 c.args.part.now _ _ (c.is_pending.ensures.register_reads c.args.u) c.if-is_pending.false
    c.through_of-through.ensures (omega arith) in
    (swept_words c.args.u c.args.reading.0 _ _ t c.requires, t)

pub returns-then-through-swept : goal.returns-then-through-swept
returns-then-through-swept c =
    let t = sweep_back c.args.u c.args.reading.0 c.args.part.now _ _ _ (c.is_pending.ensures.register_reads c.args.u) c.if-is_pending.false
    c.through_of-through.ensures (omega arith) c.set_swept.ensures.register_turns in
    (swept_words c.args.u c.args.reading.0 _ _ t c.requires, t)

pub returns-then-swept-through : goal.returns-then-swept-through
returns-then-swept-through c =
    let rings = c.of-rings in
    let turns = rw rings.ensures at c.sweep_rings.ensures in
    let from = rw (rings.result.sizes.ring, rings.ensures) at c.sweep_from.ensures in
    let t = sweep_on c.args.u c.args.reading.0 c.args.part.now _ _ _ _ (c.is_pending.ensures.register_reads c.args.u) c.if-is_pending.false
    c.through_of-through.ensures c.if-swept-through.true from turns in
    (swept_words c.args.u c.args.reading.0 _ _ t c.requires, t)
