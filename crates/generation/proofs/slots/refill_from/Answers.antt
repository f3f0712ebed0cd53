use native.Mathlib.Omega.{arith}
use mathlib.Core.Path.{refl, sym, ◌∙◌}
use Rattle.generation.proofs.Putting.{refill_on, refill_end}
use Rattle.generation.proofs.slots.refill_from.Goals as goal

pub loop-word-init : goal.loop-word-init
loop-word-init c = (refl, refl)

pub loop-word-preserved : goal.loop-word-preserved
loop-word-preserved c =
    let l = c.loop-word in
    let old = c.args.old.now in
    let p = c.put_again in
    (p.auto.slots ∙ l.invariant.0, rw p.ensures (sym (refill_on old l.slots l.word-index (omega arith)) ∙ l.invariant.1))

pub returns : goal.returns
returns c =
    let l = c.loop-word in
    sym (refill_end c.args.old.now l.slots l.word-index (omega arith)) ∙ l.invariant.1
