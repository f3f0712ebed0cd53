use native.Mathlib.Omega.{arith}
use mathlib.Core.Path.{sym, ◌∙◌}
use Rattle.model.proofs.Probing.{probe_held, probe_free, probe_out}
use Rattle.generation.proofs.Rounds.{range_on}
use Rattle.generation.proofs.slots.find_in.Goals as goal

pub returns-then-word-fp : goal.returns-then-word-fp
returns-then-word-fp c =
    let s = c.in-Some.ensures.steps in
    sym (c.loop-i.invariant.1 ∙ rw (← s.1.1) (probe_held _ _ _ _ (omega arith) c.if-word-fp.true))

pub returns-then-word-eq0 : goal.returns-then-word-eq0
returns-then-word-eq0 c =
    let s = c.in-Some.ensures.steps in
    sym (c.loop-i.invariant.1 ∙ rw (← s.1.1) (probe_free _ _ _ _ (omega arith) c.if-word-fp.false c.if-word-eq0.true))

pub loop-i-preserved : goal.loop-i-preserved
loop-i-preserved c =
    let s = c.in-Some.ensures.steps in
    let l = c.loop-i.invariant in (
      s.0 ∙ l.0,
      l.1 ∙ rw (s.0, s.1.2, ← s.1.1) (range_on _ _ _ _ (omega arith) (omega arith) c.if-word-fp.false c.if-word-eq0.false),
    )

pub returns : goal.returns
returns c = let s = c.in-None.ensures.steps in sym (c.loop-i.invariant.1 ∙ probe_out _ _ _ _ (omega arith))
