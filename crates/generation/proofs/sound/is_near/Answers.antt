use Prim.Native.Nat.{◌+◌, ◌-◌}
use native.Mathlib.Omega.{arith}
use native.Mathlib.Nat.{mod-lt}
use mathlib.Core.Path.{◌≡◌}
use lib.ListN.{length}
use Rattle.model.proofs.Probing.{next<}
use Rattle.model.specs.Generation.{next}
use Rattle.generation.proofs.Reaching.{ends_here, ends_other, goes_on, ends_short}
use Rattle.generation.proofs.sound.is_near.Goals as goal

pub loop-init : goal.loop-init
loop-init c =
    let all : c.args.steps - 0 ≡ c.args.steps = omega arith in
    let e = c.masked_slot-j.ensures in
    (rw e (mod-lt _ (omega arith)), rw (all, e))

pub returns-then-j-i : goal.returns-then-j-i
returns-then-j-i c =
    let l = c.loop in
    let some = c.if-word-eq0.false in
    ends_here _ _ _ _ some _ l.j l.invariant.1 (omega arith) c.if-j-i.true c.requires.1.0

pub returns-then-other-word : goal.returns-then-other-word
returns-then-other-word c =
    let l = c.loop in
    let some = c.if-word-eq0.false in
    ends_other _ _ _ _ some _ l.j l.invariant.1 (omega arith) c.if-j-i.false c.if-other-word.true

pub loop-preserved : goal.loop-preserved
loop-preserved c =
    let l = c.loop in
    let n = length c.args.slots.now in
    let steps = c.args.steps in
    let one : steps - (l.counter + 1) ≡ steps - l.counter - 1 = omega arith in
    let e : c.next_slot-j.result ≡ next n l.j = c.next_slot-j.ensures in
    let some = c.if-word-eq0.false in
    let on = goes_on _ c.args.i _ _ some _ l.j l.invariant.1 (omega arith) c.if-other-word.false in
    (rw e (next< n l.j l.invariant.0), rw (one, e) on)

pub returns : goal.returns
returns c =
    let l = c.loop in
    let some = c.if-word-eq0.false in
    ends_short _ _ _ _ some _ l.j l.invariant.1 (omega arith)
