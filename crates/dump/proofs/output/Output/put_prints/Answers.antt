use lib.ListN.{get_or, drop}
use mathlib.Core.List.{[], ◌∷◌}
use mathlib.Core.Path.{refl, ◌∙◌}
use native.Mathlib.Omega.{arith}
use Prim.Native.Nat.{◌+◌}
use Rattle.model.specs.Dump.{fingerprints}
use Rattle.runs.proofs.Over.{writes_start}
use Rattle.dump.proofs.Writing.{first_fits, first_on, none_left, prints_held, prints_empty, prints_end}
use Rattle.dump.proofs.output.Output.put_prints.Goals.{then-slot-ne0, else-slot-ne0}
use Rattle.dump.proofs.output.Output.put_prints.Goals as goal

pub loop-slot-init : goal.loop-slot-init
loop-slot-init g c = record { same = refl; writes = writes_start c.requires }

pub put-requires : goal.put-requires
put-requires g c =
    let ws = c.args.slots.now in
    let i = c.loop-slot.slot-index in
    first_fits (get_or ws i 0 ∷ []) (fingerprints (drop (i + 1) ws)) (prints_held ws i (omega arith) c.if-slot-ne0.true) c.loop-slot.invariant.writes

pub loop-slot-preserved : goal.loop-slot-preserved
loop-slot-preserved g c =
    let ws = c.args.slots.now in
    let i = c.loop-slot.slot-index in
    let before = c.loop-slot.invariant in
    elim c.if-slot-ne0.branch [
      | then-slot-ne0 w ↦
          rw w.self-is (record {
            same = w.put.ensures.same ∙ before.same;
            writes = first_on (get_or ws i 0 ∷ []) (fingerprints (drop (i + 1) ws)) (prints_held ws i c.loop-slot-test.true w.if-slot-ne0.true) before.writes
                g.met.E.Element.encoded_long w.put.ensures.puts;
          })
      | else-slot-ne0 w ↦
          rw w.self-is (record { same = before.same; writes = rw (prints_empty ws i c.loop-slot-test.true w.if-slot-ne0.false) at before.writes })
    ]

pub returns-clause-puts : goal.returns-clause-puts
returns-clause-puts g c = none_left (prints_end c.args.slots.now c.loop-slot.slot-index (omega arith)) c.loop-slot.invariant.writes
