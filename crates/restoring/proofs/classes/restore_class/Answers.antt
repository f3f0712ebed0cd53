use native.Mathlib.Omega.{arith}
use mathlib.Core.Path.{◌∙◌}
use Rattle.restoring.proofs.Dumps.{walking_start, walking_inside, walking_next, walking_end}
use Rattle.restoring.proofs.classes.restore_class.Goals as goal

pub loop-generation-init : goal.loop-generation-init
loop-generation-init c =
    let from = c.args.reader.now in
    let count = c.word-generation-end.ensures in
    let n = count.value in
    record {
      bytes = count.same_bytes;
      walking =
          rw count.next
          (walking_start c.args.on.now.s c.args.on.now.r c.args.class from.bytes.now from.at c.args.before c.args.run.now _ c.requires.0 c.requires.1 (omega arith));
    }

pub restore_at-whole-requires : goal.restore_at-whole-requires
restore_at-whole-requires c =
    let i = c.loop-generation in
    let from = c.args.reader.now in
    let k = c.loop-generation-test.true in (
      i.invariant.walking.words,
      rw i.invariant.bytes
          (walking_inside c.args.on.now.s c.args.on.now.r c.args.class from.bytes.now from.at c.args.before c.args.run.now _ _ _ _ i.invariant.walking (omega arith)),
    )

pub loop-generation-preserved : goal.loop-generation-preserved
loop-generation-preserved c =
    let i = c.loop-generation in
    let from = c.args.reader.now in
    let k = c.loop-generation-test.true in
    let one = c.restore_at-whole.ensures in
    let acts = rw i.invariant.bytes at one.acts in
    record {
      bytes = one.same_bytes ∙ i.invariant.bytes;
      walking =
          walking_next c.args.on.now.s c.args.on.now.r c.args.class from.bytes.now from.at c.args.before c.args.run.now _ _ i.here.at _ _ _ _
          i.invariant.walking (omega arith) (rw i.invariant.bytes at one.next) acts.0 acts.1 _ (omega arith);
    }

pub returns-clause-acts : goal.returns-clause-acts
returns-clause-acts c =
    let i = c.loop-generation in
    let from = c.args.reader.now in (
      i.invariant.walking.words,
      (walking_end c.args.on.now.s c.args.on.now.r c.args.class from.bytes.now from.at c.args.before c.args.run.now _ i.here.at _ _ i.invariant.walking (omega arith)).1,
    )

pub returns-clause-next : goal.returns-clause-next
returns-clause-next c =
    let i = c.loop-generation in
    let from = c.args.reader.now in
    (walking_end c.args.on.now.s c.args.on.now.r c.args.class from.bytes.now from.at c.args.before c.args.run.now _ i.here.at _ _ i.invariant.walking (omega arith)).0
