use mathlib.Core.Path.{◌∙◌}
use Rattle.model.specs.Dump.{words_of}
use Rattle.dump.specs.Walk.{dump_at}
use Rattle.restoring.proofs.Dumps.{dump_acts}
use Rattle.restoring.proofs.restore_dump.Goals as goal

pub returns : goal.returns
returns c =
    let floor = c.told_floor.ensures in
    let feeders = c.restore_class-feeders.ensures in
    let peers = c.restore_class-peers.ensures in
    let own = c.restore_class.ensures in
    let at-peers = rw (floor.same_bytes, floor.next) at feeders.next in
    let same-peers = feeders.same_bytes ∙ floor.same_bytes in
    let at-own = rw (same-peers, at-peers) at peers.next in
    let same-own = peers.same_bytes ∙ same-peers in (
      own.acts.0,
      dump_acts c.args.on.now.s c.args.on.now.r (dump_at (words_of c.args.dump.now.bytes.now)) c.args.run.now _ _ _ _ _ _ _
          (rw floor.value at c.raise_floor.ensures.1) (rw (floor.same_bytes, floor.next) at feeders.acts.1) (rw (same-peers, at-peers) at peers.acts.1)
          (rw (same-own, at-own) at own.acts.1),
    )
