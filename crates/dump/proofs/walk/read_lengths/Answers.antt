-- Three classes one after the other: the dump is cut short exactly when one of them ends past the words (proofs/Passing).
use Rattle.dump.proofs.Passing.{cut_feeders, cut_peers, cut_own, lengths_read}
use Rattle.dump.proofs.Walks.{cut, whole}
use mathlib.Core.Path.{◌∙◌}
use Rattle.dump.proofs.walk.read_lengths.Goals as goal

pub returns-in_err-pass_class : goal.returns-in_err-pass_class
returns-in_err-pass_class c =
    let bs = c.args.bytes.now in
    rw c.from_residual.ensures (cut bs (cut_feeders bs c.in_err-pass_class.ensures.passes.is))

pub returns-in_err-pass_class-2 : goal.returns-in_err-pass_class-2
returns-in_err-pass_class-2 c =
    let bs = c.args.bytes.now in
    let feeders = c.in_ok-pass_class.ensures in
    let peers = rw feeders.same_bytes at c.in_err-pass_class-2.ensures.passes in
    rw c.from_residual-in_err-pass_class-2.ensures (cut bs (cut_peers bs _ feeders.passes.is.0 peers.is))

pub returns-in_err-pass_class-3 : goal.returns-in_err-pass_class-3
returns-in_err-pass_class-3 c =
    let bs = c.args.bytes.now in
    let feeders = c.in_ok-pass_class.ensures in
    let peers = rw feeders.same_bytes at c.in_ok-pass_class-2.ensures.passes in
    let same = c.in_ok-pass_class-2.ensures.same_bytes ∙ feeders.same_bytes in
    let own = rw same at c.in_err-pass_class-3.ensures.passes in
    rw c.from_residual-in_err-pass_class-3.ensures (cut bs (cut_own bs _ feeders.passes.is.0 _ peers.is.0 own.is))

pub invariant_of-result : goal.invariant_of-result
invariant_of-result c =
    let bs = c.args.bytes.now in
    let feeders = c.in_ok-pass_class.ensures in
    let peers = rw feeders.same_bytes at c.in_ok-pass_class-2.ensures.passes in
    let same = c.in_ok-pass_class-2.ensures.same_bytes ∙ feeders.same_bytes in
    let own = rw same at c.in_ok-pass_class-3.ensures.passes in
    record { whole = whole bs _ (lengths_read bs _ feeders.passes.is.0 _ peers.is.0 _ own.is.0 (rw own.is.0 own.is.1)) }
