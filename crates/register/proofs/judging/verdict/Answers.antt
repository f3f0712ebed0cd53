use Rattle.register.specs.Rules.{asked_by}
use Rattle.register.proofs.HeadWords.{under_reads}
use Rattle.register.proofs.Verdicts.{duplicate_reads, late_reads, new_reads}
use Rattle.register.proofs.judging.verdict.Goals as goal

pub returns-then-held : goal.returns-then-held
returns-then-held c = duplicate_reads c.args.u (asked_by c.args.ask) _ _ _ c.bucket_of-bucket.ensures c.from.ensures _ c.holds_any_class-held.ensures c.if-held.true

pub returns-then-under-within : goal.returns-then-under-within
returns-then-under-within c =
    late_reads c.args.u (asked_by c.args.ask) _ _ _ c.bucket_of-bucket.ensures c.from.ensures _ c.holds_any_class-held.ensures _ _
    (under_reads _ _ c.args.ask.stamp _ (c.floor.ensures.register_reads c.args.u) c.is_under-under.ensures) _ c.window_for.ensures c.in_window-within.ensures c.if-held.false c.if-under-within.true

pub returns-else-under-within : goal.returns-else-under-within
returns-else-under-within c =
    new_reads c.args.u (asked_by c.args.ask) _ _ _ c.bucket_of-bucket.ensures c.from.ensures _ c.holds_any_class-held.ensures _ _
    (under_reads _ _ c.args.ask.stamp _ (c.floor.ensures.register_reads c.args.u) c.is_under-under.ensures) _ c.window_for.ensures c.in_window-within.ensures c.if-held.false c.if-under-within.false
