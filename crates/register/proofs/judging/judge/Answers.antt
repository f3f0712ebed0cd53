use mathlib.Core.Path.{◌≡◌, sym, ◌∙◌}
use mathlib.Core.Bool.{true, false, not, ◌||◌}
use Rattle.runs.proofs.Cases.{no}
use Rattle.register.specs.Rules.{asked_by}
use Rattle.register.proofs.Verdicts.{unjudged_turns, judged_turns, judged_words}
use Rattle.register.proofs.judging.judge.Goals as goal
use Rattle.register.proofs.judging.judge.Goals.{then-is_pending, else-is_pending}

pub returns-then-not-ask : goal.returns-then-not-ask
returns-then-not-ask c =
    let e : (c.is_pending.result || not c.args.ask.judging) ≡ true = elim c.if-is_pending.branch [
      | then-is_pending w ↦ rw w.if-is_pending.true
      | else-is_pending w ↦ rw (w.if-is_pending.false, sym w.value-is ∙ c.if-not-ask.true)
    ] in
    let t = unjudged_turns c.args.u (asked_by c.args.ask) _ _ (c.is_pending.ensures.register_reads c.args.u) e in
    (judged_words c.args.u (asked_by c.args.ask) _ _ _ t c.requires, t)

pub returns-else-not-ask : goal.returns-else-not-ask
returns-else-not-ask c =
    let e : (c.is_pending.result || not c.args.ask.judging) ≡ false = elim c.if-is_pending.branch [
      | then-is_pending w ↦ let z = sym w.if-is_pending.true ∙ sym w.value-is ∙ c.if-not-ask.false in no (cc)
      | else-is_pending w ↦ rw (w.if-is_pending.false, sym w.value-is ∙ c.if-not-ask.false)
    ] in
    let t = judged_turns c.args.u (asked_by c.args.ask) _ _ (c.is_pending.ensures.register_reads c.args.u) _ _ e c.sweep.ensures.1 c.verdict.ensures in
    (c.sweep.ensures.0, t)
