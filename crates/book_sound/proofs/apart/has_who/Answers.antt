use Rattle.book_sound.proofs.Twice.{seeks_end, seeks_none, seeks_hit, seeks_on}
use Rattle.book_sound.proofs.apart.has_who.Goals as goal

pub returns-then-not-in_use : goal.returns-then-not-in_use
returns-then-not-in_use c = seeks_none c.loop-other.invariant _ _ c.in-Some.ensures.steps.1 c.if-not-in_use.ensures

pub returns-then-same_who : goal.returns-then-same_who
returns-then-same_who c = seeks_hit c.loop-other.invariant _ _ c.in-Some.ensures.steps.1 c.if-not-in_use.ensures c.if-same_who.ensures

pub loop-other-preserved : goal.loop-other-preserved
loop-other-preserved c =
    let s = c.in-Some.ensures.steps in
    seeks_on c.loop-other.invariant _ _ s.1 c.if-not-in_use.ensures c.if-same_who.ensures s.0

pub returns : goal.returns
returns c = seeks_end c.loop-other.invariant c.in-None.ensures.steps.1.0
