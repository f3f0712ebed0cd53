use Rattle.std.proofs.Common.{ap}
use Rattle.model.specs.Book.{granted}
use Rattle.book.proofs.Entering.{not_granted, found_of, refused, roomy_of, granted_turns}
use Rattle.book.proofs.take.Goals as goal

pub draw-answer-requires : goal.draw-answer-requires
draw-answer-requires c =
    let s = c.args in
    let pre = c.requires in
    (found_of s.shares s.who s.second.0 s.part.now pre.0 _ c.find-spot.ensures, pre.1)

pub enter-requires : goal.enter-requires
enter-requires c =
    let s = c.args in
    roomy_of s.shares s.who s.second.0 s.part.now c.requires.0 _ c.find-spot.ensures s.terms.limits s.terms.closed _ c.draw-answer.ensures
    (ap granted c.in-Granted.is)

pub returns-in-Granted : goal.returns-in-Granted
returns-in-Granted c =
    let s = c.args in
    granted_turns s.shares s.who s.second.0 s.part.now c.requires.0 _ c.find-spot.ensures s.terms.limits s.terms.closed _ c.draw-answer.ensures
    (ap granted c.in-Granted.is) _ c.enter.ensures

pub returns-in_default : goal.returns-in_default
returns-in_default c =
    let s = c.args in
    refused s.shares s.who s.second.0 s.part.now c.requires.0 _ c.find-spot.ensures s.terms.limits s.terms.closed _ c.draw-answer.ensures
    (not_granted _ c.in_default.not-Granted)
