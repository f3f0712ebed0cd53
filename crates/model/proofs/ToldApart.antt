-- The numbers that a call gives out tell its answer (specs/ZeroIsThrough, VerdictsApart, ReasonsApart, TicketsGetVerdicts). Assumes nothing.
use Prim.Native.Nat.{ℕ}
use mathlib.Core.Path.{◌≡◌, refl, ap, sym, ◌∙◌, subst}
use mathlib.Core.Bool.{true}
use mathlib.Core.List.{[], ◌∷◌}
use lib.Dec.{eqb}
use lib.ListN.{get_or}
use borrow.Author.Tests.{eq-eqb}
use Rattle.model.specs.declared.Class.{Class}
use Rattle.model.specs.declared.Class.TheVariants.{Feeders, Peers, Own}
use Rattle.model.specs.declared.Reason.{Reason}
use Rattle.model.specs.declared.Verdict.{Verdict}
use Rattle.model.specs.declared.Verdict.TheVariants.{New, Duplicate, Late, Ahead, Full, Unjudged}
use Rattle.model.specs.Answer.{Answer}
use Rattle.model.specs.Answer.{Refused, Done, Said, Yes, No, Begun, Already, Dumped, Viewed, Whole, Partly, NoFloor, FloorAt, SweptTo, Entries, Totals}
use Rattle.model.specs.Answer.{Because, NoStamp, StampAt}
use Rattle.runs.proofs.Cases.{by_test, no}
use Rattle.model.specs.Settings.{settings_of}
use Rattle.model.specs.Class.{class_number, class_at}
use Rattle.model.specs.Codes.{verdict_number, verdict_of, reason_number, reason_class, answer_number, went_through}
use Rattle.model.specs.Calls.{step, kind, held_in, refused, reply}
use Rattle.model.specs.ZeroIsThrough.{ZeroIsThrough}
use Rattle.model.specs.VerdictsApart.{VerdictsApart}
use Rattle.model.specs.ReasonsApart.{ReasonsApart}
use Rattle.model.specs.TicketsGetVerdicts.{Verdicts, TicketsGetVerdicts}
use Rattle.model.proofs.EveryCall.{lawful}
use Rattle.model.proofs.Refusals.{step_through}
use Rattle.model.proofs.Simulates.{reply_is, through_zero}

-- ---- the verdict of a number
told_by : (v : Verdict) → verdict_of (verdict_number v) ≡ v
unfolding verdict_of verdict_number
told_by New = refl
told_by Duplicate = refl
told_by Late = refl
told_by Ahead = refl
told_by Full = refl
told_by Unjudged = refl

pub verdicts_apart : VerdictsApart
verdicts_apart v w e = sym (told_by v) ∙ ap verdict_of e ∙ told_by w

-- ---- the rule of a number and a class
unfoldable reason_of : ℕ → ℕ → Reason
reason_of n class =
    get_or
    (Reason.Accepted ∷ Reason.Pending ∷ Reason.Flag ∷ Reason.Held (class_at class) ∷ Reason.Floor ∷ Reason.Behind ∷ Reason.Ahead
    ∷ Reason.Closed ∷ Reason.OwnShare ∷ Reason.ClassLimit ∷ Reason.EqualPart ∷ Reason.TwiceLimit ∷ Reason.Places ∷ Reason.Pairs ∷ Reason.Position ∷ Reason.Slots ∷ [])
    n Reason.Accepted

class_told : (c : Class) → class_at (class_number c) ≡ c
unfolding class_at class_number
class_told Feeders = refl
class_told Peers = refl
class_told Own = refl

rule_told : (x : Reason) → reason_of (reason_number x) (reason_class x) ≡ x
unfolding reason_of reason_number reason_class
rule_told Reason.Accepted = refl
rule_told Reason.Pending = refl
rule_told Reason.Flag = refl
rule_told (Reason.Held c) = ap Reason.Held (class_told c)
rule_told Reason.Floor = refl
rule_told Reason.Behind = refl
rule_told Reason.Ahead = refl
rule_told Reason.Closed = refl
rule_told Reason.OwnShare = refl
rule_told Reason.ClassLimit = refl
rule_told Reason.EqualPart = refl
rule_told Reason.TwiceLimit = refl
rule_told Reason.Places = refl
rule_told Reason.Pairs = refl
rule_told Reason.Position = refl
rule_told Reason.Slots = refl

pub reasons_apart : ReasonsApart
reasons_apart x y e d = sym (rule_told x) ∙ ap (reason_of (reason_number x)) d ∙ ap (λ (n : ℕ). reason_of n (reason_class y)) e ∙ rule_told y

-- ---- an answer that went through returns 0
through_number : (a : Answer) → went_through a ≡ true → answer_number a ≡ 0
unfolding went_through answer_number
through_number (Refused n) t = no (cc)
through_number Done t = refl
through_number (Said v) t = refl
through_number Yes t = refl
through_number No t = refl
through_number Begun t = refl
through_number Already t = refl
through_number (Dumped n) t = refl
through_number (Viewed n) t = refl
through_number (Whole n) t = refl
through_number (Partly n) t = refl
through_number NoFloor t = refl
through_number (FloorAt f) t = refl
through_number (SweptTo b ms) t = refl
through_number (Entries n) t = refl
through_number (Totals e h u x) t = refl
through_number (Because x) t = refl
through_number NoStamp t = refl
through_number (StampAt x) t = refl

pub zero_is_through : ZeroIsThrough
unfolding reply answer_number went_through
zero_is_through st ws call =
    let s = settings_of st in
    let through = step_through s call (held_in s ws) in
    by_test (eqb (refused st ws call) 0)
    (λ e. rw (e, through_number (step s call (held_in s ws)).answer through, through) refl)
    (λ e. rw (e, e) refl)

-- ---- a ticket's answer
pub tickets_get_verdicts : TicketsGetVerdicts
unfolding kind step
tickets_get_verdicts st ws call k e z =
    let through = sym (zero_is_through st ws call) ∙ eq-eqb (answer_number (reply st ws call)) 0 z in
    subst Verdicts (sym (reply_is st ws call (through_zero st ws call through))) ((lawful call).verdicts (settings_of st) (held_in (settings_of st) ws) k e)
