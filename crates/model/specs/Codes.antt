-- The numbers of codes that calls bring, and the number and the values that each answer goes out as.
use Rattle.std.specs.Prelude.{ℕ, Bool, true, false, cond, List, [], ◌∷◌, eqb, leb}
use Rattle.model.specs.declared.Verdict.{Verdict}
use Rattle.model.specs.declared.Verdict.TheVariants.{New, Duplicate, Late, Ahead, Full, Unjudged}
use Rattle.model.specs.declared.Reason.{Reason}
use Rattle.model.specs.declared.Room.{Room}
use Rattle.model.specs.declared.Start.{Start}
use Rattle.model.specs.declared.Start.TheVariants.{Empty, Fallback, At}
use Rattle.model.specs.declared.Draw.{Draw}
use Rattle.model.specs.declared.Draw.TheVariants.{Granted, Closed, OwnShare, ClassLimit, EqualPart, TwiceLimit, Places, Pairs}
use Rattle.model.specs.Answer.{Answer}
use Rattle.model.specs.Answer.{Refused, Done, Said, Yes, No, Begun, Already, Dumped, Viewed, Whole, Partly, NoFloor, FloorAt, SweptTo, Entries, Totals}
use Rattle.model.specs.Answer.{Because, NoStamp, StampAt}
use Rattle.model.specs.Class.{class_number}

-- ---- codes that a call brings
-- a flag: 0 or 1
abbrev pub flag_fits : ℕ → Bool
flag_fits n = leb n 1

abbrev pub flag_of : ℕ → Bool
flag_of n = eqb n 1

-- a start: a code, 0 Empty, 1 Fallback, 2 At, and a floor, which is read for At alone
abbrev pub start_fits : ℕ → Bool
start_fits code = leb code 2

unfoldable pub start_of : ℕ → ℕ → Start
start_of code floor = cond (eqb code 0) Empty (cond (eqb code 1) Fallback (At floor))

-- ---- answers
unfoldable pub verdict_number : Verdict → ℕ
verdict_number New = 0
verdict_number Duplicate = 1
verdict_number Late = 2
verdict_number Ahead = 3
verdict_number Full = 4
verdict_number Unjudged = 5

abbrev pub same_verdict : Verdict → Verdict → Bool
same_verdict v w = eqb (verdict_number v) (verdict_number w)

-- a verdict that is wanted, by its number
abbrev pub verdict_fits : ℕ → Bool
verdict_fits n = leb n 5

unfoldable pub verdict_of : ℕ → Verdict
verdict_of n =
    cond (eqb n 0) New (cond (eqb n 1) Duplicate (cond (eqb n 2) Late (cond (eqb n 3) Ahead (cond (eqb n 4) Full Unjudged))))

-- a reason: its number in the order in which the rules are tried, 0 for accepted; the class that holds the ticket, 0 for any other rule;
-- and the verdict that take gives by it (request Q-5)
unfoldable pub reason_number : Reason → ℕ
reason_number Reason.Accepted = 0
reason_number Reason.Pending = 1
reason_number Reason.Flag = 2
reason_number (Reason.Held c) = 3
reason_number Reason.Floor = 4
reason_number Reason.Behind = 5
reason_number Reason.Ahead = 6
reason_number Reason.Closed = 7
reason_number Reason.OwnShare = 8
reason_number Reason.ClassLimit = 9
reason_number Reason.EqualPart = 10
reason_number Reason.TwiceLimit = 11
reason_number Reason.Places = 12
reason_number Reason.Pairs = 13
reason_number Reason.Position = 14
reason_number Reason.Slots = 15

unfoldable pub reason_class : Reason → ℕ
reason_class Reason.Accepted = 0
reason_class Reason.Pending = 0
reason_class Reason.Flag = 0
reason_class (Reason.Held c) = class_number c
reason_class Reason.Floor = 0
reason_class Reason.Behind = 0
reason_class Reason.Ahead = 0
reason_class Reason.Closed = 0
reason_class Reason.OwnShare = 0
reason_class Reason.ClassLimit = 0
reason_class Reason.EqualPart = 0
reason_class Reason.TwiceLimit = 0
reason_class Reason.Places = 0
reason_class Reason.Pairs = 0
reason_class Reason.Position = 0
reason_class Reason.Slots = 0

unfoldable pub reason_verdict : Reason → Verdict
reason_verdict Reason.Accepted = New
reason_verdict Reason.Pending = Unjudged
reason_verdict Reason.Flag = Unjudged
reason_verdict (Reason.Held c) = Duplicate
reason_verdict Reason.Floor = Late
reason_verdict Reason.Behind = Late
reason_verdict Reason.Ahead = Late
reason_verdict Reason.Closed = Full
reason_verdict Reason.OwnShare = Full
reason_verdict Reason.ClassLimit = Full
reason_verdict Reason.EqualPart = Full
reason_verdict Reason.TwiceLimit = Full
reason_verdict Reason.Places = Full
reason_verdict Reason.Pairs = Full
reason_verdict Reason.Position = Late
reason_verdict Reason.Slots = Full

-- the rule by what the book says to a draw, and by the room that there is; accepted where nothing stands against the ticket
abbrev pub draw_reason : Draw → Reason
draw_reason Granted = Reason.Accepted
draw_reason Closed = Reason.Closed
draw_reason OwnShare = Reason.OwnShare
draw_reason ClassLimit = Reason.ClassLimit
draw_reason EqualPart = Reason.EqualPart
draw_reason TwiceLimit = Reason.TwiceLimit
draw_reason Places = Reason.Places
draw_reason Pairs = Reason.Pairs

abbrev pub room_reason : Room → Reason
room_reason (Room.At i) = Reason.Accepted
room_reason Room.Collides = Reason.Position
room_reason Room.Full = Reason.Slots

-- how an answer goes out, in one clause
pub record Outgoing : Type 0 where
  -- what the call returns: 0, or the refusal number
  pub number : ℕ
  -- what goes out beside it
  pub values : List ℕ
  -- "A call went through if it got no refusal number; Partly counts."
  pub through : Bool

abbrev pub with_values : List ℕ → Outgoing
with_values vs = record { number = 0; values = vs; through = true }

-- a verdict's number; 1 for yes and for begun, 0 for no and for already; 1 for whole and 0 for partly, with the bytes read; whether
-- there is a floor, and the floor; a rule's number, its class and take's verdict; whether there is a stamp, and the stamp
unfoldable pub outgoing : Answer → Outgoing
outgoing (Refused n) = record { number = n; values = []; through = false }
outgoing Done = with_values []
outgoing (Said v) = with_values (verdict_number v ∷ [])
outgoing Yes = with_values (1 ∷ [])
outgoing No = with_values (0 ∷ [])
outgoing Begun = with_values (1 ∷ [])
outgoing Already = with_values (0 ∷ [])
outgoing (Dumped n) = with_values (n ∷ [])
outgoing (Viewed n) = with_values (n ∷ [])
outgoing (Whole n) = with_values (1 ∷ n ∷ [])
outgoing (Partly n) = with_values (0 ∷ n ∷ [])
outgoing NoFloor = with_values (0 ∷ 0 ∷ [])
outgoing (FloorAt f) = with_values (1 ∷ f ∷ [])
outgoing (SweptTo b ms) = with_values (b ∷ ms ∷ [])
outgoing (Entries n) = with_values (n ∷ [])
outgoing (Totals e h u x) = with_values (e ∷ h ∷ u ∷ x ∷ [])
outgoing (Because x) = with_values (reason_number x ∷ reason_class x ∷ verdict_number (reason_verdict x) ∷ [])
outgoing NoStamp = with_values (0 ∷ 0 ∷ [])
outgoing (StampAt x) = with_values (1 ∷ x ∷ [])

unfoldable pub answer_number : Answer → ℕ
unfolding outgoing
answer_number a = (outgoing a).number

unfoldable pub answer_values : Answer → List ℕ
unfolding outgoing
answer_values a = (outgoing a).values

unfoldable pub went_through : Answer → Bool
unfolding outgoing
went_through a = (outgoing a).through

-- a draw's answer, in the order in which the rules are tried
unfoldable pub draw_number : Draw → ℕ
draw_number Granted = 0
draw_number Closed = 1
draw_number OwnShare = 2
draw_number ClassLimit = 3
draw_number EqualPart = 4
draw_number TwiceLimit = 5
draw_number Places = 6
draw_number Pairs = 7

-- the rules of this file, for a theorem that computes
unfoldable pub compute_codes : ℕ
unfolding start_of verdict_number verdict_of reason_number reason_class reason_verdict outgoing answer_number answer_values went_through draw_number
compute_codes = 0
