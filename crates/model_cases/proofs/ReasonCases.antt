-- What explain names, by computing (specs/Reason): a row for each rule, with every rule whose condition is met beside it; and the cases of
-- the paper. Assumes nothing.
use Prim.Native.Nat.{ℕ}
use mathlib.Core.Path.{◌≡◌, refl}
use mathlib.Core.Bool.{cond}
use mathlib.Core.List.{List, [], ◌∷◌, ◌++◌, map}
use lib.ListN.{replicate}
use Rattle.model.specs.Answer.{Answer}
use Rattle.model.specs.Answer.{Refused, Done, Said, Whole, NoFloor, FloorAt, Because}
use Rattle.model.specs.declared.Class.TheVariants.{Feeders, Peers, Own}
use Rattle.model.specs.declared.Manner.TheVariants.{Taken}
use Rattle.model.specs.declared.Reason.{Reason}
use Rattle.model.specs.declared.Reason.TheVariants.{Accepted, Pending, Flag, Held, Behind, Ahead, Closed, OwnShare}
use Rattle.model.specs.declared.Reason.TheVariants.{Floor as UnderFloor, ClassLimit, EqualPart, TwiceLimit, Places, Pairs, Position, Slots}
use Rattle.model.specs.declared.Verdict.TheVariants.{New, Late}
use Rattle.model.specs.Settings.{settings_of, usable_at}
use Rattle.model.specs.Register.{sweep}
use Rattle.model.specs.Words.{State}
use Rattle.model.specs.Codes.{reason_verdict}
use Rattle.model.specs.First.{Rule}
use Rattle.model.specs.Reason.{rules}
use Rattle.model.specs.Calls.{Asking, Ticket, Sweep, Floor, Explain, Call, Open, On, SetLimits, Close, ask_of, opened, register_at, compute_rules}
use Rattle.model.specs.View.{answered}
use Rattle.model.specs.SameAnswers.{served, answers_from, state_after}
use Rattle.model.specs.Worked.{open_ample, open_twelve, takes_by, strikes, P1, take_it}
use Rattle.model.specs.Worked.{settings as paper_settings, before as paper_before, ask as ask_of_kind}
use Rattle.model.proofs.NotVacuous.{compute_all, given, opened_words, brings}

-- ---- one register: no window, buckets of 1 s, two positions, two slots, so that a generation holds one; for each class one place of two
-- pairs. A Feeder's place costs nothing, a restored deliverer's 3
abbrev settings : List ℕ
settings = 1 ∷ 1 ∷ 2 ∷ 0 ∷ 3 ∷ 0 ∷ 0 ∷ 0 ∷ 0 ∷ 1_000 ∷ 2 ∷ replicate 18 0

-- calls, then a ticket; and all rules that are met
pub record Row : Type 0 where
  pub calls : List Call
  pub ticket : Asking
  pub met : List Reason

-- all rules that are met, after the sweep
unfoldable pub names_met : List (Rule Reason) → List Reason
names_met [] = []
names_met (x ∷ xs) = cond x.met (x.names ∷ names_met xs) (names_met xs)

unfoldable pub met_on : State → Asking → List Reason
met_on t a =
    let s = settings_of settings in
    names_met (rules (usable_at s 0) s.shares (sweep (usable_at s 0) a.ms (register_at 0 t)) t.book (ask_of a))

unfoldable pub first_named : List Reason → Reason
first_named [] = Accepted
first_named (x ∷ xs) = x

-- what a row gives: what is met, what explain answers, and what take answers after it
pub record Given : Type 0 where
  pub met : List Reason
  pub answers : List Answer

abbrev asked : Asking → List Call
asked a = On 0 (Explain a) ∷ On 0 (Ticket Taken a) ∷ []

unfoldable pub found : Row → Given
found w =
    let t = state_after settings (opened (settings_of settings) [] []) w.calls in
    record { met = met_on t w.ticket; answers = answers_from settings t (asked w.ticket) }

-- the first one is named, and take gives its verdict
unfoldable pub wanted : Row → Given
wanted w = let x = first_named w.met in record { met = w.met; answers = Because x ∷ Said (reason_verdict x) ∷ [] }

-- ---- tickets of Feeder 1, of a Relay, and of restored Feeders and Own, under a fingerprint with the stamp equal to the reading
abbrev ticket : ℕ → ℕ → ℕ → ℕ → ℕ → ℕ → Asking
ticket kind number flag ms fp stamp = record { fp = fp; stamp = stamp; ms = ms; flag = flag; kind = kind; number = number }

abbrev by_feeder : ℕ → ℕ → Asking
by_feeder fp ms = ticket 0 1 1 ms fp ms

abbrev by_relay : ℕ → ℕ → Asking
by_relay fp ms = ticket 2 0 1 ms fp ms

abbrev by_restored : ℕ → ℕ → ℕ → Asking
by_restored class fp ms = ticket 3 class 1 ms fp ms

-- ---- openings by limits: ample ones, none at all, a Feeder's share without a class limit, a class limit of 2
abbrev open_with : List ℕ → Call
open_with limits = Open limits (replicate 8 0)

abbrev ample : List ℕ
ample = replicate 5 100

abbrev nothing : List ℕ
nothing = replicate 5 0

abbrev share_alone : List ℕ
share_alone = 1 ∷ 0 ∷ 0 ∷ 0 ∷ 0 ∷ []

abbrev two_together : List ℕ
two_together = 9 ∷ 2 ∷ 0 ∷ 0 ∷ 0 ∷ []

-- Fallback, and At a floor
abbrev open_fallback : Call
open_fallback = Open ample (1 ∷ replicate 7 0)

abbrev open_at : ℕ → Call
open_at floor = Open nothing (2 ∷ floor ∷ replicate 6 0)

-- ---- a sweep to 100 s, and then a dump with floor 1,000: no sweep at 100 s visits what it brings. A class of it has no generation, one
-- that holds a fingerprint, or two
abbrev none : List ℕ
none = 0 ∷ []

abbrev one : ℕ → List ℕ
one bucket = 1 ∷ bucket ∷ 1_000 ∷ 1 ∷ 7 ∷ []

abbrev two : List ℕ
two = 2 ∷ 1 ∷ 1_000 ∷ 1 ∷ 7 ∷ 2 ∷ 1_000 ∷ 1 ∷ 7 ∷ []

abbrev brought : List ℕ → List ℕ → List ℕ → Call
brought feeders peers own = brings (1_001 ∷ feeders ++ (peers ++ own))

abbrev holding : List ℕ → List ℕ → List ℕ → List Call
holding feeders peers own = open_with ample ∷ On 0 (Sweep 100_000) ∷ brought feeders peers own ∷ []

-- then no share is to be had, and the book is closed
abbrev shut : List Call
shut = SetLimits nothing ∷ Close ∷ []

abbrev row : List Call → Asking → List Reason → Row
row calls ticket met = record { calls = calls; ticket = ticket; met = met }

-- ---- a row for each rule; in most of them the next one that can be met with it is met too. (No stamp is behind and ahead of one window,
-- and a deliverer without a place has no pairs.)
unfoldable pub rows : List Row
rows =
    -- 7 is held in bucket 1 of all classes; its stamp is under the floor and behind, the book is closed, and there is no share
    row (open_fallback ∷ brought (one 1) (one 1) (one 1) ∷ shut) (ticket 0 1 0 100_000 7 1_000)
    (Pending ∷ Flag ∷ Held Feeders ∷ Held Peers ∷ Held Own ∷ UnderFloor ∷ Behind ∷ Closed ∷ OwnShare ∷ EqualPart ∷ TwiceLimit ∷ Places ∷ [])
    ∷ row (holding (one 1) (one 1) (one 1) ++ shut) (ticket 0 1 0 100_000 7 1_000)
    (Flag ∷ Held Feeders ∷ Held Peers ∷ Held Own ∷ UnderFloor ∷ Behind ∷ Closed ∷ OwnShare ∷ EqualPart ∷ TwiceLimit ∷ Places ∷ [])
    ∷ row (holding (one 1) (one 1) (one 1) ++ shut) (ticket 0 1 1 100_000 7 1_000)
    (Held Feeders ∷ Held Peers ∷ Held Own ∷ UnderFloor ∷ Behind ∷ Closed ∷ OwnShare ∷ EqualPart ∷ TwiceLimit ∷ Places ∷ [])
    ∷ row (holding none (one 1) (one 1) ++ shut) (ticket 0 1 1 100_000 7 1_000)
    (Held Peers ∷ Held Own ∷ UnderFloor ∷ Behind ∷ Closed ∷ OwnShare ∷ EqualPart ∷ TwiceLimit ∷ [])
    ∷ row (holding none none (one 1) ++ shut) (ticket 0 1 1 100_000 7 1_000)
    (Held Own ∷ UnderFloor ∷ Behind ∷ Closed ∷ OwnShare ∷ EqualPart ∷ TwiceLimit ∷ [])
    -- a floor that is behind, and one that is ahead
    ∷ row (open_at 1_000 ∷ Close ∷ []) (ticket 0 1 1 100_000 7 1_000) (UnderFloor ∷ Behind ∷ Closed ∷ OwnShare ∷ EqualPart ∷ TwiceLimit ∷ [])
    ∷ row (open_at 200_000 ∷ Close ∷ []) (ticket 0 1 1 100_000 7 200_000) (UnderFloor ∷ Ahead ∷ Closed ∷ OwnShare ∷ EqualPart ∷ TwiceLimit ∷ [])
    ∷ row (open_at 0 ∷ Close ∷ []) (ticket 0 1 1 100_000 7 99_999) (Behind ∷ Closed ∷ OwnShare ∷ EqualPart ∷ TwiceLimit ∷ [])
    ∷ row (open_at 0 ∷ Close ∷ []) (ticket 0 1 1 100_000 7 100_001) (Ahead ∷ Closed ∷ OwnShare ∷ EqualPart ∷ TwiceLimit ∷ [])
    -- the floor that a sweep at 100 s would raise: 7 was taken at 1 s; or its bucket was restored, with a newest stamp of 200,000
    ∷ row (open_with ample ∷ On 0 (Ticket Taken (by_feeder 7 1_000)) ∷ []) (ticket 0 1 1 100_000 7 1_000) (UnderFloor ∷ Behind ∷ [])
    ∷ row (open_with ample ∷ brings (0 ∷ 1 ∷ 1 ∷ 200_000 ∷ 1 ∷ 7 ∷ 0 ∷ 0 ∷ []) ∷ []) (by_restored 0 9 100_000) (UnderFloor ∷ [])
    -- shares: of a Feeder, of a Relay, of a restored deliverer, which has none
    ∷ row (open_with nothing ∷ Close ∷ []) (by_feeder 7 1_000) (Closed ∷ OwnShare ∷ EqualPart ∷ TwiceLimit ∷ [])
    ∷ row (open_with nothing ∷ []) (by_feeder 7 1_000) (OwnShare ∷ EqualPart ∷ TwiceLimit ∷ [])
    ∷ row (open_with nothing ∷ []) (by_relay 7 1_000) (OwnShare ∷ ClassLimit ∷ EqualPart ∷ TwiceLimit ∷ [])
    ∷ row (open_with nothing ∷ []) (by_restored 2 7 1_000) (ClassLimit ∷ EqualPart ∷ TwiceLimit ∷ [])
    ∷ row (open_with share_alone ∷ []) (by_feeder 7 1_000) (EqualPart ∷ TwiceLimit ∷ [])
    -- bucket 1 has the position of bucket 101, and holds as many as two slots may. With T 2 Feeder 1's one entry is within 2 / 2, but with the
    -- restored deliverer's 1 + 3 units there would be 5
    ∷ row (holding (one 1) none none ++ (SetLimits two_together ∷ [])) (by_feeder 9 101_000) (TwiceLimit ∷ Places ∷ Position ∷ Slots ∷ [])
    ∷ row (holding (one 1) none none) (by_feeder 9 101_000) (Places ∷ Position ∷ Slots ∷ [])
    ∷ row (holding two none none) (by_restored 0 9 100_000) (Pairs ∷ Position ∷ Slots ∷ [])
    ∷ row (holding (one 1) none none) (by_restored 0 9 101_000) (Position ∷ Slots ∷ [])
    ∷ row (holding (one 101) none none) (by_restored 0 9 101_000) (Slots ∷ [])
    ∷ row (holding (one 1) none none) (by_restored 0 9 100_000) []
    ∷ []

pub each_rule : map found rows ≡ map wanted rows
unfolding compute_rules served answers_from state_after names_met met_on first_named found wanted rows
each_rule = refl

-- ---- the cases of the paper: Feeder 1 at 100,000, unless said
abbrev explain_at : ℕ → ℕ → ℕ → Call
explain_at ms fp stamp = On 0 (Explain (ticket 0 1 1 ms fp stamp))

abbrev explain_it : ℕ → ℕ → Call
explain_it fp stamp = explain_at 100_000 fp stamp

abbrev worked_through : List Call → List Answer
worked_through calls = answers_from paper_settings paper_before calls

-- P1 to P4; P5: 89,999 is behind, from a Peer it is not; P6: 102,001 is ahead
pub windows_explained : worked_through
    (open_ample ∷ explain_it 7 100_000 ∷ take_it 7 100_000 ∷ explain_it 7 100_000 ∷ explain_it 7 99_500 ∷ explain_it 7 99_000 ∷ explain_it 7 89_999
    ∷ On 0 (Explain (ticket 1 1 1 100_000 7 89_999)) ∷ explain_it 7 102_001 ∷ [])
    ≡ Done ∷ Because Accepted ∷ Said New ∷ Because (Held Feeders) ∷ Because (Held Feeders) ∷ Because Accepted ∷ Because Behind ∷ Because Accepted
    ∷ Because Ahead ∷ []
unfolding compute_rules served answers_from
windows_explained = refl

-- P7: at 120,000 it is held. At 120,001 the floor is named that judge's sweep would raise, but no sweep is made: there is no floor, and at
-- 120,000 it is held still. Then a take sweeps
pub sweep_not_made : worked_through
    (P1 ++ (explain_at 120_000 7 100_000 ∷ explain_at 120_001 7 100_000 ∷ On 0 Floor ∷ explain_at 120_000 7 100_000
    ∷ ask_of_kind Taken 0 1 120_001 7 100_000 ∷ On 0 Floor ∷ []))
    ≡ Done ∷ Said New ∷ Because (Held Feeders) ∷ Because UnderFloor ∷ NoFloor ∷ Because (Held Feeders) ∷ Said Late ∷ FloorAt 100_000 ∷ []
unfolding compute_rules served answers_from
sweep_not_made = refl

-- P8: bucket 120 has the position. P10: the seventh
pub room_explained : (worked_through (P1 ++ (explain_at 76_000 9 76_000 ∷ [])) ≡ Done ∷ Said New ∷ Because Position ∷ [])
    × (worked_through (open_ample ∷ strikes 6 ++ (explain_it 7 100_000 ∷ [])) ≡ Done ∷ replicate 6 (Said New) ++ (Because Slots ∷ []))
unfolding compute_rules served answers_from strikes
room_explained = (refl, refl)

-- P12: the first Feeder's twelfth is above its part of 12, the fourth's second would make 25
pub shares_explained : worked_through
    (open_twelve ∷ takes_by 1 11 100 ++ (explain_it 99 100_000 ∷ []) ++ takes_by 2 5 200 ++ takes_by 3 3 300 ++ takes_by 4 1 400
    ++ (On 0 (Explain (ticket 0 4 1 100_000 99 100_000)) ∷ []))
    ≡ Done ∷ replicate 11 (Said New) ++ (Because EqualPart ∷ []) ++ replicate 9 (Said New) ++ (Because TwiceLimit ∷ [])
unfolding compute_rules served answers_from takes_by
shares_explained = refl

-- the class limit is 2. A Relay that has 2 entries has its share; beside a restored deliverer it has not, and the class limit is named
abbrev open_relay : Call
open_relay = Open (0 ∷ 0 ∷ 0 ∷ 0 ∷ 2 ∷ []) (replicate 8 0)

abbrev by_a_relay : ℕ → Asking
by_a_relay fp = ticket 2 0 1 100_000 fp 100_000

pub relay_explained : (worked_through
    (open_relay ∷ On 0 (Ticket Taken (by_a_relay 7)) ∷ On 0 (Ticket Taken (by_a_relay 8)) ∷ On 0 (Explain (by_a_relay 9)) ∷ [])
    ≡ Done ∷ Said New ∷ Said New ∷ Because OwnShare ∷ [])
    × (worked_through (open_relay ∷ brings (0 ∷ 0 ∷ 0 ∷ 1 ∷ 120 ∷ 100_000 ∷ 1 ∷ 7 ∷ []) ∷ On 0 (Explain (by_a_relay 9)) ∷ [])
    ≡ Done ∷ Whole 64 ∷ Because ClassLimit ∷ [])
unfolding compute_rules served answers_from
relay_explained = (refl, refl)

-- ---- on words: explain goes through, and is refused as a take is
pub goes_through : (answered opened_words (given (On 0 (Explain (by_feeder 7 6)))) ≡ Because Accepted)
    × ((answered opened_words (given (On 0 (Explain (ticket 0 1 2 6 7 6)))) ≡ Refused 1) × (answered opened_words (given (On 1 (Explain (by_feeder 7 6)))) ≡ Refused 4))
unfolding compute_all
goes_through = (refl, (refl, refl))
