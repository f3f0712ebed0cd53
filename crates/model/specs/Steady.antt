-- A clock that never falls: a take is never Late where judge says New. The customer's sentence:
--
-- "a take is never Late where judge says New on the same words with the same arguments, on a register opened here, without restore or
-- resume, whose readings never fall, and where reading + ahead + retained + bucket stays below 2^64."
--
-- A take is take or `take_batch`. "Opened here" is since the last opening in the list that went through, from any words before it,
-- whatever the start. A register's readings are those by which it sweeps: of judge, take, their batch forms and sweep on it, that went
-- through. A refused call brings none, a ticket with the flag off brings none, and while the register is pending no call does. Readings
-- on other registers are free, and so are restores and resumes there.
--
-- Two things hold beyond the sentence: the bound is not needed, and of the readings those of takes are enough.
use Rattle.std.specs.Prelude.{ℕ, ◌+◌, ◌≤◌, ◌<◌, ◌≡◌, Bool, true, false, cond, not, ◌&&◌, Option, Some, None, List, [], ◌∷◌, leb, eqb, if◌then◌else◌}
use Rattle.model.specs.declared.Manner.TheVariants.{Judged, Taken, TakenBatch}
use Rattle.model.specs.declared.Usable.{Usable}
use Rattle.model.specs.declared.Verdict.TheVariants.{New, Late}
use Rattle.model.specs.Answer.{Said}
use Rattle.model.specs.Numbers.{top64}
use Rattle.model.specs.Settings.{settings_of, usable_at, retained, ahead}
use Rattle.model.specs.Words.{State}
use Rattle.model.specs.Codes.{went_through}
use Rattle.model.specs.Calls.{Asking, Ticket, Call, On, Sort, Asks, Takes, Restores, Resumes, Plain, Kind, Opens, OnOne, Sets, Other}
use Rattle.model.specs.Calls.{ask_of, reading_of_ask, kind, reading_of, is_open, register_at, held_in, reply}
use Rattle.model.specs.View.{Given, answered, left_by, words_after}
use Rattle.model.specs.RoundTrip.{reaches}

-- ---- readings: which calls bring one. Of every call that sweeps its register it is `reading_of` (specs/Calls); of takes alone this
unfoldable pub sort_taking : Sort → Option ℕ
sort_taking (Asks a) = None
sort_taking (Takes a) = reading_of_ask (ask_of a)
sort_taking Restores = None
sort_taking Resumes = None
sort_taking Plain = None

unfoldable pub kind_taking : Kind → Option ℕ
unfolding sort_taking
kind_taking (Opens limits starts) = None
kind_taking (OnOne r d) = sort_taking d
kind_taking (Sets limits) = None
kind_taking Other = None

unfoldable pub taking_of : Call → Option ℕ
unfolding kind kind_taking
taking_of call = kind_taking (kind call)

abbrev pub Readings : Type 0
Readings = Call → Option ℕ

-- the reading by which a call sweeps register r of a state: none if it is not on it, and none while it is pending
unfoldable pub reading_on : ℕ → Kind → Option ℕ → State → Option ℕ
unfolding reaches
reading_on r k ms t = cond (reaches r k && not (register_at r t).pending) ms None

unfoldable pub reading_by : Readings → ℕ → Call → State → Option ℕ
unfolding reading_on kind
reading_by brings r call t = reading_on r (kind call) (brings call) t

-- the last reading, with one more or none
abbrev pub latest : Option ℕ → ℕ → ℕ
latest None last = last
latest (Some ms) last = ms

-- an equal reading is no fall
abbrev pub no_fall : Option ℕ → ℕ → Bool
no_fall None last = true
no_fall (Some ms) last = leb last ms

-- ---- what gives a register other generations than its takes and sweeps do: an opening, and a restore or a resume on it
unfoldable pub sort_disturbs : Sort → Bool
sort_disturbs (Asks a) = false
sort_disturbs (Takes a) = false
sort_disturbs Restores = true
sort_disturbs Resumes = true
sort_disturbs Plain = false

unfoldable pub disturbs : ℕ → Kind → Bool
unfolding sort_disturbs
disturbs r (Opens limits starts) = true
disturbs r (OnOne q d) = eqb r q && sort_disturbs d
disturbs r (Sets limits) = false
disturbs r Other = false

-- ---- a register's clock since the last opening
pub record Clock : Type 0 where
  -- its last reading, and 0 before the first
  pub last : ℕ
  -- no reading was below the one before it
  pub never_fell : Bool
  -- nothing was restored into it, and it was not resumed
  pub undisturbed : Bool

abbrev pub at_opening : Clock
at_opening = record { last = 0; never_fell = true; undisturbed = true }

-- one more call went through, on this state
abbrev pub ticked : Readings → ℕ → Call → State → Clock → Clock
ticked brings r call t c = record {
  last = latest (reading_by brings r call t) c.last;
  never_fell = c.never_fell && no_fall (reading_by brings r call t) c.last;
  undisturbed = c.undisturbed && not (disturbs r (kind call));
}

abbrev pub ticked_if : Readings → ℕ → Call → State → Option Clock → Option Clock
ticked_if brings r call t None = None
ticked_if brings r call t (Some c) = Some (ticked brings r call t c)

-- a call was heard: a refused one counts for nothing, and an opening starts the clock
unfoldable pub clock_heard : Readings → ℕ → Given → List ℕ → Option Clock → Option Clock
clock_heard brings r g ws c =
    if went_through (answered ws g)
    then (if is_open g.call then Some at_opening else ticked_if brings r g.call (held_in (settings_of g.settings) ws) c)
    else c

-- none before an opening went through
unfoldable pub clock_since : Readings → ℕ → Option Clock → List ℕ → List Given → Option Clock
clock_since brings r c ws [] = c
clock_since brings r c ws (g ∷ gs) = clock_since brings r (clock_heard brings r g ws c) (left_by ws g) gs

-- ---- the conditions
-- "on a register opened here": an opening in the list went through, and this is the clock of register r since the last
abbrev pub OpenedHere : Readings → ℕ → List ℕ → List Given → Clock → Type 0
OpenedHere brings r start calls c = clock_since brings r None start calls ≡ Some c

-- on that register, for a ticket with this reading
pub record Steady (c : Clock) (ms : ℕ) : Type 0 where
  pub without_restore_or_resume : c.undisturbed ≡ true
  pub readings_never_fall : c.never_fell ≡ true
  -- nor does the ticket's
  pub nor_this_one : c.last ≤ ms

-- "reading + ahead + retained + bucket stays below 2^64". Readings never fall, so it is enough to ask it of the ticket's
abbrev pub StaysBelow : Usable → ℕ → Type 0
StaysBelow u ms = ms + ahead u + retained u + u.bucket < 18_446_744_073_709_551_616

-- "judge says New on the same words with the same arguments"
abbrev pub JudgeSaysNew : List ℕ → List ℕ → ℕ → Asking → Type 0
JudgeSaysNew st ws r a = reply st ws (On r (Ticket Judged a)) ≡ Said New

-- ---- the promise
-- "a take is never Late"
pub record NeverLate (st ws : List ℕ) (r : ℕ) (a : Asking) : Type 0 where
  pub by_take : reply st ws (On r (Ticket Taken a)) ≡ Said Late → ⊥
  pub by_take_batch : reply st ws (On r (Ticket TakenBatch a)) ≡ Said Late → ⊥

-- THE PROMISE: the customer's sentence, with his bound
abbrev pub SteadyNeverLate : List ℕ → List Given → Type 0
SteadyNeverLate start calls =
    (r : ℕ) (c : Clock) → OpenedHere reading_of r start calls c → (st : List ℕ) (a : Asking) → Steady c a.ms → StaysBelow (usable_at (settings_of st) r) a.ms
    → JudgeSaysNew st (words_after start calls) r a → NeverLate st (words_after start calls) r a

-- without his bound, of any 64-bit reading: the cap of a bucket brings none below the reading's own
abbrev pub NeverLateOn : ℕ → Clock → List ℕ → Type 0
NeverLateOn r c ws = (st : List ℕ) (a : Asking) → Steady c a.ms → a.ms ≤ top64 → JudgeSaysNew st ws r a → NeverLate st ws r a

abbrev pub SteadyAnyReading : List ℕ → List Given → Type 0
SteadyAnyReading start calls = (r : ℕ) (c : Clock) → OpenedHere reading_of r start calls c → NeverLateOn r c (words_after start calls)

-- and with the readings of takes alone: those of judge and sweep may fall
abbrev pub SteadyTakes : List ℕ → List Given → Type 0
SteadyTakes start calls = (r : ℕ) (c : Clock) → OpenedHere taking_of r start calls c → NeverLateOn r c (words_after start calls)

-- the definitions of this file, for a theorem that computes
unfoldable pub compute_steady : ℕ
unfolding sort_taking kind_taking taking_of reaches reading_on reading_by sort_disturbs disturbs clock_heard clock_since words_after
compute_steady = 0
