-- Clocks that never fall (specs/Steady): which calls bring a reading; conditions that are met; and for each condition a list that breaks
-- it, after which judge says New and take says Late. All by computing. Assumes nothing.
use Prim.Native.Nat.{ℕ}
use mathlib.Core.Path.{◌≡◌, refl, ap}
use mathlib.Core.Bool.{true, false}
use mathlib.Core.List.{List, [], ◌∷◌, map}
use Rattle.std.specs.Prelude.{Option, Some, None}
use lib.Dec.{lit≤}
use lib.ListN.{replicate}
use Rattle.model.specs.declared.Manner.TheVariants.{Judged, JudgedBatch, Taken, TakenBatch}
use Rattle.model.specs.declared.Verdict.TheVariants.{New, Late, Unjudged}
use Rattle.model.specs.Answer.{Answer}
use Rattle.model.specs.Answer.{Done, Said, Begun}
use Rattle.runs.specs.Chunks.{flat}
use Rattle.model.specs.Settings.{settings_of, usable_at, words_needed}
use Rattle.model.specs.Dump.{word_bytes}
use Rattle.model.specs.Calls.{Asking, Ticket, ContainsHash, Begin, Sweep, DumpTo, Restore, Resume, Call, Open, On, Expire}
use Rattle.model.specs.Calls.{reading_of, reply}
use Rattle.model.specs.View.{Given, words_after}
use Rattle.model.specs.Once.{Calls, Replaces, Aside, Answered, moments}
use Rattle.model.specs.Steady.{taking_of, Clock, clock_since, StaysBelow, NeverLate, compute_steady}
use Rattle.model.specs.SteadyAmong.{clock_among}
use Rattle.model.specs.Worked.{open_ample}
use Rattle.model.specs.Worked.{settings as paper_settings}
use Rattle.model.proofs.NotVacuous.{compute_all, settings, words, given, open_at, opened_words, brings, closed_words}
use Rattle.model.proofs.StatementCases.{open_fallback}
use Rattle.model.proofs.SteadyWords.{steady_never_late}

-- ---- the calls that bring a reading, on any register and of any numbers: a ticket with the flag on in all four manners, and sweep. A
-- ticket with the flag off brings none, and so do the others; `expire` reads the clock for the book. Of takes the reading is the same
abbrev about : ℕ → ℕ → ℕ → Asking
about flag fp ms = record { fp = fp; stamp = ms; ms = ms; flag = flag; kind = 0; number = 1 }

abbrev some_calls : (r n ms : ℕ) → List ℕ → List Call
some_calls r n ms bytes =
    On r (Ticket Taken (about 1 n ms)) ∷ On r (Ticket TakenBatch (about 1 n ms)) ∷ On r (Ticket Judged (about 1 n ms))
    ∷ On r (Ticket JudgedBatch (about 1 n ms)) ∷ On r (Sweep ms) ∷ On r (Ticket Taken (about 0 n ms)) ∷ On r (Begin ms) ∷ On r (Restore bytes)
    ∷ On r (Resume bytes 1 ms) ∷ On r (ContainsHash n) ∷ On r (DumpTo bytes) ∷ Expire ms ∷ []

pub readings : (r n ms : ℕ) (bytes : List ℕ)
    → map reading_of (some_calls r n ms bytes)
    ≡ Some ms ∷ Some ms ∷ Some ms ∷ Some ms ∷ Some ms ∷ None ∷ None ∷ None ∷ None ∷ None ∷ None ∷ None ∷ []
unfolding compute_all
readings r n ms bytes = refl

pub readings_of_takes : (r n ms : ℕ) (bytes : List ℕ)
    → map taking_of (some_calls r n ms bytes)
    ≡ Some ms ∷ Some ms ∷ None ∷ None ∷ None ∷ None ∷ None ∷ None ∷ None ∷ None ∷ None ∷ None ∷ []
unfolding compute_all compute_steady
readings_of_takes r n ms bytes = refl

-- ---- after a list of calls: the clock of register 0, and what judge, take and `take_batch` then say of a ticket
pub record Seen : Type 0 where
  pub clock : Option Clock
  pub judge_says : Answer
  pub take_says : Answer
  pub take_batch_says : Answer

unfoldable pub asked_after : List ℕ → List ℕ → List Given → Asking → Seen
asked_after st start calls a = record {
  clock = clock_since reading_of 0 None start calls;
  judge_says = reply st (words_after start calls) (On 0 (Ticket Judged a));
  take_says = reply st (words_after start calls) (On 0 (Ticket Taken a));
  take_batch_says = reply st (words_after start calls) (On 0 (Ticket TakenBatch a));
}

abbrev steady_at : ℕ → Clock
steady_at ms = record { last = ms; never_fell = true; undisturbed = true }

-- the clock was so, and both say what judge says; or judge says New, and both say Late
abbrev all_new : Clock → Seen
all_new c = record { clock = Some c; judge_says = Said New; take_says = Said New; take_batch_says = Said New }

abbrev late_though_new : Clock → Seen
late_though_new c = record { clock = Some c; judge_says = Said New; take_says = Said Late; take_batch_says = Said Late }

abbrev ask : ℕ → ℕ → Call
ask fp ms = On 0 (Ticket Taken (about 1 fp ms))

unfoldable compute_cases : ℕ
unfolding compute_all compute_steady clock_among asked_after
compute_cases = 0

-- ---- the conditions are met: takes and sweeps at 6, 6, 7 and 8. A call without settings, a ticket with the flag off and `expire` bring
-- lower numbers, and none is a reading. A first opening, after which the clock fell, counts for nothing
abbrev steady_list : List Given
steady_list =
    given (open_at 4) ∷ given (ask 3 20) ∷ given (ask 4 2) ∷ given (open_at 4) ∷ given (ask 7 6) ∷ given (ask 8 6)
    ∷ record { settings = []; call = ask 9 1 } ∷ given (On 0 (Ticket Taken (about 0 9 1))) ∷ given (Expire 2) ∷ given (On 0 (Sweep 7)) ∷ given (ask 9 8) ∷ []

pub met_and_new : asked_after settings words steady_list (about 1 10 8) ≡ all_new (steady_at 8)
unfolding compute_cases
met_and_new = refl

clock_met : clock_since reading_of 0 None words steady_list ≡ Some (steady_at 8)
unfolding asked_after
clock_met = ap (λ (x : Seen). x.clock) met_and_new

judged_met : reply settings (words_after words steady_list) (On 0 (Ticket Judged (about 1 10 8))) ≡ Said New
unfolding asked_after
judged_met = ap (λ (x : Seen). x.judge_says) met_and_new

bound_met : StaysBelow (usable_at (settings_of settings) 0) 8
unfolding compute_cases
bound_met = lit≤ tt

pub promised : NeverLate settings (words_after words steady_list) 0 (about 1 10 8)
promised =
    steady_never_late words steady_list 0 (steady_at 8) clock_met settings (about 1 10 8)
    (record { without_restore_or_resume = refl; readings_never_fall = refl; nor_this_one = lit≤ tt }) bound_met judged_met

-- after a pause longer than the ring the position of bucket 7 is free: what bucket 3 held there is swept away
pub after_a_pause : asked_after settings words (given (open_at 4) ∷ given (ask 7 6) ∷ []) (about 1 9 14) ≡ all_new (steady_at 6)
unfolding compute_cases
after_a_pause = refl

-- the readings of takes are enough: a sweep far ahead, and then a judge and a sweep whose readings fall, take nothing from the promise
abbrev wandering_list : List Given
wandering_list =
    given (open_at 4) ∷ given (ask 7 6) ∷ given (On 0 (Sweep 40)) ∷ given (On 0 (Ticket Judged (about 1 8 2))) ∷ given (On 0 (Sweep 3)) ∷ []

pub takes_steady : (asked_after settings words wandering_list (about 1 9 8) ≡ all_new (record { last = 3; never_fell = false; undisturbed = true }))
    × (clock_since taking_of 0 None words wandering_list ≡ Some (steady_at 6))
unfolding compute_cases
takes_steady = (refl, refl)

-- ---- "whose readings never fall": P8 on words, with the settings of the worked cases. After a take at 100,000 a ticket at 76,000
abbrev paper_words : List ℕ
paper_words = replicate (words_needed (settings_of paper_settings)) 0

abbrev paper_list : List Given
paper_list = record { settings = paper_settings; call = open_ample } ∷ record { settings = paper_settings; call = ask 7 100_000 } ∷ []

pub fallen : asked_after paper_settings paper_words paper_list (about 1 9 76_000) ≡ late_though_new (steady_at 100_000)
unfolding compute_cases
fallen = refl

-- ---- "without restore or resume": a dump brings bucket 5, and bucket 3 has its position in a ring of 2
abbrev ring_ahead : List ℕ
ring_ahead = 0 ∷ 1 ∷ 5 ∷ 9 ∷ 1 ∷ 8 ∷ 0 ∷ 0 ∷ []

abbrev disturbed_at : ℕ → Clock
disturbed_at ms = record { last = ms; never_fell = true; undisturbed = false }

pub restored_ahead : asked_after settings words (given (open_at 4) ∷ given (On 0 (Sweep 6)) ∷ given (brings ring_ahead) ∷ []) (about 1 9 6)
    ≡ late_though_new (disturbed_at 6)
unfolding compute_cases
restored_ahead = refl

pub resumed_ahead : asked_after settings words (given (open_at 4) ∷ given (On 0 (Sweep 6)) ∷ given (On 0 (Resume (flat word_bytes ring_ahead) 0 0)) ∷ []) (about 1 9 6)
    ≡ late_though_new (disturbed_at 6)
unfolding compute_cases
resumed_ahead = refl

-- a restore that is refused, here of a dump cut short, disturbs nothing
pub cut_short : asked_after settings words (given (open_at 4) ∷ given (ask 7 6) ∷ given (On 0 (Restore (0 ∷ []))) ∷ []) (about 1 9 6) ≡ all_new (steady_at 6)
unfolding compute_cases
cut_short = refl

-- ---- a register that starts Fallback: before its begin takes are Unjudged and a sweep does nothing, at whatever readings
abbrev fallback_list : List Given
fallback_list =
    given open_fallback ∷ given (ask 7 900) ∷ given (ask 8 2) ∷ given (On 0 (Sweep 1_000)) ∷ given (On 0 (Begin 5)) ∷ given (ask 7 6) ∷ []

pub begun_steady : (asked_after settings words fallback_list (about 1 9 8) ≡ all_new (steady_at 6))
    × (moments words fallback_list
    ≡ Answered open_fallback Done ∷ Answered (ask 7 900) (Said Unjudged) ∷ Answered (ask 8 2) (Said Unjudged) ∷ Answered (On 0 (Sweep 1_000)) Done
    ∷ Answered (On 0 (Begin 5)) Begun ∷ Answered (ask 7 6) (Said New) ∷ [])
unfolding compute_cases
begun_steady = (refl, refl)

-- a start at a floor of 5
pub from_a_floor : asked_after settings words (given (Open (replicate 5 4) (2 ∷ 5 ∷ replicate 6 0)) ∷ given (ask 7 6) ∷ []) (about 1 9 8) ≡ all_new (steady_at 6)
unfolding compute_cases
from_a_floor = refl

-- ---- two registers: on register 1 the readings fall and a dump is restored; register 0 is promised what it was
abbrev two_registers : List ℕ
two_registers = 2 ∷ 2 ∷ 2 ∷ 0 ∷ 0 ∷ 0 ∷ 0 ∷ 0 ∷ 0 ∷ 2 ∷ 4 ∷ 0 ∷ 0 ∷ 0 ∷ 0 ∷ 2 ∷ 4 ∷ replicate 12 0

abbrev two_words : List ℕ
two_words = replicate (words_needed (settings_of two_registers)) 0

abbrev given_two : Call → Given
given_two c = record { settings = two_registers; call = c }

abbrev beside_list : List Given
beside_list =
    given_two (open_at 8) ∷ given_two (ask 7 6) ∷ given_two (On 1 (Ticket Taken (about 1 7 100))) ∷ given_two (On 1 (Ticket Taken (about 1 8 3)))
    ∷ given_two (On 1 (Restore (flat word_bytes ring_ahead))) ∷ []

pub fallen_beside : (asked_after two_registers two_words beside_list (about 1 9 8) ≡ all_new (steady_at 6))
    × (clock_since reading_of 1 None two_words beside_list ≡ Some (record { last = 3; never_fell = false; undisturbed = false }))
unfolding compute_cases
fallen_beside = (refl, refl)

-- ---- among events: what stands aside leaves the clock, and words that are put in place of these end it
pub clock_aside : clock_among reading_of 0 None words (Calls (given (open_at 4) ∷ []) ∷ Aside closed_words ∷ []) ≡ Some (steady_at 0)
unfolding compute_cases
clock_aside = refl

pub clock_ended : clock_among reading_of 0 None words (Calls (given (open_at 4) ∷ []) ∷ Replaces opened_words ∷ []) ≡ None
unfolding compute_cases
clock_ended = refl
