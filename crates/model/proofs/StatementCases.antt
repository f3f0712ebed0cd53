-- The conditions of the statements about readers, floors and single rules are met: an example of each, by computing. Assumes nothing.
use Prim.Native.Nat.{ℕ}
use mathlib.Core.Path.{◌≡◌, refl}
use mathlib.Core.Bool.{true, false}
use mathlib.Core.List.{List, [], ◌∷◌, map}
use lib.ListN.{replicate}
use Rattle.runs.specs.Chunks.{flat}
use Rattle.model.specs.declared.Class.TheVariants.{Feeders}
use Rattle.model.specs.declared.Manner.{Manner}
use Rattle.model.specs.declared.Manner.TheVariants.{Judged, JudgedBatch, Taken, TakenBatch}
use Rattle.model.specs.declared.Verdict.TheVariants.{New, Duplicate, Late, Ahead, Full, Unjudged}
use Rattle.model.specs.Answer.{Refused, Done, Said, Yes, No, Begun, Already, Whole, Partly, NoFloor, FloorAt, Entries, Totals}
use Rattle.model.specs.Settings.{settings_of, usable_at}
use Rattle.model.specs.Codes.{verdict_number, answer_number}
use Rattle.model.specs.Book.{second_of}
use Rattle.model.specs.Register.{generation_at}
use Rattle.model.specs.Dump.{Dumped, Holding, Restoring, word_bytes, tried, restore_class}
use Rattle.model.specs.Calls.{Ticket, ContainsHash, Begin, Sweep, DumpTo, Resume, Floor, Pending, SweptBucket}
use Rattle.model.specs.Calls.{Asking, Explain, Seeking, StampFor, ViewRegister, Call, Open, On, Expire, HeldBy, ClassTotals, ViewDeliverer}
use Rattle.model.specs.Calls.{only_reads, register_at, held_in}
use Rattle.model.specs.View.{answered, left_by, words_after}
use Rattle.model.specs.Once.{Answered, moments}
use Rattle.model.specs.SameAnswers.{served, answers_from}
use Rattle.model.specs.Worked.{before, open_ample, take_it}
use Rattle.model.specs.Worked.{settings as paper_settings, ask as ask_of_kind}
use Rattle.model.specs.Floors.{forgotten_among, compute_floors}
use Rattle.model.proofs.NotVacuous.{compute_all, settings, words, given, open_at, opened_words, ask, three_more, nothing_proven}

-- ---- the calls that only read (specs/ReadersLeave), on any register, of any numbers and any output. These do: `contains_hash`, dump, floor,
-- pending, swept, held, totals, the two views, explain and `stamp_for`. One of them goes through; a sweep does not only read
abbrev readers : (r n m : ℕ) → List ℕ → Asking → Seeking → List Call
readers r n m out a q =
    On r (ContainsHash n)
    ∷ On r (DumpTo out)
    ∷ On r Floor
    ∷ On r Pending
    ∷ On r SweptBucket
    ∷ HeldBy n m
    ∷ ClassTotals n
    ∷ On r (ViewRegister out)
    ∷ ViewDeliverer n m out
    ∷ On r (Explain a)
    ∷ On r (StampFor q)
    ∷ []

pub they_read : (r n m : ℕ) (out : List ℕ) (a : Asking) (q : Seeking) → map only_reads (readers r n m out a q) ≡ replicate 11 true
unfolding only_reads
they_read r n m out a q = refl

pub reads : (answered opened_words (given (On 0 Pending)) ≡ No) × (only_reads (On 0 (Sweep 7)) ≡ false)
unfolding compute_all
reads = (refl, refl)

-- ---- Unjudged: with the flag off, in all four manners, where a sweep at that reading would have dropped the ticket that is held; and
-- on a register that started Fallback, up to its begin. Already: every begin after it
abbrev unflagged : Manner → Call
unflagged m = On 0 (Ticket m (record { fp = 9; stamp = 8; ms = 8; flag = 0; kind = 0; number = 1 }))

pub flag_off : moments (left_by opened_words (given (ask Taken 1 7 6)))
    (given (unflagged Judged) ∷ given (unflagged JudgedBatch) ∷ given (unflagged Taken) ∷ given (unflagged TakenBatch) ∷ given (On 0 Floor) ∷ [])
    ≡ Answered (unflagged Judged) (Said Unjudged) ∷ Answered (unflagged JudgedBatch) (Said Unjudged) ∷ Answered (unflagged Taken) (Said Unjudged)
    ∷ Answered (unflagged TakenBatch) (Said Unjudged) ∷ Answered (On 0 Floor) NoFloor ∷ []
unfolding compute_all
flag_off = refl

abbrev pub open_fallback : Call
open_fallback = Open (replicate 5 4) (1 ∷ replicate 7 0)

pub begun_once : moments words
    (given open_fallback ∷ given (ask Taken 1 7 6) ∷ given (On 0 (Begin 5)) ∷ given (On 0 (Begin 9)) ∷ given (On 0 Floor) ∷ given (ask Taken 1 7 6) ∷ [])
    ≡ Answered open_fallback Done ∷ Answered (ask Taken 1 7 6) (Said Unjudged) ∷ Answered (On 0 (Begin 5)) Begun ∷ Answered (On 0 (Begin 9)) Already
    ∷ Answered (On 0 Floor) (FloorAt 5) ∷ Answered (ask Taken 1 7 6) (Said New) ∷ []
unfolding compute_all
begun_once = refl

-- ---- floors: a ticket is swept away and the floor is 6. The clock steps back, a restore comes out Partly with an older newest stamp,
-- and an opening is refused: the floor is told as 6; a later sweep raises it to 8. A resume forgets it, or proves another
abbrev swept_words : List ℕ
swept_words = words_after opened_words (given (ask Taken 1 7 6) ∷ given (On 0 (Sweep 8)) ∷ given (ask Taken 1 8 8) ∷ [])

pub floor_stands_still : (answered swept_words (given (On 0 Floor)) ≡ FloorAt 6)
    × ((forgotten_among 0 swept_words (given (On 0 (Sweep 0)) ∷ given three_more ∷ record { settings = []; call = open_at 4 } ∷ []) ≡ false)
    × (moments swept_words
    (given (On 0 (Sweep 0)) ∷ given three_more ∷ record { settings = []; call = open_at 4 } ∷ given (On 0 Floor) ∷ given (On 0 (Sweep 10)) ∷ given (On 0 Floor) ∷ [])
    ≡ Answered (On 0 (Sweep 0)) Done ∷ Answered three_more (Partly 80) ∷ Answered (open_at 4) (Refused 1) ∷ Answered (On 0 Floor) (FloorAt 6)
    ∷ Answered (On 0 (Sweep 10)) Done ∷ Answered (On 0 Floor) (FloorAt 8) ∷ []))
unfolding compute_all compute_floors
floor_stands_still = (refl, (refl, refl))

abbrev nine_proven : Call
nine_proven = On 0 (Resume (flat word_bytes (0 ∷ 0 ∷ 0 ∷ 0 ∷ [])) 1 9)

pub floor_resumed : moments swept_words (given nothing_proven ∷ given (On 0 Floor) ∷ given nine_proven ∷ given (On 0 Floor) ∷ [])
    ≡ Answered nothing_proven (Whole 32) ∷ Answered (On 0 Floor) NoFloor ∷ Answered nine_proven (Whole 32) ∷ Answered (On 0 Floor) (FloorAt 9) ∷ []
unfolding compute_all
floor_resumed = refl

-- ---- contains_hash: 7 is held in bucket 3, at position 1 of two
pub found_at_position_1 : moments opened_words
    (given (On 0 (ContainsHash 7)) ∷ given (ask Taken 1 7 6) ∷ given (On 0 (ContainsHash 7)) ∷ given (On 0 (ContainsHash 9)) ∷ [])
    ≡ Answered (On 0 (ContainsHash 7)) No ∷ Answered (ask Taken 1 7 6) (Said New) ∷ Answered (On 0 (ContainsHash 7)) Yes
    ∷ Answered (On 0 (ContainsHash 9)) No ∷ []
unfolding compute_all
found_at_position_1 = refl

-- ---- a failed generation: three fingerprints find no room, and the floor is 6, the newest stamp of what is dropped; the dump's is 5
pub floor_of_the_failed : moments opened_words (given (ask Taken 1 7 6) ∷ given three_more ∷ given (On 0 Floor) ∷ [])
    ≡ Answered (ask Taken 1 7 6) (Said New) ∷ Answered three_more (Partly 80) ∷ Answered (On 0 Floor) (FloorAt 6) ∷ []
unfolding compute_all
floor_of_the_failed = refl

-- the same as one class restores it, after another generation that went well
abbrev brought : ℕ → List ℕ → Dumped
brought bucket prints = record { bucket = bucket; newest = 5; prints = prints }

abbrev opened_register : Restoring
opened_register = record { register = register_at 0 (held_in (settings_of settings) opened_words); book = (held_in (settings_of settings) opened_words).book; whole = true }

abbrev second_tried : Holding
second_tried =
    tried (usable_at (settings_of settings) 0) (settings_of settings).shares Feeders (brought 3 (8 ∷ 9 ∷ 10 ∷ 11 ∷ []))
    (restore_class (usable_at (settings_of settings) 0) (settings_of settings).shares Feeders (brought 2 (7 ∷ []) ∷ []) opened_register)

pub second_fails : (second_tried.fits ≡ false) × ((generation_at second_tried.register.rings.of_feeders 3).bucket ≡ 3)
unfolding compute_all
second_fails = (refl, refl)

-- ---- the settings of the worked cases. Late and Ahead: behind the window both say Late, past its front judge says Late
pub late_and_ahead : answers_from paper_settings before
    (open_ample ∷ ask_of_kind Judged 0 1 100_000 7 89_999 ∷ ask_of_kind JudgedBatch 0 1 100_000 7 89_999 ∷ ask_of_kind Judged 0 1 100_000 7 102_001
    ∷ ask_of_kind JudgedBatch 0 1 100_000 7 102_001 ∷ [])
    ≡ Done ∷ Said Late ∷ Said Late ∷ Said Late ∷ Said Ahead ∷ []
unfolding compute_all served answers_from
late_and_ahead = refl

-- a Feeder, a Peer, a Relay and a Restored: New within its window, and Late where no window reaches
pub within_and_behind : answers_from paper_settings before
    (open_ample ∷ ask_of_kind Judged 0 1 100_000 7 90_000 ∷ ask_of_kind Judged 1 1 100_000 7 90_000 ∷ ask_of_kind Judged 2 0 100_000 7 90_000
    ∷ ask_of_kind Judged 3 0 100_000 7 90_000 ∷ ask_of_kind Judged 0 1 100_000 7 79_999 ∷ ask_of_kind Judged 1 1 100_000 7 79_999
    ∷ ask_of_kind Judged 2 0 100_000 7 79_999 ∷ ask_of_kind Judged 3 0 100_000 7 79_999 ∷ [])
    ≡ Done ∷ Said New ∷ Said New ∷ Said New ∷ Said New ∷ Said Late ∷ Said Late ∷ Said Late ∷ Said Late ∷ []
unfolding compute_all served answers_from
within_and_behind = refl

-- bucket 120 of 1,000 ms ends in second 120
pub draw_ends : second_of 120 1_000 ≡ 120
unfolding compute_all
draw_ends = refl

-- expire at 120 s: of Feeder 1's entries that of second 120 stays and that of second 119 goes; Feeder 2 had one of 119 alone, and goes
pub expired_at_120 : answers_from paper_settings before
    (open_ample ∷ take_it 7 100_000 ∷ take_it 7 99_000 ∷ ask_of_kind Taken 0 2 100_000 8 99_000 ∷ ClassTotals 0 ∷ On 0 (Sweep 120_000) ∷ Expire 120_000
    ∷ HeldBy 0 1 ∷ HeldBy 0 2 ∷ ClassTotals 0 ∷ [])
    ≡ Done ∷ Said New ∷ Said New ∷ Said New ∷ Totals 3 2 5 0 ∷ Done ∷ Done ∷ Entries 1 ∷ Entries 0 ∷ Totals 1 1 2 120 ∷ []
unfolding compute_all served answers_from
expired_at_120 = refl

-- ---- what is returned: 0 where a take answers New, where it answers Duplicate and where the floor is asked; a refusal's number otherwise
abbrev returned : List Call → List ℕ
returned calls = map answer_number (answers_from paper_settings before calls)

pub numbers_returned : returned (open_ample ∷ take_it 7 100_000 ∷ take_it 7 100_000 ∷ On 0 Floor ∷ On 9 Floor ∷ ClassTotals 3 ∷ []) ≡ 0 ∷ 0 ∷ 0 ∷ 0 ∷ 4 ∷ 1 ∷ []
unfolding compute_all served answers_from answer_number
numbers_returned = refl

pub verdicts_numbered : map verdict_number (New ∷ Duplicate ∷ Late ∷ Ahead ∷ Full ∷ Unjudged ∷ []) ≡ 0 ∷ 1 ∷ 2 ∷ 3 ∷ 4 ∷ 5 ∷ []
unfolding verdict_number
verdicts_numbered = refl
