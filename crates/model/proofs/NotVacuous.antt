-- The conditions of the promises are met: an example of each, by computing. Assumes nothing.
use Prim.Native.Nat.{ℕ}
use mathlib.Core.Path.{◌≡◌, refl}
use mathlib.Core.Bool.{true, false}
use mathlib.Core.List.{List, [], ◌∷◌}
use Rattle.std.specs.Prelude.{Some}
use lib.Dec.{lit≤}
use lib.ListN.{replicate}
use Rattle.model.specs.declared.Class.TheVariants.{Feeders}
use Rattle.model.specs.declared.Manner.{Manner}
use Rattle.model.specs.declared.Manner.TheVariants.{Judged, Taken}
use Rattle.model.specs.declared.Verdict.TheVariants.{New, Duplicate, Late}
use Rattle.model.specs.Answer.{Refused, Done, Said, Whole, Partly}
use Rattle.runs.specs.Words.{zeros, same_words, pad}
use Rattle.runs.specs.Chunks.{flat}
use Rattle.runs.specs.Combine.{wide_row, enc_row, read_row, test_row, enc_up, read_up, test_up}
use Rattle.model.specs.Settings.{settings_of, settings_fit, words_needed}
use Rattle.model.specs.GenerationWords.{reached_from, generation_sound, GenerationOk}
use Rattle.model.specs.BookWords.{read_pairs, pairs_sound, place_sound, used_place, has_place, distinct}
use Rattle.model.specs.RegisterWords.{heading_sound}
use Rattle.model.specs.Dump.{word_bytes}
use Rattle.model.specs.Words.{front_sound, state_form}
use Rattle.model.specs.Codes.{went_through}
use Rattle.model.specs.Calls.{Ticket, Sweep, Restore, Resume, Call, Open, On, Close, opened, kind, compute_rules}
use Rattle.model.specs.View.{Given, answered, left_by, words_after}
use Rattle.model.specs.Soundness.{Admitted, Vetted}
use Rattle.model.specs.Once.{takes, asks_about, remade_among, Answered, moments, Calls, Replaces, Aside, LeavesAlone, AllAside, compute_once}
use Rattle.model.specs.TwiceLimit.{class_units, class_limit}
use Rattle.model.proofs.SoundnessKept.{opened_sound}
use Rattle.model.proofs.Once.{leaves_alone}

-- the tests of soundness, and how forms are put together
unfoldable pub compute_sound : ℕ
unfolding zeros same_words pad flat wide_row enc_row read_row test_row enc_up read_up test_up reached_from generation_sound read_pairs pairs_sound place_sound used_place
compute_sound = 0

-- everything that a call on words computes
unfoldable pub compute_all : ℕ
unfolding compute_sound has_place distinct heading_sound front_sound went_through compute_rules compute_once
compute_all = 0

-- ---- one register: no window, buckets of 2 ms, two positions, four slots; two places of two pairs for each class
abbrev pub settings : List ℕ
settings = 1 ∷ 2 ∷ 2 ∷ 0 ∷ 0 ∷ 0 ∷ 0 ∷ 0 ∷ 0 ∷ 2 ∷ 4 ∷ replicate 18 0

abbrev pub words : List ℕ
words = replicate (words_needed (settings_of settings)) 0

abbrev pub given : Call → Given
given c = record { settings = settings; call = c }

abbrev pub open_at : ℕ → Call
open_at limit = Open (replicate 5 limit) (replicate 8 0)

abbrev pub opened_words : List ℕ
opened_words = left_by words (given (open_at 4))

-- a Feeder's ticket, its stamp equal to the reading
abbrev pub ask : Manner → ℕ → ℕ → ℕ → Call
ask m id fp ms = On 0 (Ticket m (record { fp = fp; stamp = ms; ms = ms; flag = 1; kind = 0; number = id }))

-- ---- soundness: settings that fit, a call that is admitted, a well-formed state; words that are vetted, a call that goes through
settings_are_fit : settings_fit (settings_of settings) ≡ true
unfolding compute_all
settings_are_fit = refl

call_is_admitted : Admitted (settings_of settings) (ask Taken 1 7 6)
unfolding compute_all
call_is_admitted = (refl, refl)

opening_fits : (state_form (settings_of settings)).Ok (opened (settings_of settings) (replicate 5 4) (replicate 8 0))
unfolding compute_all
opening_fits = opened_sound (settings_of settings) (replicate 5 4) (replicate 8 0) refl refl

words_are_vetted : Vetted settings opened_words
unfolding compute_all
words_are_vetted = record { fit = refl; long = lit≤ tt; sound = refl }

-- ---- Once: three tickets of one bucket are accepted, the third with an older stamp after the clock stepped back; then they are
-- duplicates. A call without settings is refused. A judge at a later reading sweeps them away, and from then on they are late, also
-- after the clock stepped back again
pub accepted_once : moments words
    (given (open_at 4) ∷ given (ask Taken 1 1 6) ∷ given (ask Taken 1 7 6) ∷ given (ask Taken 1 8 5) ∷ given (ask Judged 1 1 6)
    ∷ given (ask Judged 1 7 6) ∷ record { settings = []; call = Close } ∷ given (ask Judged 1 9 7) ∷ given (ask Taken 1 7 6) ∷ [])
    ≡ Answered (open_at 4) Done ∷ Answered (ask Taken 1 1 6) (Said New) ∷ Answered (ask Taken 1 7 6) (Said New) ∷ Answered (ask Taken 1 8 5) (Said New)
    ∷ Answered (ask Judged 1 1 6) (Said Duplicate) ∷ Answered (ask Judged 1 7 6) (Said Duplicate) ∷ Answered Close (Refused 1)
    ∷ Answered (ask Judged 1 9 7) (Said New) ∷ Answered (ask Taken 1 7 6) (Said Late) ∷ []
unfolding compute_all
accepted_once = refl

-- the conditions one by one: between the two takes stand a sweep and an opening that is refused
pub conditions_met : (takes (kind (ask Taken 1 7 6)) ≡ Some (record { register = 0; print = 7; stamp = 6 }))
    × ((answered opened_words (given (ask Taken 1 7 6)) ≡ Said New)
    × ((remade_among 0 (left_by opened_words (given (ask Taken 1 7 6))) (given (On 0 (Sweep 7)) ∷ record { settings = []; call = open_at 4 } ∷ []) ≡ false)
    × (asks_about (kind (ask Judged 1 7 6)) ≡ Some (record { register = 0; print = 7; stamp = 6 }))))
unfolding compute_all
conditions_met = (refl, (refl, (refl, refl)))

-- an opening ends the promise: the ticket is New again
pub new_again : moments words (given (open_at 4) ∷ given (ask Taken 1 7 6) ∷ given (open_at 4) ∷ given (ask Taken 1 7 6) ∷ [])
    ≡ Answered (open_at 4) Done ∷ Answered (ask Taken 1 7 6) (Said New) ∷ Answered (open_at 4) Done ∷ Answered (ask Taken 1 7 6) (Said New) ∷ []
unfolding compute_all
new_again = refl

-- a restore that comes out Whole does not: beside fingerprint 8, which it brings, 7 stays a duplicate
abbrev pub brings : List ℕ → Call
brings dump = On 0 (Restore (flat word_bytes dump))

abbrev one_more : Call
one_more = brings (0 ∷ 1 ∷ 3 ∷ 5 ∷ 1 ∷ 8 ∷ 0 ∷ 0 ∷ [])

pub held_through_a_restore : (moments words (given (open_at 4) ∷ given (ask Taken 1 7 6) ∷ given one_more ∷ given (ask Taken 1 7 6) ∷ [])
    ≡ Answered (open_at 4) Done ∷ Answered (ask Taken 1 7 6) (Said New) ∷ Answered one_more (Whole 64) ∷ Answered (ask Taken 1 7 6) (Said Duplicate) ∷ [])
    × (remade_among 0 (left_by opened_words (given (ask Taken 1 7 6))) (given one_more ∷ []) ≡ false)
unfolding compute_all
held_through_a_restore = (refl, refl)

-- nor does one that comes out Partly: three fingerprints find no room beside 7, their bucket is dropped, and 7 is late
abbrev pub three_more : Call
three_more = brings (0 ∷ 1 ∷ 3 ∷ 5 ∷ 3 ∷ 8 ∷ 9 ∷ 10 ∷ 0 ∷ 0 ∷ [])

pub late_through_a_restore : (moments words (given (open_at 4) ∷ given (ask Taken 1 7 6) ∷ given three_more ∷ given (ask Taken 1 7 6) ∷ [])
    ≡ Answered (open_at 4) Done ∷ Answered (ask Taken 1 7 6) (Said New) ∷ Answered three_more (Partly 80) ∷ Answered (ask Taken 1 7 6) (Said Late) ∷ [])
    × (remade_among 0 (left_by opened_words (given (ask Taken 1 7 6))) (given three_more ∷ []) ≡ false)
unfolding compute_all
late_through_a_restore = (refl, refl)

-- a resume ends it, which forgets the floor: 7 was swept, and the floor 6 made it Late
abbrev pub nothing_proven : Call
nothing_proven = On 0 (Resume (flat word_bytes (0 ∷ 0 ∷ 0 ∷ 0 ∷ [])) 0 0)

pub new_after_resume : moments words (given (open_at 4) ∷ given (ask Taken 1 7 6) ∷ given (On 0 (Sweep 8)) ∷ given (ask Judged 1 7 6) ∷ given nothing_proven ∷ given (ask Taken 1 7 6) ∷ [])
    ≡ Answered (open_at 4) Done ∷ Answered (ask Taken 1 7 6) (Said New) ∷ Answered (On 0 (Sweep 8)) Done ∷ Answered (ask Judged 1 7 6) (Said Late)
    ∷ Answered nothing_proven (Whole 32) ∷ Answered (ask Taken 1 7 6) (Said New) ∷ []
unfolding compute_all
new_after_resume = refl

-- ---- a take that is not New: buckets 4 and 2 have one position; judge says New, take says Late, and the held ticket stays
pub late_by_position : moments words
    (given (open_at 4) ∷ given (ask Taken 1 7 8) ∷ given (ask Judged 1 9 4) ∷ given (ask Taken 1 9 4) ∷ given (ask Judged 1 7 8) ∷ [])
    ≡ Answered (open_at 4) Done ∷ Answered (ask Taken 1 7 8) (Said New) ∷ Answered (ask Judged 1 9 4) (Said New)
    ∷ Answered (ask Taken 1 9 4) (Said Late) ∷ Answered (ask Judged 1 7 8) (Said Duplicate) ∷ []
unfolding compute_all
late_by_position = refl

-- among events: one that stands aside, here by closing the book
abbrev pub closed_words : List ℕ
closed_words = left_by opened_words (given Close)

aside : LeavesAlone 0 opened_words closed_words
unfolding compute_all
aside = leaves_alone 0 settings opened_words closed_words words_are_vetted (record { fit = refl; long = lit≤ tt; sound = refl }) refl

all_aside : AllAside 0 words (Calls (given (open_at 4) ∷ []) ∷ Aside closed_words ∷ Replaces words ∷ [])
unfolding compute_all
all_aside = (tt, (aside, (tt, tt)))

-- ---- twice T: with T = 2 one Feeder holds two entries, and another brings the class to 3
abbrev two_held : List ℕ
two_held = words_after words (given (open_at 2) ∷ given (ask Taken 1 7 6) ∷ given (ask Taken 1 8 6) ∷ [])

pub above_the_limit : (class_units settings two_held Feeders ≡ 2)
    × ((class_units settings (left_by two_held (given (ask Taken 2 9 6))) Feeders ≡ 3) × (class_limit settings two_held Feeders ≡ 2))
unfolding compute_all
above_the_limit = (refl, (refl, refl))

-- ---- a well-formed generation that holds something
held_seven : GenerationOk 2 2 1 (record { bucket = 5; oldest = 5; newest = 5; slots = 0 ∷ 7 ∷ [] })
unfolding compute_all
held_seven = record { fits = lit≤ tt; aged = lit≤ tt; shape = refl }
