-- Request Q-2 by computing, on words: fingerprints that are restored onto what holds them, or holds some of them. With them the
-- conditions of specs/SameDump are met. Assumes nothing.
use Prim.Native.Nat.{ℕ}
use mathlib.Core.Path.{◌≡◌, refl}
use mathlib.Core.Bool.{true}
use mathlib.Core.List.{List, [], ◌∷◌, ◌++◌}
use lib.ListN.{length, replicate}
use Rattle.runs.specs.Chunks.{flat}
use Rattle.model.specs.declared.Class.TheVariants.{Feeders}
use Rattle.model.specs.declared.Deliverer.TheVariants.{Restored}
use Rattle.model.specs.declared.Manner.TheVariants.{Judged, Taken}
use Rattle.model.specs.declared.Verdict.TheVariants.{New, Duplicate}
use Rattle.model.specs.Answer.{Answer}
use Rattle.model.specs.Answer.{Done, Said, Dumped, Whole, Partly, NoFloor, FloorAt}
use Rattle.model.specs.Settings.{settings_of, words_needed}
use Rattle.model.specs.Register.{Ring, generation_at}
use Rattle.model.specs.Dump.{word_bytes}
use Rattle.model.specs.RawViews.{deliverer_view}
use Rattle.model.specs.Words.{State}
use Rattle.model.specs.Calls.{Ticket, DumpTo, Restore, Floor, Call, Open, On, register_at, held_in, reply, output_after}
use Rattle.model.specs.SameAnswers.{answers_on, words_left}
use Rattle.model.specs.BringsBack.{ADump, bytes_of}
use Rattle.model.specs.SameDump.{all_held, each_held}
use Rattle.model.proofs.NotVacuous.{compute_all, ask}
use Rattle.model_cases.proofs.RoundTripCases.{all_small, small_words}

-- ---- one register: no window, buckets of 2 ms, two positions, so many slots; two places of two pairs for each class. All calls come
-- after an opening with limits of 20
abbrev with_slots : ℕ → List ℕ
with_slots n = 1 ∷ 2 ∷ 2 ∷ 0 ∷ 0 ∷ 0 ∷ 0 ∷ 0 ∷ 0 ∷ 2 ∷ n ∷ replicate 18 0

abbrev opening : Call
opening = Open (replicate 5 20) (replicate 8 0)

abbrev answers : ℕ → List Call → List Answer
answers n calls = answers_on (with_slots n) (replicate (words_needed (settings_of (with_slots n))) 0) (opening ∷ calls)

abbrev left : ℕ → List Call → List ℕ
left n calls = words_left (with_slots n) (replicate (words_needed (settings_of (with_slots n))) 0) (opening ∷ calls)

abbrev state : ℕ → List Call → State
state n calls = held_in (settings_of (with_slots n)) (left n calls)

abbrev feeders : ℕ → List Call → Ring
feeders n calls = (register_at 0 (state n calls)).rings.of_feeders

-- a Feeder's ticket of bucket 3
abbrev take_it : ℕ → Call
take_it fp = ask Taken 1 fp 6

-- a dump of that bucket's Feeders, and its restore
abbrev dump_of : List ℕ → List ℕ
dump_of fps = flat word_bytes (0 ∷ 1 ∷ 3 ∷ 6 ∷ length fps ∷ (fps ++ (0 ∷ 0 ∷ [])))

abbrev brings : List ℕ → Call
brings fps = On 0 (Restore (dump_of fps))

-- the bytes that a dump into an output of so many writes
abbrev dumps : ℕ → ℕ → List Call → List ℕ
dumps n size calls = output_after (with_slots n) (left n calls) (On 0 (DumpTo (replicate size 0)))

-- ---- "see slots double with nothing added": one fingerprint in two slots, which are all. Its own dump comes out Whole, there is no
-- floor, it is still held, and the next dump has the same bytes
pub full_onto_itself : (answers 2 (take_it 7 ∷ brings (7 ∷ []) ∷ On 0 Floor ∷ ask Judged 1 7 6 ∷ [])
    ≡ Done ∷ Said New ∷ Whole 64 ∷ NoFloor ∷ Said Duplicate ∷ [])
    × ((dumps 2 64 (take_it 7 ∷ []) ≡ dump_of (7 ∷ [])) × (dumps 2 64 (take_it 7 ∷ brings (7 ∷ []) ∷ []) ≡ dump_of (7 ∷ [])))
unfolding compute_all answers_on words_left
full_onto_itself = (refl, (refl, refl))

-- three in four slots, where eight may be had: four stay, and each fingerprint lies where it lay
abbrev three_taken : List Call
three_taken = take_it 1 ∷ take_it 2 ∷ take_it 3 ∷ []

pub three_in_four_stay : ((generation_at (feeders 8 three_taken) 3).slots ≡ 0 ∷ 1 ∷ 2 ∷ 3 ∷ [])
    × ((generation_at (feeders 8 (three_taken ++ (brings (1 ∷ 2 ∷ 3 ∷ []) ∷ brings (1 ∷ 2 ∷ 3 ∷ []) ∷ []))) 3).slots ≡ 0 ∷ 1 ∷ 2 ∷ 3 ∷ [])
unfolding compute_all answers_on words_left
three_in_four_stay = (refl, refl)

-- ---- six in eight slots, which are all
abbrev six : List ℕ
six = 1 ∷ 2 ∷ 3 ∷ 4 ∷ 5 ∷ 6 ∷ []

abbrev six_taken : List Call
six_taken = take_it 1 ∷ take_it 2 ∷ take_it 3 ∷ take_it 4 ∷ take_it 5 ∷ take_it 6 ∷ []

pub own_dump_of_six : (answers 8 (six_taken ++ (brings six ∷ [])) ≡ Done ∷ replicate 6 (Said New) ++ (Whole 104 ∷ []))
    × ((dumps 8 104 six_taken ≡ dump_of six) × (dumps 8 104 (six_taken ++ (brings six ∷ [])) ≡ dump_of six))
unfolding compute_all answers_on words_left
own_dump_of_six = (refl, (refl, refl))

-- with a seventh, for which there is no room: what was drawn is given back, the generation is dropped, and the floor is the dump's newest
pub seventh_is_partly : (answers 8 (six_taken ++ (brings (six ++ (7 ∷ [])) ∷ On 0 Floor ∷ [])) ≡ Done ∷ replicate 6 (Said New) ++ (Partly 112 ∷ FloorAt 6 ∷ []))
    × (((generation_at (feeders 8 (six_taken ++ (brings (six ++ (7 ∷ [])) ∷ []))) 3).slots ≡ [])
    × (deliverer_view (Restored Feeders) (state 8 (six_taken ++ (brings (six ++ (7 ∷ [])) ∷ []))).book ≡ 0 ∷ []))
unfolding compute_all answers_on words_left
seventh_is_partly = (refl, (refl, refl))

-- ---- the draw stays: a dump that lists 5 three times, into a register that holds nothing, leaves two slots and one held, and draws
-- three entries
pub repeats : ((generation_at (feeders 2 (brings (5 ∷ 5 ∷ 5 ∷ []) ∷ [])) 3).slots ≡ 0 ∷ 5 ∷ [])
    × (deliverer_view (Restored Feeders) (state 2 (brings (5 ∷ 5 ∷ 5 ∷ []) ∷ [])).book ≡ 1 ∷ 3 ∷ 3 ∷ [])
unfolding compute_all answers_on words_left
repeats = (refl, refl)

-- "0 read as 1": 0 and 1 are one fingerprint
pub zero_and_one_are_one : (answers 2 (brings (0 ∷ 1 ∷ 0 ∷ []) ∷ []) ≡ Done ∷ Whole 80 ∷ [])
    × ((generation_at (feeders 2 (brings (0 ∷ 1 ∷ 0 ∷ []) ∷ [])) 3).slots ≡ 0 ∷ 1 ∷ [])
unfolding compute_all answers_on words_left
zero_and_one_are_one = (refl, refl)

-- ---- held means in that class and bucket: 7 is held by a Peer, or in bucket 4, and is new beside 8, for which there are two slots
abbrev peer_takes : Call
peer_takes = On 0 (Ticket Taken (record { fp = 7; stamp = 6; ms = 6; flag = 1; kind = 1; number = 1 }))

pub held_by_another_class : answers 2 (take_it 8 ∷ peer_takes ∷ brings (7 ∷ []) ∷ []) ≡ Done ∷ Said New ∷ Said New ∷ Partly 64 ∷ []
unfolding compute_all answers_on
held_by_another_class = refl

abbrev two_buckets : Call
two_buckets = On 0 (Restore (flat word_bytes (0 ∷ 2 ∷ 4 ∷ 8 ∷ 1 ∷ 7 ∷ 3 ∷ 6 ∷ 1 ∷ 8 ∷ 0 ∷ 0 ∷ [])))

pub held_in_another_bucket : answers 2 (two_buckets ∷ brings (7 ∷ []) ∷ []) ≡ Done ∷ Whole 96 ∷ Partly 64 ∷ []
unfolding compute_all answers_on
held_in_another_bucket = refl

-- ---- the conditions of specs/SameDump: all of a dump is held, and a dump call's own bytes come out Whole
pub all_six_held : (all_held 3 six (feeders 8 six_taken) ≡ true) × (each_held (record { bucket = 3; newest = 6; prints = six } ∷ []) (feeders 8 six_taken) ≡ true)
unfolding compute_all answers_on words_left all_held each_held
all_six_held = (refl, refl)

six_small : all_small (left 8 six_taken) ≡ true
unfolding compute_all answers_on words_left all_small
six_small = refl

six_said : reply (with_slots 8) (left 8 six_taken) (On 0 (DumpTo (replicate 104 0))) ≡ Dumped 104
unfolding compute_all answers_on words_left
six_said = refl

pub dump_of_six : ADump
dump_of_six = record {
  settings = with_slots 8;
  words = left 8 six_taken;
  register = 0;
  output = replicate 104 0;
  told = 104;
  small = small_words (left 8 six_taken) six_small;
  said = six_said;
}

pub comes_out_whole : reply (with_slots 8) (left 8 six_taken) (On 0 (Restore (bytes_of dump_of_six))) ≡ Whole 104
unfolding compute_all answers_on words_left dump_of_six
comes_out_whole = refl
