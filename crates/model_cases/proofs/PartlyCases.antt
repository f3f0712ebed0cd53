-- Request Q-3 by computing: restores over live strikes that come out Partly, and what a dump lists. Assumes nothing.
use Prim.Native.Nat.{ℕ}
use mathlib.Core.Path.{◌≡◌, refl}
use mathlib.Core.Bool.{true, false}
use mathlib.Core.List.{List, [], ◌∷◌}
use Rattle.std.specs.Prelude.{Some}
use lib.Dec.{lit≤}
use lib.ListN.{replicate}
use Rattle.runs.specs.Chunks.{flat}
use Rattle.model.specs.declared.Class.TheVariants.{Feeders}
use Rattle.model.specs.declared.Manner.TheVariants.{Judged, Taken}
use Rattle.model.specs.declared.Verdict.TheVariants.{New, Duplicate, Late}
use Rattle.model.specs.Answer.{Answer}
use Rattle.model.specs.Answer.{Done, Said, Whole, Partly, FloorAt}
use Rattle.model.specs.Numbers.{top64}
use Rattle.model.specs.Settings.{settings_of, usable_at}
use Rattle.model.specs.Dump.{Dumped, Dump, first, further, word_bytes, read_dump}
use Rattle.model.specs.Codes.{went_through}
use Rattle.model.specs.Calls.{Call, On, Sweep, Floor, kind, opened, reply}
use Rattle.model.specs.View.{left_by}
use Rattle.model.specs.Once.{Strike, asks_about, remade_among, Answered, moments}
use Rattle.model.specs.SameAnswers.{served, answers_from}
use Rattle.model.specs.Worked.{open_ample, take_it, judge_it}
use Rattle.model.specs.Worked.{ask as ask_of_kind}
use Rattle.model.specs.ListedStruck.{Listed}
use Rattle.model.proofs.NotVacuous.{compute_all, settings, given, opened_words, ask, brings}

-- ---- restores over live strikes, under the settings of the worked cases with P places and S slots
abbrev over : ℕ → ℕ → List Call → List Answer
over places slots calls =
    let st : List ℕ = 1 ∷ places ∷ 16 ∷ 1 ∷ 1 ∷ 10_000 ∷ 2_000 ∷ 20_000 ∷ 2_000 ∷ 1_000 ∷ slots ∷ replicate 18 0 in
    answers_from st (opened (settings_of st) [] []) (open_ample ∷ calls)

-- a dump of one Feeders' generation, which lists 8
abbrev brings_8 : ℕ → ℕ → Call
brings_8 bucket newest = brings (0 ∷ 1 ∷ bucket ∷ newest ∷ 1 ∷ 8 ∷ 0 ∷ 0 ∷ [])

-- the customer's incident: two slots hold 7, and 8 finds none. Bucket 120 is dropped, the floor is the newest stamp that it had, and the
-- same ticket is Late
pub late_after_partly : over 8 2 (take_it 7 100_000 ∷ brings_8 120 99_500 ∷ On 0 Floor ∷ take_it 7 100_000 ∷ [])
    ≡ Done ∷ Said New ∷ Partly 64 ∷ FloorAt 100_000 ∷ Said Late ∷ []
unfolding compute_all served answers_from
late_after_partly = refl

-- the dump's newest is larger, and the floor is that one
pub dump_is_newer : over 8 2 (take_it 7 100_000 ∷ brings_8 120 100_500 ∷ On 0 Floor ∷ take_it 7 100_000 ∷ [])
    ≡ Done ∷ Said New ∷ Partly 64 ∷ FloorAt 100_500 ∷ Said Late ∷ []
unfolding compute_all served answers_from
dump_is_newer = refl

-- the largest stamp
pub floor_at_the_top : over 8 2 (ask_of_kind Taken 0 1 top64 7 top64 ∷ brings_8 18_446_744_073_709_552 99_500 ∷ On 0 Floor ∷ ask_of_kind Taken 0 1 top64 7 top64 ∷ [])
    ≡ Done ∷ Said New ∷ Partly 64 ∷ FloorAt top64 ∷ Said Late ∷ []
unfolding compute_all served answers_from
floor_at_the_top = refl

-- one place, and Feeder 1 has it: the first share is refused, nothing was inserted, and its ticket is Late
pub share_refused_at_the_first : over 1 8 (take_it 7 100_000 ∷ brings_8 120 99_500 ∷ On 0 Floor ∷ take_it 7 100_000 ∷ judge_it 8 99_500 ∷ [])
    ≡ Done ∷ Said New ∷ Partly 64 ∷ FloorAt 100_000 ∷ Said Late ∷ Said Late ∷ []
unfolding compute_all served answers_from
share_refused_at_the_first = refl

-- buckets 96 and 120 have one position: nothing is dropped, the floor is the dump's newest, and the ticket of bucket 120 is a duplicate
pub collision_drops_nothing : over 8 8 (take_it 7 100_000 ∷ brings_8 96 76_000 ∷ On 0 Floor ∷ take_it 7 100_000 ∷ [])
    ≡ Done ∷ Said New ∷ Partly 64 ∷ FloorAt 76_000 ∷ Said Duplicate ∷ []
unfolding compute_all served answers_from
collision_drops_nothing = refl

-- the failed generation is of Feeders: a Peer's ticket of the same bucket stays
pub other_classes_stay : over 8 2 (take_it 7 100_000 ∷ ask_of_kind Taken 1 1 100_000 9 100_000 ∷ brings_8 120 99_500 ∷ take_it 7 100_000
    ∷ ask_of_kind Judged 1 1 100_000 9 100_000 ∷ [])
    ≡ Done ∷ Said New ∷ Said New ∷ Partly 64 ∷ Said Late ∷ Said Duplicate ∷ []
unfolding compute_all served answers_from
other_classes_stay = refl

-- ---- what a dump lists (specs/ListedStruck), under the settings of proofs/NotVacuous: four fingerprints find no room in four slots
abbrev four : List ℕ
four = 0 ∷ 1 ∷ 3 ∷ 5 ∷ 4 ∷ 8 ∷ 9 ∷ 10 ∷ 11 ∷ 0 ∷ 0 ∷ []

abbrev four_dumped : Dumped
four_dumped = record { bucket = 3; newest = 5; prints = 8 ∷ 9 ∷ 10 ∷ 11 ∷ [] }

abbrev dump_of_four : Dump
dump_of_four = record { floor = 0; classes = record { of_feeders = four_dumped ∷ []; of_peers = []; of_own = [] }; words = 11 }

abbrev nine : Strike
nine = record { register = 0; print = 9; stamp = 5 }

pub nine_is_listed : Listed (usable_at (settings_of settings) 0) dump_of_four nine
unfolding compute_all
nine_is_listed = record { class = Feeders; generation = four_dumped; its = first; print = 9; listed = further first; read = refl; bucket = refl; up_to = lit≤ tt }

-- the conditions one by one: the dump is read, the restore goes through, a sweep remakes nothing, and the ticket is asked about
pub listed_conditions : (read_dump (flat word_bytes four) ≡ Some dump_of_four)
    × ((went_through (reply settings opened_words (brings four)) ≡ true)
    × ((remade_among 0 (left_by opened_words (given (brings four))) (given (On 0 (Sweep 7)) ∷ []) ≡ false)
    × (asks_about (kind (ask Judged 1 9 5)) ≡ Some nine)))
unfolding compute_all
listed_conditions = (refl, (refl, (refl, refl)))

-- the restore comes out Partly: 9 is held nowhere, and late up to the dump's newest, 5. Stamp 6 of the same bucket is past it, and New
pub listed_after_partly : moments opened_words (given (brings four) ∷ given (ask Taken 1 9 5) ∷ given (ask Judged 1 9 6) ∷ [])
    ≡ Answered (brings four) (Partly 88) ∷ Answered (ask Taken 1 9 5) (Said Late) ∷ Answered (ask Judged 1 9 6) (Said New) ∷ []
unfolding compute_all
listed_after_partly = refl

-- after one that comes out Whole what it lists is a duplicate, and once swept late. It lists 0, which is read as 1
abbrev lists_zero : Call
lists_zero = brings (0 ∷ 1 ∷ 3 ∷ 6 ∷ 2 ∷ 0 ∷ 8 ∷ 0 ∷ 0 ∷ [])

pub listed_after_whole : moments opened_words
    (given lists_zero ∷ given (ask Judged 1 1 6) ∷ given (ask Taken 1 0 5) ∷ given (On 0 (Sweep 8)) ∷ given (ask Taken 1 8 6) ∷ [])
    ≡ Answered lists_zero (Whole 72) ∷ Answered (ask Judged 1 1 6) (Said Duplicate) ∷ Answered (ask Taken 1 0 5) (Said Duplicate)
    ∷ Answered (On 0 (Sweep 8)) Done ∷ Answered (ask Taken 1 8 6) (Said Late) ∷ []
unfolding compute_all
listed_after_whole = refl
