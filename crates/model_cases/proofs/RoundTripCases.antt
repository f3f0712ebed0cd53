-- The conditions of the round trip are met, computed on words, settings, calls and bytes (specs/RoundTripCases); so what was dumped comes
-- back.
use Prim.Native.Nat.{ℕ, ◌+◌, ◌<◌}
use native.Mathlib.Omega.{arith}
use mathlib.Core.Path.{◌≡◌, refl}
use mathlib.Core.Bool.{Bool, true, false, ◌&&◌}
use mathlib.Core.List.{List, [], ◌∷◌, ◌++◌}
use lib.Dec.{leb, lit≤}
use lib.ListN.{length, replicate}
use borrow.Author.Tests.{leb-true}
use Rattle.model.specs.declared.Class.{Class}
use Rattle.model.specs.declared.Class.TheVariants.{Feeders, Peers, Own}
use Rattle.model.specs.declared.Start.TheVariants.{Empty}
use Rattle.model.specs.Answer.{Dumped, Whole}
use Rattle.runs.proofs.Cases.{both_true}
use Rattle.model.specs.Numbers.{top64}
use Rattle.model.specs.Settings.{settings_of, usable_at, words_needed}
use Rattle.model.specs.Class.{pick}
use Rattle.model.specs.Book.{Book, together, places_of}
use Rattle.model.specs.Register.{Register, started}
use Rattle.model.specs.Dump.{dump_words}
use Rattle.model.specs.Codes.{went_through}
use Rattle.model.specs.Words.{State}
use Rattle.model.specs.Soundness.{Vetted}
use Rattle.model.specs.Calls.{On, Restore, register_at, held_in, reply, after, compute_rules}
use Rattle.model.specs.View.{words_after}
use Rattle.model_cases.specs.EqualPartCases.{compute_words}
use Rattle.model.specs.RoundTrip.{seconds_in, pairs_with, new_units, RoomFor, EnoughRoom, Words64, Source, written, Target, Returns, touches, none_touches}
use Rattle.model_cases.specs.RoundTripCases.{source_settings, source_words, output, dump_call, target_settings, target_opening, target_calls, target_words}
use Rattle.model.specs.BringsBack.{ADump, NewlyOpened, BringsBack}
use Rattle.model.proofs.Simulates.{vetted_kept}
use Rattle.model.proofs.RoundTrip.{vetted_seen, round_trip}
use Rattle.model.proofs.BringsBack.{dump_brings_back}

-- all that words are tested, read and written by, and all rules
unfoldable compute_all : ℕ
unfolding compute_words compute_rules went_through words_after seconds_in pairs_with new_units
compute_all = 0

unfoldable pub all_small : List ℕ → Bool
all_small [] = true
all_small (w ∷ ws) = leb w top64 && all_small ws

pub small_words : (ws : List ℕ) → all_small ws ≡ true → Words64 ws
unfolding all_small
small_words [] t = tt
small_words (w ∷ ws) t = let p = both_true (leb w top64) (all_small ws) t in (leb-true w top64 p.0, small_words ws p.1)

-- ---- the source
words_small : all_small source_words ≡ true
unfolding compute_all all_small
words_small = refl

pub said : reply source_settings source_words dump_call ≡ Dumped 104
unfolding compute_all
said = refl

source_vetted : Vetted source_settings source_words
unfolding compute_all
source_vetted = record { fit = refl; long = lit≤ tt; sound = refl }

abbrev held_there : State
held_there = held_in (settings_of source_settings) source_words

pub source : Source source_settings source_words held_there 0 output 104
source = record { words = small_words source_words words_small; holds = vetted_seen source_settings source_words source_vetted; said = said }

-- ---- the target
target_vetted : Vetted target_settings target_words
unfolding compute_all
target_vetted = record { fit = refl; long = lit≤ tt; sound = refl }

abbrev held_here : State
held_here = held_in (settings_of target_settings) target_words

untouched : register_at 1 held_here ≡ started (usable_at (settings_of source_settings) 0) Empty
unfolding compute_all
untouched = refl

target : Target (usable_at (settings_of source_settings) 0) target_settings target_words held_here 1
target = record {
  holds = vetted_seen target_settings target_words target_vetted;
  fit = target_vetted.fit;
  kept = vetted_kept target_settings target_words target_vetted;
  there = lit≤ tt;
  settings = refl;
  untouched = untouched;
}

abbrev from : Register
from = register_at 0 held_there

abbrev book : Book
book = held_here.book

-- one entry comes to class 0, where the restored deliverer has one; two to class 1, where it has none; none to class 2
class_room : (c : Class) → 0 < length (seconds_in (usable_at (settings_of source_settings) 0) (pick c from.rings))
    → RoomFor (settings_of target_settings).shares (together book.limits c) c (seconds_in (usable_at (settings_of source_settings) 0) (pick c from.rings)) (places_of c book)
unfolding compute_all
class_room Feeders h = record { covered = lit≤ tt; a_place = refl; the_pairs = lit≤ tt }
class_room Peers h = record { covered = lit≤ tt; a_place = refl; the_pairs = lit≤ tt }
class_room Own h = absurd (omega arith)

still_open : book.closed ≡ false
unfolding compute_all
still_open = refl

room : EnoughRoom (usable_at (settings_of source_settings) 0) (settings_of target_settings).shares book from.rings
room = record { open_book = still_open; per_class = class_room }

-- ---- so it comes back, also with bytes after it
abbrev dump : List ℕ
dump = written source_settings source_words 0 output 104

pub comes_back : (more : List ℕ) → Returns from dump target_settings target_words 1 (dump ++ more)
comes_back more = (round_trip source_settings source_words held_there 0 output 104 source target_settings target_words held_here 1 target room more).1

-- ---- and by the whole sentence: the words are opened anew, and the calls after it are not on register 1
abbrev a_dump : ADump
a_dump = record {
  settings = source_settings;
  words = source_words;
  register = 0;
  output = output;
  told = 104;
  small = source.words;
  said = said;
}

gone_through : went_through (reply target_settings (replicate (words_needed (settings_of target_settings) + 2) 6) target_opening) ≡ true
unfolding compute_all
gone_through = refl

abbrev newly_opened : NewlyOpened (usable_at (settings_of source_settings) 0)
newly_opened = record {
  settings = target_settings;
  words = replicate (words_needed (settings_of target_settings) + 2) 6;
  limits = replicate 5 9;
  starts = replicate 8 0;
  register = 1;
  through = gone_through;
  there = lit≤ tt;
  empty = refl;
  same = refl;
}

not_touched : none_touches 1 target_calls ≡ true
unfolding none_touches touches compute_all
not_touched = refl

pub whole_sentence : (more : List ℕ) → BringsBack a_dump target_settings target_words 1 more
whole_sentence more =
    let there = vetted_kept source_settings source_words source_vetted in
    let here = vetted_kept target_settings target_words target_vetted in
    dump_brings_back a_dump newly_opened target_calls not_touched (rw (there, here) room) more

-- ---- and by computing, with nine bytes after it: 104 bytes read, floor 1,000, and each class holds in bucket 4 what it held, and nothing else
abbrev trailing : List ℕ
trailing = replicate 9 1

abbrev restored : Register
restored = register_at 1 (held_in (settings_of target_settings) (after target_settings target_words (On 1 (Restore (dump ++ trailing)))))

pub read_whole : reply target_settings target_words (On 1 (Restore (dump ++ trailing))) ≡ Whole 104
unfolding compute_all
read_whole = refl

pub dumped_again : dump_words restored ≡ 1_001 ∷ 1 ∷ 4 ∷ 2_000 ∷ 1 ∷ 13 ∷ 1 ∷ 4 ∷ 2_000 ∷ 2 ∷ 21 ∷ 22 ∷ 0 ∷ []
unfolding compute_all
dumped_again = refl
