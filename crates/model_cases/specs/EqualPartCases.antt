-- The conditions of Equal part can be met: two lists of calls on words of any content, here all 5, and the party that asks after each.
-- In the first three parties stand above T, a restored deliverer among them, and a restore that was Partly and a limit change to the same
-- five values lie between. In the second the position of the ticket's bucket is another bucket's.
use Rattle.std.specs.Prelude.{ℕ, false, Option, Some, None, List, [], ◌∷◌, ◌++◌, replicate}
use Rattle.model.specs.declared.Manner.TheVariants.{Taken}
use Rattle.model.specs.declared.Verdict.{Verdict}
use Rattle.model.specs.declared.Verdict.TheVariants.{New, Late}
use Rattle.model.specs.Answer.{Answer}
use Rattle.model.specs.Answer.{Done, Said, Whole, Partly, Totals}
use Rattle.runs.specs.Words.{zeros, same_words, pad}
use Rattle.runs.specs.Chunks.{flat}
use Rattle.runs.specs.Combine.{EachOk, wide_row, enc_row, read_row, test_row, enc_up, read_up, test_up}
use Rattle.model.specs.Settings.{settings_of, words_needed}
use Rattle.model.specs.Dump.{word_bytes}
use Rattle.model.specs.BookWords.{read_pairs, pairs_sound, place_sound, used_place, has_place, distinct}
use Rattle.model.specs.RegisterWords.{heading_sound}
use Rattle.model.specs.GenerationWords.{reached_from, generation_sound}
use Rattle.model.specs.Words.{front_sound}
use Rattle.model.specs.Calls.{Asking, Ticket, Restore, Call, Open, On, Expire, SetLimits, ClassTotals, opened}
use Rattle.model.specs.View.{Given, answered, left_by}
use Rattle.model.specs.EqualPart.{Since, since_opening}

-- R 1, P 3, E 2, both units 1; 2,000 behind and 0 ahead; bucket 1,000, so ring 4; S 8
abbrev pub settings : List ℕ
settings = 1 ∷ 3 ∷ 2 ∷ 1 ∷ 1 ∷ 2_000 ∷ 0 ∷ 2_000 ∷ 0 ∷ 1_000 ∷ 8 ∷ replicate 18 0

abbrev pub start : List ℕ
start = replicate (words_needed (settings_of settings)) 5

-- T 9, every share 9, opened Empty
abbrev pub nine : List ℕ
nine = replicate 5 9

abbrev pub opening : Call
opening = Open nine (replicate 8 0)

-- a Feeder's ticket, stamped at the reading
abbrev pub ticket : ℕ → ℕ → ℕ → Asking
ticket id fp ms = record { fp = fp; stamp = ms; ms = ms; flag = 1; kind = 0; number = id }

abbrev pub takes : Asking → Call
takes a = On 0 (Ticket Taken a)

-- a dump with one generation, in class 0
abbrev pub one_generation : ℕ → ℕ → List ℕ → List ℕ
one_generation bucket n prints = flat word_bytes ((0 ∷ 1 ∷ bucket ∷ 900 ∷ n ∷ prints) ++ (0 ∷ 0 ∷ []))

abbrev pub with_settings : Call → Given
with_settings call = record { settings = settings; call = call }

pub record Case : Type 0 where
  pub calls : List Given
  -- who asks then, and what is due
  pub asks : Asking
  pub due : Verdict

-- two entries are restored, Feeder 1 takes four; of three more to be restored one is granted and given back; so Feeder 1 has its fifth;
-- Feeder 2 has one entry, and asks for its second
abbrev pub three_parties : Case
three_parties = record {
  calls = with_settings opening ∷ with_settings (On 0 (Restore (one_generation 4 2 (31 ∷ 32 ∷ [])))) ∷ with_settings (takes (ticket 1 11 1_000))
      ∷ with_settings (takes (ticket 1 12 1_000)) ∷ with_settings (takes (ticket 1 13 1_000)) ∷ with_settings (takes (ticket 1 14 1_000))
      ∷ with_settings (On 0 (Restore (one_generation 5 3 (41 ∷ 42 ∷ 43 ∷ [])))) ∷ with_settings (takes (ticket 1 15 1_000))
      ∷ with_settings (takes (ticket 2 16 2_000)) ∷ with_settings (Expire 1_000) ∷ with_settings (SetLimits nine) ∷ with_settings (ClassTotals 0) ∷ [];
  asks = ticket 2 17 2_000;
  due = New;
}

-- a clock that steps back: bucket 12 is held at position 0, where bucket 8 belongs
abbrev pub another_bucket : Case
another_bucket = record {
  calls = with_settings opening ∷ with_settings (takes (ticket 1 11 10_000)) ∷ [];
  asks = ticket 1 12 6_000;
  due = Late;
}

unfoldable pub answers : List ℕ → List Given → List Answer
answers ws [] = []
answers ws (g ∷ gs) = answered ws g ∷ answers (left_by ws g) gs

-- 8 entries of 3 holders: 11 units, where T is 9
abbrev pub heard_of_three : List Answer
heard_of_three =
    Done ∷ Whole 72 ∷ replicate 4 (Said New) ++ (Partly 80 ∷ Said New ∷ Said New ∷ Done ∷ Done ∷ Totals 8 3 11 1 ∷ [])

-- what the rules yield since the opening
abbrev pub found : Option Since → Since
found None = record { settings = settings_of settings; state = opened (settings_of settings) nine []; unchanged = false }
found (Some x) = x

unfoldable pub yields : Case → Since
yields c = found (since_opening None start c.calls)

-- all that words are tested, read and written by, for a theorem that computes
unfoldable pub compute_words : ℕ
unfolding zeros same_words pad flat EachOk wide_row enc_row read_row test_row enc_up read_up test_up read_pairs pairs_sound place_sound used_place has_place distinct heading_sound reached_from generation_sound front_sound
compute_words = 0
