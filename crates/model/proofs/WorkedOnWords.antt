-- The worked cases on words (specs/WorkedOnWords): computed on states (proofs/Worked), carried to words (proofs/SameAnswers).
use Prim.Native.Nat.{ℕ, ◌≤◌}
use mathlib.Core.Path.{◌≡◌, refl, ap, ◌∙◌}
use mathlib.Core.Bool.{true, false}
use mathlib.Core.List.{List, [], ◌∷◌, ◌++◌, map}
use lib.Dec.{lit≤}
use lib.ListN.{length, get_or, replicate}
use borrow.Author.Tests.{le-ltb}
use Rattle.runs.specs.Chunks.{flat}
use Rattle.model.specs.Answer.{Answer}
use Rattle.model.specs.Answer.{Done, Dumped}
use Rattle.model.specs.Numbers.{compute_numbers}
use Rattle.model.specs.Settings.{compute_settings, settings_of, words_needed}
use Rattle.model.specs.Class.{compute_class}
use Rattle.model.specs.Dump.{bytes_of, word_bytes, dump_words, dump_bytes}
use Rattle.model.specs.Codes.{compute_codes, went_through}
use Rattle.model.specs.Calls.{compute_calls, Call, Open, On, DumpTo, register_at, unfit, too_short, unsound, is_open, no_such_register, own_refusals, first_met, held_in}
use Rattle.model.specs.Calls.{refused, reply, output_of, written_by, written_over, output_after}
use Rattle.model.specs.View.{holding}
use Rattle.model.specs.SameAnswers.{answers_from, answers_on, words_left, SameOn}
use Rattle.model.specs.Worked.{settings, open_ample, open_twelve, before, last, Case, cases, P1, strikes, slots_in, slots_holding, numbers, dumped, dumped_paper, Outcome, outcome, paper}
use Rattle.model.specs.WorkedOnWords.{WorkedOn, WorkedOnWords}
use Rattle.model.proofs.Refusals.{step_through}
use Rattle.model.proofs.View.{view_read}
use Rattle.model.proofs.Simulates.{reply_is}
use Rattle.model.proofs.RoundTrip.{said_many}
use Rattle.model.proofs.SameAnswers.{same_from_opening}
use Rattle.model.proofs.Worked.{worked}

-- ---- an opening that fits goes through, on words enough of any content
opens_through : (st ws limits starts : List ℕ) → unfit st (Open limits starts) ≡ false → words_needed (settings_of st) ≤ length ws
    → went_through (reply st ws (Open limits starts)) ≡ true
unfolding refused first_met too_short unsound is_open no_such_register own_refusals
opens_through st ws limits starts fit long =
    let z : refused st ws (Open limits starts) ≡ 0 = rw (fit, le-ltb (length ws) (words_needed (settings_of st)) long) refl in
    ap went_through (reply_is st ws (Open limits starts) z) ∙ step_through (settings_of st) (Open limits starts) (held_in (settings_of st) ws)

ample_fits : unfit settings open_ample ≡ false
unfolding compute_numbers compute_settings compute_class compute_codes compute_calls
ample_fits = refl

twelve_fits : unfit settings open_twelve ≡ false
unfolding compute_numbers compute_settings compute_class compute_codes compute_calls
twelve_fits = refl

-- ---- what was computed: the slots of P10, and the answers and the dump of P11
slots_paper : map slots_holding (1 ∷ 2 ∷ 3 ∷ 4 ∷ 6 ∷ []) ≡ 2 ∷ 4 ∷ 4 ∷ 8 ∷ 8 ∷ []
unfolding outcome paper numbers
slots_paper =
    ap (λ (o : Outcome). get_or o.numbers 7 0 ∷ get_or o.numbers 8 0 ∷ get_or o.numbers 9 0 ∷ get_or o.numbers 10 0 ∷ get_or o.numbers 11 0 ∷ []) worked

abbrev dump_call : Call
dump_call = On 0 (DumpTo (replicate 64 0))

said_paper : get_or (answers_from settings before (P1 ++ (dump_call ∷ []))) 2 Done ≡ Dumped 64
unfolding outcome paper cases
said_paper = ap (λ (o : Outcome). get_or (get_or o.answers 6 []) 2 Done) worked

dump_paper : dump_words (register_at 0 (last before P1)) ≡ dumped_paper
unfolding outcome paper dumped
dump_paper = ap (λ (o : Outcome). o.dump) worked

-- its eight words fill the 64 bytes
sixty_four : written_over (flat word_bytes dumped_paper) (replicate 64 0) ≡ flat word_bytes dumped_paper
unfolding flat bytes_of
sixty_four = refl

module _ (ws : List ℕ) (long : words_needed (settings_of settings) ≤ length ws) where
  ample : (calls : List Call) → SameOn settings ws before (open_ample ∷ calls)
  ample calls = same_from_opening settings ws (replicate 5 1_000) (replicate 8 0) (opens_through settings ws (replicate 5 1_000) (replicate 8 0) ample_fits long) before calls

  twelve : (calls : List Call) → SameOn settings ws before (open_twelve ∷ calls)
  twelve calls = same_from_opening settings ws (replicate 5 12) (replicate 8 0) (opens_through settings ws (replicate 5 12) (replicate 8 0) twelve_fits long) before calls

  -- ---- every case
  abbrev AllSame : List Case → Type 0
  AllSame [] = Unit {0}
  AllSame (c ∷ cs) = SameOn settings ws before c.calls × AllSame cs

  answers_same : (cs : List Case) → AllSame cs
      → map (λ (c : Case). answers_on settings ws c.calls) cs ≡ map (λ (c : Case). answers_from settings before c.calls) cs
  answers_same [] h = refl
  answers_same (c ∷ cs) h = rw (h.0.answers, answers_same cs h.1) refl

  all_same : AllSame cases
  unfolding cases
  all_same = (ample _, (ample _, (ample _, (ample _, (ample _, (ample _, (ample _, (twelve _, (ample _, tt)))))))))

  -- ---- what the words hold, and the dump
  slots_same : (n : ℕ) → slots_in (holding (words_left settings ws (open_ample ∷ strikes n))) ≡ slots_holding n
  unfolding slots_holding
  slots_same n = ap slots_in (view_read (words_left settings ws (open_ample ∷ strikes n)) _ (ample (strikes n)).seen).holds

  said : reply settings (words_left settings ws P1) dump_call ≡ Dumped 64
  unfolding answers_on words_left
  said = ap (λ (l : List Answer). get_or l 2 Done) (ample _).answers ∙ said_paper

  written : output_after settings (words_left settings ws P1) dump_call ≡ flat word_bytes dumped_paper
  unfolding output_after output_of written_by dump_bytes
  written =
      let p = said_many settings (words_left settings ws P1) 0 (replicate 64 0) 64 said in
      rw (p.0, (ample _).holds, dump_paper) sixty_four

pub worked_on_words : WorkedOnWords
unfolding outcome paper
worked_on_words ws long = record {
  answers = answers_same ws long cases (all_same ws long) ∙ ap (λ (o : Outcome). o.answers) worked;
  slots = rw (slots_same ws long 1, slots_same ws long 2, slots_same ws long 3, slots_same ws long 4, slots_same ws long 6) slots_paper;
  dump = written ws long;
}

-- on 1,928 words, all of them 5
pub on_fives : WorkedOn (replicate 1_928 5)
unfolding compute_numbers compute_settings
on_fives = worked_on_words (replicate 1_928 5) (lit≤ tt)
