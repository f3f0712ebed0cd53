-- "Tickets worked through", as the calls answer on words. The customer's sentences:
--
-- "What is proved by example? Cases marked P, through one shared table and one theorem"
--
-- "Origin 10,000 behind, copy 20,000, both 2,000 ahead; bucket 1,000; ring 24; S 8; ample limits; one register, opened Empty."
--
-- The words are any, of any content, as many as these settings need or more: every case opens them first. The table is specs/Worked.
use Rattle.std.specs.Prelude.{ℕ, ◌≤◌, ◌≡◌, List, [], ◌∷◌, map, length, replicate}
use Rattle.runs.specs.Chunks.{flat}
use Rattle.model.specs.Settings.{settings_of, words_needed}
use Rattle.model.specs.Dump.{word_bytes}
use Rattle.model.specs.Calls.{On, DumpTo, output_after}
use Rattle.model.specs.View.{holding}
use Rattle.model.specs.SameAnswers.{answers_on, words_left}
use Rattle.model.specs.Worked.{settings, open_ample, Case, cases, P1, strikes, slots_in, dumped_paper}

pub record WorkedOn (ws : List ℕ) : Type 0 where
  -- P1 to P13: every call answers as the paper says
  pub answers : map (λ (c : Case). answers_on settings ws c.calls) cases ≡ map (λ (c : Case). c.gives) cases
  -- P10: "holding 1, 2, 3, 4, 6 gives 2, 4, 4, 8, 8 slots"
  pub slots : map (λ (n : ℕ). slots_in (holding (words_left settings ws (open_ample ∷ strikes n)))) (1 ∷ 2 ∷ 3 ∷ 4 ∷ 6 ∷ []) ≡ 2 ∷ 4 ∷ 4 ∷ 8 ∷ 8 ∷ []
  -- P11, after P1 alone: "dump words 0, 1, 120, 100,000, 1, 7, 0, 0", in the 64 bytes that the call writes
  pub dump : output_after settings (words_left settings ws P1) (On 0 (DumpTo (replicate 64 0))) ≡ flat word_bytes dumped_paper

abbrev pub WorkedOnWords : Type 0
WorkedOnWords = (ws : List ℕ) → words_needed (settings_of settings) ≤ length ws → WorkedOn ws
