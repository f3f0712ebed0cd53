-- Soundness is kept: the register never refuses its own words.
-- "Settings and soundness" says which words are sound; `(state_form s).Ok` says the same of the state that they hold: slots distinct
-- and found by probing, at most 3/4 full and a power of two; pairs rising; totals the sums; entries at most 2,000,000; and so on.
use Rattle.std.specs.Prelude.{ℕ, ◌≤◌, ◌≡◌, true, false, Some, List, length}
use Rattle.model.specs.declared.Settings.{Settings}
use Rattle.model.specs.Settings.{settings_of, settings_fit, words_needed}
use Rattle.model.specs.Words.{State, state_form}
use Rattle.model.specs.Codes.{went_through}
use Rattle.model.specs.Calls.{Call, Open, opened, step, codes_fit, no_such_register, settings_words_fit, sound, held_in}
use Rattle.model.specs.View.{view, Given, answered, left_by}

-- ---- on states: every call takes every well-formed state to a well-formed state, and an opening makes one
-- the call's codes are listed and its register is there
abbrev pub Admitted : Settings → Call → Type 0
Admitted s call = (codes_fit s call ≡ true) × (no_such_register s call ≡ false)

abbrev pub SoundnessKept : Type 0
SoundnessKept =
    (s : Settings) (call : Call) (t : State) → settings_fit s ≡ true → Admitted s call → (state_form s).Ok t → (state_form s).Ok (step s call t).state

abbrev pub OpenedSound : Type 0
OpenedSound =
    (s : Settings) (limits starts : List ℕ) → settings_fit s ≡ true → codes_fit s (Open limits starts) ≡ true
    → (state_form s).Ok (opened s limits starts)

-- ---- on words: none of the refusals 1 (for the settings), 2 and 3 is met
pub record Vetted (st ws : List ℕ) : Type 0 where
  pub fit : settings_words_fit st ≡ true
  pub long : words_needed (settings_of st) ≤ length ws
  pub sound : sound (settings_of st) ws ≡ true

-- after a call that went through the words are vetted again under the same settings, and hold what the rules make of what they held;
-- so do the words by themselves
pub record Simulated (ws : List ℕ) (g : Given) : Type 0 where
  pub vetted : Vetted g.settings (left_by ws g)
  pub holds : held_in (settings_of g.settings) (left_by ws g)
      ≡ (step (settings_of g.settings) g.call (held_in (settings_of g.settings) ws)).state
  pub seen : view (left_by ws g) ≡ Some (step (settings_of g.settings) g.call (held_in (settings_of g.settings) ws)).state
  pub as_long : length (left_by ws g) ≡ length ws

abbrev pub Simulation : Type 0
Simulation = (ws : List ℕ) (g : Given) → went_through (answered ws g) ≡ true → Simulated ws g
