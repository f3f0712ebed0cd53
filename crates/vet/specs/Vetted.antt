-- The refusals that settings and words cause by themselves, whatever the call: the first three of the model's list.
use Rattle.std.specs.Prelude.{ℕ, not, List, [], ◌∷◌}
use Rattle.model.specs.Settings.{settings_of}
use Rattle.model.specs.Calls.{refusal, first_met, settings_words_fit, too_short, sound}

-- 1, of the settings
unfoldable pub unfit_alone : List ℕ → ℕ
unfit_alone st = first_met (refusal 1 (not (settings_words_fit st)) ∷ [])

-- 1, 2 and 3
unfoldable pub vetted : List ℕ → List ℕ → ℕ
vetted st ws =
    first_met (refusal 1 (not (settings_words_fit st)) ∷ refusal 2 (too_short st ws) ∷ refusal 3 (not (sound (settings_of st) ws)) ∷ [])
