-- The state that words hold by themselves, under the settings that they keep; and lists of calls on the same words.
use Rattle.std.specs.Prelude.{ℕ, zero, suc, ◌+◌, ◌-◌, cond, ◌&&◌, Option, Some, None, List, [], ◌∷◌, ◌++◌, leb, length, get_or, drop, replicate}
use Rattle.model.specs.declared.Usable.{Usable}
use Rattle.model.specs.declared.Settings.{Settings}
use Rattle.model.specs.declared.Shares.{Shares}
use Rattle.model.specs.Answer.{Answer}
use Rattle.model.specs.Settings.{no_usable, settings_fit, words_needed, register_words, book_words}
use Rattle.model.specs.RegisterWords.{heading_width}
use Rattle.model.specs.Words.{State, front_width}
use Rattle.model.specs.Calls.{Call, sound, held_in, reply, after}

-- ---- the settings that words keep: the front's, and each register's at its start
abbrev pub kept_usable_of : List ℕ → Usable
kept_usable_of ws = record {
  origin = record { behind = get_or ws 0 0; ahead = get_or ws 1 0 };
  copy = record { behind = get_or ws 2 0; ahead = get_or ws 3 0 };
  bucket = get_or ws 4 0;
  slots = get_or ws 5 0;
}

unfoldable pub kept_usables : ℕ → List ℕ → List Usable
kept_usables zero ws = []
kept_usables (suc n) ws =
    kept_usable_of ws ∷ kept_usables n (drop (heading_width + register_words (kept_usable_of ws)) ws)

abbrev pub kept_shares_of : List ℕ → Shares
kept_shares_of ws = record { places = get_or ws 1 0; pairs = get_or ws 2 0; feeder = get_or ws 3 0; peer = get_or ws 4 0 }

-- the front and the 12 words of class totals stand before the registers, beside the book's places
abbrev pub registers_start : Shares → ℕ
registers_start b = front_width + 12 + book_words b

unfoldable pub kept_settings : List ℕ → Settings
kept_settings ws = record {
  registers = get_or ws 0 0;
  shares = kept_shares_of ws;
  usable = kept_usables (get_or ws 0 0) (drop (registers_start (kept_shares_of ws)) ws) ++ replicate (4 - get_or ws 0 0) no_usable;
}

-- the state, or none where the words are not sound
unfoldable pub view : List ℕ → Option State
view ws =
    let s = kept_settings ws in
    cond (settings_fit s && (leb (words_needed s) (length ws) && sound s ws)) (Some (held_in s ws)) None

-- what words hold under the settings that they keep: what `view` shows, where they are sound
abbrev pub holding : List ℕ → State
holding ws = held_in (kept_settings ws) ws

-- ---- a call with the settings that it brings, and lists of them
pub record Given : Type 0 where
  pub settings : List ℕ
  pub call : Call

abbrev pub answered : List ℕ → Given → Answer
answered ws g = reply g.settings ws g.call

abbrev pub left_by : List ℕ → Given → List ℕ
left_by ws g = after g.settings ws g.call

unfoldable pub words_after : List ℕ → List Given → List ℕ
words_after ws [] = ws
words_after ws (g ∷ gs) = words_after (left_by ws g) gs
