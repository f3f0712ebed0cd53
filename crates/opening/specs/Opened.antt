-- What an opening writes, part by part, and the state that it leaves.
use Rattle.std.specs.Prelude.{ℕ, zero, suc, Bool, true, false, Option, Some, None, List, [], ◌∷◌, ◌++◌, get_or, take, drop, replicate}
use Rattle.model.specs.declared.Start.{Start}
use Rattle.model.specs.declared.Start.TheVariants.{Empty, Fallback, At}
use Rattle.model.specs.declared.Limits.{Limits}
use Rattle.model.specs.declared.Settings.{Settings}
use Rattle.model.specs.Settings.{usable_at}
use Rattle.model.specs.Book.{opened_book}
use Rattle.model.specs.Register.{Register, started, spare_words}
use Rattle.model.specs.RegisterWords.{Heading, heading_width, encode_heading}
use Rattle.model.specs.Words.{State, Front, front_spare, unused_width, register_start}

-- how register r starts
abbrev pub start_at : List Start → ℕ → Start
start_at starts r = get_or starts r Empty

-- n registers, of which the first is r
unfoldable pub started_all : Settings → List Start → ℕ → ℕ → List Register
started_all s starts r zero = []
started_all s starts r (suc n) = started (usable_at s r) (start_at starts r) ∷ started_all s starts (suc r) n

-- ---- the model's `opened`, of the limits and the starts as they are read (proofs/Laid, `opened_is`)
unfoldable pub opened_with : Settings → Limits → List Start → State
opened_with s limits starts = record {
  book = opened_book limits;
  registers = started_all s starts 0 s.registers;
  spare = replicate front_spare 0;
  unused = replicate (unused_width s) 0;
}

-- ---- the parts that are not all zeros
-- an open book with these limits
abbrev pub front_at : Limits → Front
front_at l = record { limits = l; closed = false; spare = replicate front_spare 0 }

abbrev pub start_floor : Start → Option ℕ
start_floor Empty = None
start_floor Fallback = None
start_floor (At f) = Some f

abbrev pub start_pending : Start → Bool
start_pending Empty = false
start_pending Fallback = true
start_pending (At f) = false

-- a register's own words at its start
abbrev pub heading_at : Start → Heading
heading_at start = record { swept = 0; floor = start_floor start; pending = start_pending start; spare = replicate spare_words 0 }

-- ---- what is written over words that are there
-- from word a on, as many as a register has of its own
abbrev pub over : ℕ → List ℕ → List ℕ → List ℕ
over a own ws = take a ws ++ (own ++ drop heading_width (drop a ws))

unfoldable pub with_heading : Settings → List Start → ℕ → List ℕ → List ℕ
with_heading s starts r ws = over (register_start s r) (encode_heading (usable_at s r) (heading_at (start_at starts r))) ws

-- n registers, of which the first is r
unfoldable pub with_headings : Settings → List Start → ℕ → ℕ → List ℕ → List ℕ
with_headings s starts r zero ws = ws
with_headings s starts r (suc n) ws = with_headings s starts (suc r) n (with_heading s starts r ws)
