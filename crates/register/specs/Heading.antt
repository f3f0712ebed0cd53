-- What a register's own words say and become, whatever words they are. Of the words of a well-formed register it is what the rules
-- say: the contracts that cite this say that beside it. Readers go by `read_heading` of the model.
use Rattle.std.specs.Prelude.{ℕ, Bool, cond, Option, Some, None, List, get_or, set}
use Rattle.model.specs.declared.Usable.{Usable}
use Rattle.model.specs.Numbers.{under}
use Rattle.model.specs.Register.{published}
use Rattle.model.specs.RegisterWords.{floor_flag, floor_word, read_heading}
use Rattle.numbers.specs.Layout.{swept_at, published_at, has_floor_at, floor_at, pending_at}
use Rattle.register.specs.declared.heading.SweptTo.{SweptTo}

-- ---- the sweep
abbrev pub published_in : List ℕ → ℕ
published_in ws = get_or ws published_at 0

abbrev pub swept_in : List ℕ → SweptTo
swept_in ws = record { bucket = record { 0 = (read_heading ws).swept }; published = record { 0 = published_in ws } }

abbrev pub sweep_stored : Usable → ℕ → List ℕ → List ℕ
sweep_stored u s ws = set (set ws swept_at s) published_at (published u s)

-- ---- the floor
abbrev pub floor_stored : Option ℕ → List ℕ → List ℕ
floor_stored f ws = set (set ws has_floor_at (floor_flag f)) floor_at (floor_word f)

-- raised to a stamp, unless it is as high
unfoldable pub floor_raised : ℕ → List ℕ → List ℕ
floor_raised stamp ws = cond (under stamp (read_heading ws).floor) ws (floor_stored (Some stamp) ws)

-- by a stamp that there may be
abbrev pub floor_raised_by : Option ℕ → List ℕ → List ℕ
floor_raised_by None ws = ws
floor_raised_by (Some stamp) ws = floor_raised stamp ws

-- ---- begin
abbrev pub begun_in : ℕ → List ℕ → List ℕ
begun_in number ws = cond (read_heading ws).pending (set (floor_raised number ws) pending_at 0) ws

abbrev pub begin_told : List ℕ → Bool
begin_told ws = (read_heading ws).pending
