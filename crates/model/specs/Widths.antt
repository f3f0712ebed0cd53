-- "Settings and soundness": how many words lead a generation, a class of the book and a place, and how many words a generation and
-- a place have. Said here alone; the code has the heads in the crate `numbers`, in its file `layout`.
use Rattle.std.specs.Prelude.{ℕ, ◌+◌, ◌*◌}

-- a generation: slots, held, newest, bucket and oldest lead, then come S slots
abbrev pub generation_head : ℕ
generation_head = 5

abbrev pub generation_width : ℕ → ℕ
generation_width S = S + generation_head

-- a class: entries, holders, units and `expired` lead, then come P places
abbrev pub class_head : ℕ
class_head = 4

-- a place: kind, number, entries and how many pairs lead, then come E cells of two words
abbrev pub place_head : ℕ
place_head = 4

abbrev pub place_width : ℕ → ℕ
place_width E = 2 * E + place_head
