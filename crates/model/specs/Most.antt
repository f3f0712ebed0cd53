-- The most words that each part has under settings in bounds: at most 1,024 slots, 256 generations in a ring, 512 pairs in a place,
-- 64 places in a class, and four registers. Each bound is computed from the one before it.
use Rattle.std.specs.Prelude.{ℕ, ◌+◌, ◌*◌}
use Rattle.model.specs.Widths.{generation_width, class_head, place_width}
use Rattle.model.specs.RegisterWords.{heading_width}

-- ---- a generation, a class's ring of them, a register's three rings, and a register
abbrev pub generation_most : ℕ
generation_most = generation_width 1_024

abbrev pub ring_most : ℕ
ring_most = 256 * generation_most

abbrev pub rings_most : ℕ
rings_most = 3 * ring_most

abbrev pub register_most : ℕ
register_most = heading_width + rings_most

-- ---- a place, a class's places, a class, and the places of the three classes
abbrev pub place_most : ℕ
place_most = place_width 512

abbrev pub places_most : ℕ
places_most = 64 * place_most

abbrev pub class_most : ℕ
class_most = class_head + places_most

abbrev pub book_most : ℕ
book_most = 3 * places_most

-- ---- the words that settings need
abbrev pub words_most : ℕ
words_most = 4 * rings_most + book_most + 128
