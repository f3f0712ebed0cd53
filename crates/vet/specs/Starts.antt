-- The starts that an opening brings, as they are read from its words: one for each of four registers.
use Rattle.std.specs.Prelude.{ℕ, ◌+◌, ◌*◌, cond, List, [], ◌∷◌, leb, get_or}
use Rattle.model.specs.declared.Settings.{Settings}
use Rattle.model.specs.declared.Start.{Start}
use Rattle.model.specs.declared.Start.TheVariants.{Empty}
use Rattle.model.specs.Codes.{start_of}

-- how register r starts; where there is no such register, its code and floor are not read
abbrev pub start_read : Settings → List ℕ → ℕ → Start
start_read s starts r = cond (leb s.registers r) Empty (start_of (get_or starts (2 * r) 0) (get_or starts (2 * r + 1) 0))

abbrev pub starts_read : Settings → List ℕ → List Start
starts_read s starts = start_read s starts 0 ∷ start_read s starts 1 ∷ start_read s starts 2 ∷ start_read s starts 3 ∷ []
