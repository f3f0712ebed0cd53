-- What settings in bounds give the parts of the words: a ring has some, and the parts fill the words needed.
use Prim.Native.Nat.{◌+◌, ◌<◌, ◌≤◌}
use native.Mathlib.Nat.{mul-pos}
use native.Mathlib.Omega.{arith}
use mathlib.Core.Path.{◌≡◌}
use mathlib.Core.Bool.{true}
use Rattle.model.specs.declared.Usable.{Usable}
use Rattle.model.specs.declared.Settings.{Settings}
use Rattle.model.specs.Settings.{settings_fit, words_needed}
use Rattle.model.specs.RegisterWords.{register_form}
use Rattle.model.specs.Words.{book_form, registers_form, ring_width, register_width}
use Rattle.model.proofs.Bounds.{ring_positive}
use Rattle.model.proofs.Words.{state_wide}

-- ---- a ring
pub width_positive : (u : Usable) → 0 < ring_width u
width_positive u = mul-pos (ring_positive u) (omega arith)

-- ---- a register, as its form has it
pub register_wide : (u : Usable) → (register_form u).wide ≡ register_width u
register_wide u = omega arith

-- ---- the front, the book and the registers
pub all_inside : (s : Settings) → settings_fit s ≡ true → 20 + ((book_form s).wide + (registers_form s).wide) ≤ words_needed s
all_inside s fit = let w = state_wide s fit in omega arith
