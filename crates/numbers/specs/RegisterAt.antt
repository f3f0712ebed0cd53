-- Where a register lies in the words that the settings need.
use Rattle.std.specs.Prelude.{ℕ, ◌+◌, ◌<◌, ◌≤◌, ◌≡◌}
use Rattle.model.specs.declared.Settings.{Settings}
use Rattle.model.specs.Settings.{usable_at, words_needed}
use Rattle.model.specs.Words.{register_width, register_start}
use Rattle.model.specs.Most.{words_most}
use Rattle.numbers.specs.declared.starts.RegisterExtent.{RegisterExtent}

pub record RegisterAt (s : Settings) (r : ℕ) (p : RegisterExtent) : Type 0 where
  pub below : r < s.registers
  pub usable : p.u ≡ usable_at s r
  pub start : p.start ≡ register_start s r
  pub end : p.end ≡ p.start + register_width (usable_at s r)
  pub within : p.end ≤ words_needed s
  -- few words, whatever the settings in bounds
  pub few : p.end ≤ words_most
