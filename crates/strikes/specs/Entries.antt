-- What a call enters with, or the refusal of the rules: the words that it may use are there.
use Rattle.std.specs.Prelude.{ℕ, ◌+◌, ◌≤◌, ◌≡◌, true, List, length, Result, MatchResult}
use Rattle.model.specs.declared.Class.{Class}
use Rattle.model.specs.declared.Refusal.{Refusal}
use Rattle.model.specs.Settings.{settings_of, settings_fit}
use Rattle.model.specs.Class.{deliverer_of}
use Rattle.model.specs.Codes.{flag_of}
use Rattle.model.specs.Words.{class_start, class_width}
use Rattle.model.specs.Calls.{Asking, asking_fits}
use Rattle.model.specs.Listed.{listed}
use Rattle.model.specs.Most.{words_most}
use Rattle.numbers.specs.declared.starts.RegisterExtent.{RegisterExtent}
use Rattle.numbers.specs.RegisterAt.{RegisterAt}
use Rattle.register.specs.declared.judging.Ask.{Ask}
use Rattle.taking.specs.declared.one_register.OneRegister.{OneRegister}
use Rattle.vet.specs.Vetted.{vetted}
use Rattle.vet.specs.Entries.{Refuses, ReadyWithin}
use Rattle.strikes.specs.declared.ClassExtent.{ClassExtent}
use Rattle.strikes.specs.Admitted.{admits}

-- a call on a register, with the settings that it brings
pub record ByRegister (st ws : List ℕ) (r : ℕ) (on : OneRegister) : Type 0 where
  pub fit : settings_fit on.s ≡ true
  pub enters : ReadyWithin st ws (admits st ws r) (record { s = on.s; need = on.need; fit = fit; needed = on.needed })
  pub number : on.r ≡ r

abbrev pub Admits : List ℕ → List ℕ → ℕ → Result OneRegister Refusal → Type 0
Admits st ws r got = MatchResult got (ByRegister st ws r) (Refuses (admits st ws r))

-- a register's part
pub record AtRegister (st ws : List ℕ) (r : ℕ) (p : RegisterExtent) : Type 0 where
  pub passed : admits st ws r ≡ 0
  pub place : RegisterAt (settings_of st) r p
  pub order : p.start ≤ p.end
  pub within : p.end ≤ length ws
  -- few words, whatever the settings in bounds
  pub few : p.end ≤ words_most

abbrev pub FindsRegister : List ℕ → List ℕ → ℕ → Result RegisterExtent Refusal → Type 0
FindsRegister st ws r got = MatchResult got (AtRegister st ws r) (Refuses (admits st ws r))

-- a class's part
pub record AtClass (st ws : List ℕ) (c : Class) (p : ClassExtent) : Type 0 where
  pub passed : vetted st ws ≡ 0
  pub shares : p.shares ≡ (settings_of st).shares
  pub start : p.words.start ≡ class_start (settings_of st) c
  pub end : p.words.end ≡ p.words.start + class_width (settings_of st).shares
  pub order : p.words.start ≤ p.words.end
  pub within : p.words.end ≤ length ws
  pub few : p.words.end ≤ words_most

abbrev pub FindsClass : List ℕ → List ℕ → Class → Result ClassExtent Refusal → Type 0
FindsClass st ws c got = MatchResult got (AtClass st ws c) (Refuses (vetted st ws))

-- a ticket as the host passes it, its codes read
abbrev pub ask_read : Asking → Ask
ask_read a = record { fp = a.fp; stamp = a.stamp; now = record { 0 = a.ms }; judging = flag_of a.flag; who = deliverer_of a.kind a.number }

abbrev pub AsksOf : Asking → Result Ask Refusal → Type 0
AsksOf a got = got ≡ listed (asking_fits a) (ask_read a)
