-- The refusals of a call up to its register number, as the code tries them.
use Rattle.std.specs.Prelude.{ℕ, Bool, not, List, [], ◌∷◌, leb, ltb, length, Result, Ok, Err}
use Rattle.model.specs.declared.Refusal.{Refusal}
use Rattle.model.specs.declared.Usable.{Usable}
use Rattle.model.specs.Answer.{refusal_number}
use Rattle.model.specs.Settings.{settings_of}
use Rattle.model.specs.Register.{Register}
use Rattle.model.specs.Dump.{dump_bytes}
use Rattle.register.specs.Words.{RegisterReads}
use Rattle.model.specs.Calls.{refusal, first_met, settings_words_fit, too_short, sound}

-- 1, 2, 3 and 4, for a call on a register
unfoldable pub admits : List ℕ → List ℕ → ℕ → ℕ
admits st ws r =
    first_met (refusal 1 (not (settings_words_fit st)) ∷ refusal 2 (too_short st ws) ∷ refusal 3 (not (sound (settings_of st) ws))
    ∷ refusal 4 (leb (settings_of st).registers r) ∷ [])

-- 6 before 5
abbrev pub six_then_five : Bool → Bool → ℕ
six_then_five pending short = first_met (refusal 6 pending ∷ refusal 5 short ∷ [])

-- 6 and 5 of a dump, into an output of so many bytes
unfoldable pub dump_refusal : ℕ → Register → ℕ
dump_refusal room reg = six_then_five reg.pending (ltb room (length (dump_bytes reg)))

pub record DumpTried (u : Usable) (room : ℕ) (ws : List ℕ) (n : ℕ) : Type 0 where
  pub reads : RegisterReads u (dump_refusal room) ws n

-- the number of a refusal, or 0
abbrev pub told_number : {A : Type 0} → Result A Refusal → ℕ
told_number (Ok x) = 0
told_number (Err e) = refusal_number e
