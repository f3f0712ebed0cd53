-- "`judge_batch` turns Late into Ahead if the stamp is past the window's front." "The front is past if stamp > reading + ahead."
-- On the same words with the same arguments: judge_batch answers Ahead exactly when judge answers Late and the front is past.
-- Otherwise it answers as judge does, and it always leaves the words that judge leaves.
use Rattle.std.specs.Prelude.{ℕ, ◌+◌, ◌<◌, ◌≡◌, List}
use Rattle.model.specs.declared.Manner.TheVariants.{Judged, JudgedBatch}
use Rattle.model.specs.declared.Verdict.TheVariants.{Late, Ahead}
use Rattle.model.specs.Answer.{Said}
use Rattle.model.specs.Settings.{settings_of, usable_at}
use Rattle.model.specs.Class.{deliverer_of}
use Rattle.model.specs.Judge.{window_for}
use Rattle.model.specs.Calls.{Asking, Ticket, Call, On, reply, after}

abbrev pub judge_call : ℕ → Asking → Call
judge_call r a = On r (Ticket Judged a)

abbrev pub batch_call : ℕ → Asking → Call
batch_call r a = On r (Ticket JudgedBatch a)

-- which window is whose: specs/Windows
abbrev pub FrontPast : List ℕ → ℕ → Asking → Type 0
FrontPast st r a = a.ms + (window_for (usable_at (settings_of st) r) (deliverer_of a.kind a.number)).ahead < a.stamp

pub record AheadFor (st ws : List ℕ) (r : ℕ) (a : Asking) : Type 0 where
  pub only : reply st ws (batch_call r a) ≡ Said Ahead → (reply st ws (judge_call r a) ≡ Said Late) × FrontPast st r a
  pub then : reply st ws (judge_call r a) ≡ Said Late → FrontPast st r a → reply st ws (batch_call r a) ≡ Said Ahead
  pub otherwise : (reply st ws (batch_call r a) ≡ Said Ahead → ⊥) → reply st ws (batch_call r a) ≡ reply st ws (judge_call r a)
  pub words : after st ws (batch_call r a) ≡ after st ws (judge_call r a)

abbrev pub AheadOnly : Type 0
AheadOnly = (st ws : List ℕ) (r : ℕ) (a : Asking) → AheadFor st ws r a
