-- "Shown, after judge's sweep: the named rule's condition is met, every rule before it in this sequence is not, and take gives that
-- verdict." For settings, words, register and ticket of any content. "The tool alters nothing": explain is among the calls that only
-- read (specs/ReadersLeave).
use Rattle.std.specs.Prelude.{ℕ, ◌≡◌, List}
use Rattle.model.specs.Answer.{Said, Because}
use Rattle.model.specs.declared.Manner.{Manner}
use Rattle.model.specs.declared.Manner.TheVariants.{Taken, TakenBatch}
use Rattle.model.specs.declared.Reason.{Reason}
use Rattle.model.specs.declared.Reason.TheVariants.{Accepted}
use Rattle.model.specs.Settings.{settings_of, usable_at}
use Rattle.model.specs.Register.{sweep}
use Rattle.model.specs.Codes.{reason_verdict}
use Rattle.model.specs.First.{Rule, Named}
use Rattle.model.specs.Reason.{rules, batch_verdict}
use Rattle.model.specs.Calls.{Asking, Ticket, Explain, On, ask_of, register_at, held_in, refused, reply}

-- the rules, on the register that judge's sweep would leave
abbrev pub rules_in : List ℕ → List ℕ → ℕ → Asking → List (Rule Reason)
rules_in st ws r a =
    let s = settings_of st in
    let t = held_in s ws in
    rules (usable_at s r) s.shares (sweep (usable_at s r) a.ms (register_at r t)) t.book (ask_of a)

pub record Explained (st ws : List ℕ) (r : ℕ) (a : Asking) : Type 0 where
  -- it is refused as a ticket of the same arguments is, in any manner
  pub refused_alike : (m : Manner) → refused st ws (On r (Explain a)) ≡ refused st ws (On r (Ticket m a))
  -- if it is not refused, it names x exactly when x is the first rule that is met; accepted where none is
  pub only_first : (x : Reason) → reply st ws (On r (Explain a)) ≡ Because x → Named Accepted x (rules_in st ws r a)
  pub first_told : (x : Reason) → refused st ws (On r (Explain a)) ≡ 0 → Named Accepted x (rules_in st ws r a) → reply st ws (On r (Explain a)) ≡ Because x
  -- then take gives that rule's verdict
  pub take_gives : (x : Reason) → reply st ws (On r (Explain a)) ≡ Because x → reply st ws (On r (Ticket Taken a)) ≡ Said (reason_verdict x)

-- and take_batch gives it too, but Ahead in place of Late where the stamp is past the window's front
abbrev pub ExplainedBatch : Type 0
ExplainedBatch =
    (st ws : List ℕ) (r : ℕ) (a : Asking) (x : Reason) → reply st ws (On r (Explain a)) ≡ Because x
    → reply st ws (On r (Ticket TakenBatch a)) ≡ Said (batch_verdict (usable_at (settings_of st) r) (ask_of a) x)
