-- Explain names the first rule that is met, and take gives its verdict (specs/Explained). Assumes nothing.
use Prim.Native.Nat.{ℕ}
use mathlib.Core.Path.{◌≡◌, refl, sym, ◌∙◌, ap}
use mathlib.Core.List.{List}
use Rattle.model.specs.Answer.{Said, Because}
use Rattle.model.specs.declared.Manner.{Manner}
use Rattle.model.specs.declared.Manner.TheVariants.{Taken, TakenBatch}
use Rattle.model.specs.declared.Reason.{Reason}
use Rattle.model.specs.declared.Reason.TheVariants.{Accepted}
use Rattle.model.specs.declared.Settings.{Settings}
use Rattle.model.specs.declared.Usable.{Usable}
use Rattle.model.specs.Settings.{settings_of, usable_at}
use Rattle.model.specs.Words.{State}
use Rattle.model.specs.Codes.{reason_verdict, went_through}
use Rattle.model.specs.First.{first_of}
use Rattle.model.specs.Reason.{first_rule, reason, batch_verdict}
use Rattle.model.specs.Calls.{Asking, Ticket, Explain, On, ask_of, register_at, after_taken, asked, done_on, step, held_in, refused, reply}
use Rattle.model.specs.Calls.{deed_fits, codes_fit, is_open, unfit, unsound, no_such_register, deed_refusals, own_refusals}
use Rattle.model.specs.Explained.{rules_in, Explained, ExplainedBatch}
use Rattle.model.proofs.First.{named_is, is_named}
use Rattle.model.proofs.Reasons.{take_says, batch_says}
use Rattle.model.proofs.Simulates.{reply_is, through_zero}

module _ (st ws : List ℕ) (r : ℕ) (a : Asking) where
  abbrev s : Settings
  s = settings_of st

  abbrev t : State
  t = held_in s ws

  abbrev u : Usable
  u = usable_at s r

  -- the rule that decides
  abbrev why : Reason
  why = reason u s.shares (register_at r t) t.book (ask_of a)

  explain_refused : (m : Manner) → refused st ws (On r (Explain a)) ≡ refused st ws (On r (Ticket m a))
  unfolding refused unfit codes_fit deed_fits unsound is_open no_such_register own_refusals deed_refusals
  explain_refused m = refl

  why_first : why ≡ first_of Accepted (rules_in st ws r a)
  unfolding reason first_rule
  why_first = refl

  -- ---- where nothing refuses
  module _ (z : refused st ws (On r (Explain a)) ≡ 0) where
    explain_says : reply st ws (On r (Explain a)) ≡ Because why
    unfolding step done_on
    explain_says = reply_is st ws (On r (Explain a)) z

    take_reply : reply st ws (On r (Ticket Taken a)) ≡ Said (reason_verdict why)
    unfolding step done_on asked after_taken
    take_reply =
        reply_is st ws (On r (Ticket Taken a)) (sym (explain_refused Taken) ∙ z)
        ∙ ap Said (take_says u s.shares (register_at r t) t.book (ask_of a))

    batch_reply : reply st ws (On r (Ticket TakenBatch a)) ≡ Said (batch_verdict u (ask_of a) why)
    unfolding step done_on asked after_taken
    batch_reply =
        reply_is st ws (On r (Ticket TakenBatch a)) (sym (explain_refused TakenBatch) ∙ z)
        ∙ ap Said (batch_says u s.shares (register_at r t) t.book (ask_of a))

  -- ---- where a rule is named
  module _ (x : Reason) (e : reply st ws (On r (Explain a)) ≡ Because x) where
    passed : refused st ws (On r (Explain a)) ≡ 0
    unfolding went_through
    passed = through_zero st ws (On r (Explain a)) (ap went_through e)

    why_is : why ≡ x
    why_is = let same : Because why ≡ Because x = sym (explain_says passed) ∙ e in cc

pub explained : (st ws : List ℕ) (r : ℕ) (a : Asking) → Explained st ws r a
explained st ws r a = record {
  refused_alike = explain_refused st ws r a;
  only_first = λ x e. is_named Accepted x (rules_in st ws r a) (sym (why_first st ws r a) ∙ why_is st ws r a x e);
  first_told = λ x z n. explain_says st ws r a z ∙ ap Because (why_first st ws r a ∙ named_is Accepted x (rules_in st ws r a) n);
  take_gives = λ x e. take_reply st ws r a (passed st ws r a x e) ∙ ap (λ (y : Reason). Said (reason_verdict y)) (why_is st ws r a x e);
}

pub explained_batch : ExplainedBatch
explained_batch st ws r a x e =
    batch_reply st ws r a (passed st ws r a x e)
    ∙ ap (λ (y : Reason). Said (batch_verdict (usable_at (settings_of st) r) (ask_of a) y)) (why_is st ws r a x e)
