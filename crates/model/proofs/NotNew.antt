-- A take that is not New leaves the words as judge leaves them (specs/NotNew). Assumes nothing.
use Prim.Native.Nat.{ℕ}
use mathlib.Core.Path.{◌≡◌, refl, sym, ◌∙◌, ap}
use mathlib.Core.List.{List, ◌++◌}
use lib.Dec.{eqb}
use lib.ListN.{drop}
use borrow.Author.Tests.{eqb-true}
use Rattle.model.specs.declared.Manner.{Manner}
use Rattle.model.specs.declared.Manner.TheVariants.{Judged, JudgedBatch, Taken, TakenBatch}
use Rattle.model.specs.declared.Settings.{Settings}
use Rattle.model.specs.declared.Verdict.TheVariants.{New}
use Rattle.model.specs.Answer.{Said}
use Rattle.runs.proofs.Cases.{by_test}
use Rattle.model.specs.Settings.{settings_of, usable_at, words_needed}
use Rattle.model.specs.Book.{Book}
use Rattle.model.specs.Register.{Register}
use Rattle.model.specs.Judge.{judge, judge_batch, take, take_batch}
use Rattle.model.specs.Words.{State, state_form}
use Rattle.model.specs.Calls.{Asking, Ticket, On, register_at, with_register, with_book, ask_of, after_judged}
use Rattle.model.specs.Calls.{after_taken, asked, done_on, step, deed_fits, codes_fit, is_open, unfit, unsound, no_such_register, deed_refusals, own_refusals}
use Rattle.model.specs.Calls.{first_met, held_in, refused}
use Rattle.model.specs.NotNew.{LeavesAs, NotNewLeavesWords}
use Rattle.model.proofs.Judging.{rest_leaves}
use Rattle.model.proofs.Simulates.{refused_words, reply_is, after_is}

-- ---- on a state: register and book are as judge leaves them
module _ (s : Settings) (r : ℕ) (a : Asking) (x : State) where
  left_so : (reg reg' : Register) (k : Book) → (reg ≡ reg') × (k ≡ x.book) → with_book k (with_register r reg x) ≡ with_register r reg' x
  left_so reg reg' k e = ap (λ (y : Book). with_book y (with_register r reg x)) e.1 ∙ ap (λ (y : Register). with_register r y x) e.0

  take_leaves : ((asked s r Taken (ask_of a) x).answer ≡ Said New → ⊥) → (asked s r Taken (ask_of a) x).state ≡ (asked s r Judged (ask_of a) x).state
  unfolding asked after_judged after_taken take
  take_leaves n =
      let j = judge (usable_at s r) (register_at r x) (ask_of a) in
      left_so _ j.register _ (rest_leaves (usable_at s r) s.shares (ask_of a) x.book j.register j.says (λ e. n (ap Said e)))

  batch_leaves : ((asked s r TakenBatch (ask_of a) x).answer ≡ Said New → ⊥)
      → (asked s r TakenBatch (ask_of a) x).state ≡ (asked s r JudgedBatch (ask_of a) x).state
  unfolding asked after_judged after_taken take_batch
  batch_leaves n =
      let j = judge_batch (usable_at s r) (register_at r x) (ask_of a) in
      left_so _ j.register _ (rest_leaves (usable_at s r) s.shares (ask_of a) x.book j.register j.says (λ e. n (ap Said e)))

-- ---- what is refused does not go by the manner
pub same_refusal : (st ws : List ℕ) (r : ℕ) (a : Asking) (m n : Manner) → refused st ws (On r (Ticket m a)) ≡ refused st ws (On r (Ticket n a))
unfolding refused first_met unfit codes_fit deed_fits unsound is_open no_such_register own_refusals deed_refusals
same_refusal st ws r a m n = refl

-- ---- so on words
carried : (m n : Manner)
    → ((s : Settings) (r : ℕ) (a : Asking) (x : State) → ((asked s r m (ask_of a) x).answer ≡ Said New → ⊥) → (asked s r m (ask_of a) x).state ≡ (asked s r n (ask_of a) x).state)
    → LeavesAs m n
unfolding step done_on
carried m n f st ws r a not_new =
    let s = settings_of st in
    let p = On r (Ticket m a) in
    let q = On r (Ticket n a) in
    by_test (eqb (refused st ws p) 0)
    (λ d. let z = eqb-true (refused st ws p) 0 d in
    let y = sym (same_refusal st ws r a m n) ∙ z in
    after_is st ws p z
    ∙ (ap (λ (t : State). (state_form s).enc t ++ drop (words_needed s) ws) (f s r a (held_in s ws) (λ e. not_new (reply_is st ws p z ∙ e)))
    ∙ sym (after_is st ws q y)))
    (λ d. refused_words st ws p d ∙ sym (refused_words st ws q (ap (λ (i : ℕ). eqb i 0) (sym (same_refusal st ws r a m n)) ∙ d)))

pub not_new_leaves_words : NotNewLeavesWords
not_new_leaves_words = (carried Taken Judged take_leaves, carried TakenBatch JudgedBatch batch_leaves)
