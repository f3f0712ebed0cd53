-- What a state owes to a ticket that was struck: every call but an opening, and on its register a resume, keeps it struck, none answers
-- New for it, and a take that answers New strikes it. Assumes nothing.
use Prim.Native.Nat.{ℕ, ◌<◌}
use mathlib.Core.Path.{◌≡◌, sym, ◌∙◌, ap, subst}
use mathlib.Core.Bool.{true, false, ◌&&◌}
use Rattle.std.specs.Prelude.{Option, Some, None}
use lib.Dec.{eqb}
use lib.ListN.{length, get_or, set}
use lib.Seq.{get_or-set_same, get_or-set_other}
use borrow.Author.Tests.{eqb-true, eqb-false}
use Rattle.model.specs.declared.Manner.{Manner}
use Rattle.model.specs.declared.Manner.TheVariants.{Judged, JudgedBatch, Taken, TakenBatch}
use Rattle.model.specs.declared.Settings.{Settings}
use Rattle.model.specs.declared.Verdict.{Verdict}
use Rattle.model.specs.declared.Verdict.TheVariants.{New}
use Rattle.model.specs.Answer.{Said}
use Rattle.runs.proofs.Cases.{by_test}
use Rattle.model.specs.Settings.{usable_at, settings_fit}
use Rattle.model.specs.Generation.{as_read}
use Rattle.model.specs.Register.{Register}
use Rattle.model.specs.Judge.{bucket_of, judge_batch}
use Rattle.model.specs.Dump.{Dump, resume}
use Rattle.model.specs.Words.{State, state_form}
use Rattle.model.specs.Calls.{Asking, manner_sort, no_register, register_at, with_register, ask_of, after_judged}
use Rattle.model.specs.Calls.{after_taken, asked, after_restored, restored, resumed}
use Rattle.model.specs.Codes.{went_through}
use Rattle.model.specs.Once.{Strike, strike_of, sort_asks, sort_takes}
use Rattle.model.proofs.Choice.{and_false, true_false}
use Rattle.model.proofs.Struck.{Struck}
use Rattle.model.proofs.Lawful.{StruckIn, none_some}
use Rattle.model.proofs.RingsKept.{RegisterOk}
use Rattle.model.proofs.Bounds.{slots_small, fit_shares, fit_usable}
use Rattle.model.proofs.BookKept.{pairs_some}
use Rattle.model.proofs.SoundnessKept.{there, book_in, register_in}
use Rattle.model.proofs.RestoreStruck.{restore_struck}
use Rattle.model.proofs.Judging.{read_positive, judge_keeps, judge_not_new, batch_new, take_keeps, take_batch_keeps, take_strikes, take_batch_strikes, take_not_new, take_batch_not_new}

said_is : (v : Verdict) → Said v ≡ Said New → v ≡ New
said_is v e = cc

module _ (s : Settings) (t : Strike) (pos : 0 < t.print) where
  -- ---- another register in place of register r
  module _ (r : ℕ) (x : State) (h : r < length x.registers) (struck : StruckIn s t x) where
    pub put_here : (reg : Register) → ((b fp m : ℕ) → 0 < fp → Struck b fp m (register_at r x) → Struck b fp m reg) → StruckIn s t (with_register r reg x)
    put_here reg f =
        let q = t.register in
        let b = bucket_of (usable_at s q) t.stamp in
        by_test (eqb q r)
        (λ e. let i : q ≡ r = eqb-true q r e in
        subst (λ (y : Register). Struck b t.print t.stamp y)
        (sym (get_or-set_same x.registers r reg no_register h) ∙ ap (λ (j : ℕ). get_or (set x.registers r reg) j no_register) (sym i))
        (f b t.print t.stamp pos (subst (λ (j : ℕ). Struck b t.print t.stamp (register_at j x)) i struck)))
        (λ e. subst (λ (y : Register). Struck b t.print t.stamp y) (sym (get_or-set_other x.registers r q reg no_register (eqb-false q r e))) struck)

    put_elsewhere : (reg : Register) → eqb t.register r ≡ false → StruckIn s t (with_register r reg x)
    put_elsewhere reg e =
        subst (λ (y : Register). Struck (bucket_of (usable_at s t.register) t.stamp) t.print t.stamp y)
        (sym (get_or-set_other x.registers r t.register reg no_register (eqb-false t.register r e))) struck

  -- ---- a call on register r
  module _ (fit : settings_fit s ≡ true) (r : ℕ) (x : State) (h : r < s.registers) (ok : (state_form s).Ok x) (struck : StruckIn s t x) where
    here : r < length x.registers
    here = there s r x ok h

    reg_ok : RegisterOk (usable_at s r) (register_at r x)
    reg_ok = register_in s r x h ok

    pub asked_keeps : (m : Manner) (a : Asking) → StruckIn s t (asked s r m (ask_of a) x).state
    unfolding asked after_judged after_taken judge_batch
    asked_keeps Judged a = put_here r x here struck _ (λ b fp n z k. judge_keeps (usable_at s r) (register_at r x) (ask_of a) b fp n k)
    asked_keeps JudgedBatch a = put_here r x here struck _ (λ b fp n z k. judge_keeps (usable_at s r) (register_at r x) (ask_of a) b fp n k)
    asked_keeps Taken a =
        put_here r x here struck _ (λ b fp n z k. take_keeps (usable_at s r) s.shares (register_at r x) x.book (ask_of a) reg_ok b fp n z k)
    asked_keeps TakenBatch a =
        put_here r x here struck _ (λ b fp n z k. take_batch_keeps (usable_at s r) s.shares (register_at r x) x.book (ask_of a) reg_ok b fp n z k)

    -- the ticket asked about is the struck one
    ours : (a : Asking) → Some (strike_of r a) ≡ Some t → StruckIn s (strike_of r a) x
    ours a e = let i : t ≡ strike_of r a = cc in subst (λ (y : Strike). StruckIn s y x) i struck

    pub asked_silent : (m : Manner) (a : Asking) → sort_asks r (manner_sort m a) ≡ Some t → (asked s r m (ask_of a) x).answer ≡ Said New → ⊥
    unfolding asked after_judged after_taken sort_asks manner_sort
    asked_silent Judged a e n = judge_not_new (usable_at s r) (register_at r x) (ask_of a) (ours a e) (said_is _ n)
    asked_silent JudgedBatch a e n =
        judge_not_new (usable_at s r) (register_at r x) (ask_of a) (ours a e) (batch_new (usable_at s r) (register_at r x) (ask_of a) (said_is _ n))
    asked_silent Taken a e n = take_not_new (usable_at s r) s.shares (register_at r x) x.book (ask_of a) (ours a e) (said_is _ n)
    asked_silent TakenBatch a e n = take_batch_not_new (usable_at s r) s.shares (register_at r x) x.book (ask_of a) (ours a e) (said_is _ n)

    -- a restore, however it comes out
    pub restored_keeps : (d : Option Dump) → StruckIn s t (restored s r x d).state
    unfolding restored after_restored
    restored_keeps None = struck
    restored_keeps (Some d) = put_here r x here struck _
        (λ b fp n z k. restore_struck (usable_at s r) s.shares (slots_small (usable_at s r) (fit_usable s r fit h)) (pairs_some s.shares (fit_shares s fit)) b fp n
        z d (register_at r x) x.book
        (record { register = reg_ok; book = book_in s x ok }) k)

    pub resumed_keeps : (p : Option ℕ) (d : Option Dump) → (eqb t.register r && went_through (resumed s r x p d).answer) ≡ false
        → StruckIn s t (resumed s r x p d).state
    unfolding resumed after_restored went_through
    resumed_keeps p None e = struck
    resumed_keeps p (Some d) e =
        and_false (eqb t.register r) _ e (λ f. put_elsewhere r x here struck _ f)
        (λ f. true_false (by_test (resume (usable_at s r) s.shares d p (register_at r x) x.book).whole (λ w. rw w) (λ w. rw w)) f)

-- ---- a take that answers New strikes its ticket
module _ (s : Settings) (t : Strike) where
  abbrev Strikes : State → Type 0
  Strikes y = (0 < t.print) × StruckIn s t y

  module _ (r : ℕ) (x : State) (h : r < s.registers) (ok : (state_form s).Ok x) where
    -- with the register as the take left it
    struck_here : (a : Asking) (reg : Register) → Some (strike_of r a) ≡ Some t
        → Struck (bucket_of (usable_at s r) a.stamp) (as_read a.fp) a.stamp reg → Strikes (with_register r reg x)
    struck_here a reg e k =
        let i : strike_of r a ≡ t = cc in
        subst (λ (y : Strike). (0 < y.print) × StruckIn s y (with_register r reg x)) i (
          read_positive a.fp,
          subst (λ (y : Register). Struck (bucket_of (usable_at s r) a.stamp) (as_read a.fp) a.stamp y)
              (sym (get_or-set_same x.registers r reg no_register (there s r x ok h))) k,
        )

    pub asked_strikes : (m : Manner) (a : Asking) → sort_takes r (manner_sort m a) ≡ Some t → (asked s r m (ask_of a) x).answer ≡ Said New
        → Strikes (asked s r m (ask_of a) x).state
    unfolding asked after_judged after_taken sort_takes manner_sort
    asked_strikes Judged a e n = absurd (none_some e)
    asked_strikes JudgedBatch a e n = absurd (none_some e)
    asked_strikes Taken a e n =
        struck_here a _ e (take_strikes (usable_at s r) s.shares (register_at r x) x.book (ask_of a) (register_in s r x h ok) (said_is _ n))
    asked_strikes TakenBatch a e n =
        struck_here a _ e (take_batch_strikes (usable_at s r) s.shares (register_at r x) x.book (ask_of a) (register_in s r x h ok) (said_is _ n))
