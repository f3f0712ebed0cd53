-- A call that reads one class's share book.
use Prim.Native.Nat.{ℕ, ◌+◌, ◌-◌, ◌≤◌}
use native.Mathlib.Omega.{arith}
use mathlib.Core.Path.{◌≡◌, refl, sym, ◌∙◌, ap, subst}
use mathlib.Core.Bool.{true}
use mathlib.Core.List.{List}
use lib.ListN.{length}
use borrow.Rule.Slice.PartMut.{mid_of, mid_len}
use Rattle.std.proofs.Common.{Result, Ok, Err}
use Rattle.std.specs.Result.{IsErrAnd}
use Rattle.model.specs.Answer.{Answer, Entries}
use Rattle.model.specs.declared.Refusal.{Refusal}
use Rattle.model.specs.Listed.{listed}
use Rattle.model.proofs.Refused.{listed_ok}
use Rattle.model.specs.declared.Class.{Class}
use Rattle.model.specs.declared.Deliverer.{Deliverer}
use Rattle.model.specs.declared.Shares.{Shares}
use Rattle.book.specs.declared.totals.Totals.{Totals}
use Rattle.runs.proofs.Turns.{part_is}
use Rattle.model.specs.Widths.{class_head}
use Rattle.model.specs.Settings.{settings_of}
use Rattle.model.specs.Class.{pick, class_at, class_of, class_fits, deliverer_fits, deliverer_of}
use Rattle.model.specs.Book.{Held, entries_of}
use Rattle.model.specs.BookWords.{class_form}
use Rattle.model.specs.Words.{State, class_start}
use Rattle.model.specs.Calls.{Call, HeldBy, ClassTotals, codes_fit, class_totals, step, reply, held_in, is_open, no_such_register, own_refusals}
use Rattle.model.proofs.Parts.{class_part}
use Rattle.model.proofs.Bounds.{fit_shares}
use Rattle.book.specs.Sums.{totals_of}
use Rattle.book.specs.ClassRules.{ClassIs, ClassReads}
use Rattle.book.proofs.Finding.{class_is}
use Rattle.vet.specs.Vetted.{vetted}
use Rattle.vet.specs.Entries.{Refuses}
use Rattle.strikes.specs.declared.ClassExtent.{ClassExtent}
use Rattle.strikes.specs.Calls.{heard, totals_heard}
use Rattle.strikes.specs.Entries.{AtClass}
use Rattle.strikes.proofs.Through.{Entered, lent, past_words, lent_part, seen_part, replied}
use Rattle.strikes.proofs.Admitting.{OnBook, vets_pass, book_never}
use Rattle.strikes.proofs.OnWhole.{book_refused, book_unlisted}

-- the class's words
abbrev pub class_of_words : ClassExtent → List ℕ → List ℕ
class_of_words p ws = mid_of p.words.start (p.words.end - p.words.start) ws

holds : (kind number : ℕ) → OnBook (HeldBy kind number)
unfolding is_open no_such_register own_refusals
holds kind number = record { of = record { shut = refl; unnumbered = λ s. refl }; never = λ s t. refl }

totals : (c : ℕ) → OnBook (ClassTotals c)
unfolding is_open no_such_register own_refusals
totals c = record { of = record { shut = refl; unnumbered = λ s. refl }; never = λ s t. refl }

-- ---- refused by one of the first three refusals, or with 1 by a code that is not listed
module _ {A : Type 0} (f : A → Answer) (st ws : List ℕ) (e : Refusal) (got : Result A Refusal) (out : IsErrAnd got (λ y. y ≡ e)) where
  module _ (kind number : ℕ) where
    pub holder_unlisted : Err e ≡ listed (deliverer_fits kind number) (deliverer_of kind number) → heard f got ≡ reply st ws (HeldBy kind number)
    unfolding codes_fit
    holder_unlisted h = (book_unlisted f st ws (HeldBy kind number) e got out (deliverer_fits kind number) _ refl h).answer

    pub held_refused : (who : Deliverer) → ◌≡◌ {A = Result Deliverer Refusal} (Ok who) (listed (deliverer_fits kind number) (deliverer_of kind number))
        → Refuses (vetted st ws) e → heard f got ≡ reply st ws (HeldBy kind number)
    unfolding codes_fit
    held_refused who read h =
        (book_refused f st ws (HeldBy kind number) e got out (holds kind number) (listed_ok (deliverer_fits kind number) read).0 h).answer

  module _ (n : ℕ) where
    pub class_unlisted : Err e ≡ listed (class_fits n) (class_at n) → heard f got ≡ reply st ws (ClassTotals n)
    unfolding codes_fit
    class_unlisted h = (book_unlisted f st ws (ClassTotals n) e got out (class_fits n) _ refl h).answer

    pub totals_refused : (c : Class) → ◌≡◌ {A = Result Class Refusal} (Ok c) (listed (class_fits n) (class_at n)) → Refuses (vetted st ws) e
        → heard f got ≡ reply st ws (ClassTotals n)
    unfolding codes_fit
    totals_refused c read h = (book_refused f st ws (ClassTotals n) e got out (totals n) (listed_ok (class_fits n) read).0 h).answer

module _ {st ws : List ℕ} {c : Class} {p : ClassExtent} (at : AtClass st ws c p) where
  may_read : Entered (settings_of st) ws
  may_read = (vets_pass st ws at.passed).may

  ends : p.words.end ≡ p.words.start + (class_form (settings_of st).shares c).wide
  ends = let a = at.end in omega arith

  class_lies : ClassIs p.shares c (class_of_words p ws)
  class_lies =
      let s = settings_of st in
      let k = length (past_words s ws) in
      let h : p.words.start ≡ 0 + class_start s c = let a = at.start in omega arith in
      let is = part_is (lent_part s k (class_part s c)).lies p.words.start p.words.end h ends (record { value = lent s ws; ok = may_read.ok; words = may_read.words }) in
      subst (λ (b : Shares). ClassIs b c (class_of_words p ws)) (sym at.shares)
      (class_is s.shares c (class_of_words p ws) (fit_shares s may_read.fit) is)

  -- the totals are there
  pub totals_there : class_head ≤ length (class_of_words p ws)
  totals_there =
      let a = at.end in
      let l : length (class_of_words p ws) ≡ p.words.end - p.words.start = mid_len p.words.start p.words.end ws at.within in
      omega arith

  -- what is read of the class's words is so of the class that is held
  pub seen_class : {R : Type 0} {out : Held → R} {v : R} → ClassReads p.shares c out (class_of_words p ws) v
      → v ≡ out (pick c (held_in (settings_of st) ws).book.classes)
  seen_class {out} {v} reads =
      let s = settings_of st in
      let t = subst (λ (x : Shares). ClassReads x c out (class_of_words p ws) v) at.shares reads in
      seen_part s ws may_read (λ t. pick c t.book.classes) (class_part s c) p.words.start p.words.end at.start ends t

  told_class : (call : Call) → OnBook call → codes_fit (settings_of st) call ≡ true → {R : Type 0} {out : Held → R} {v : R} (answer : R → Answer)
      → (p.shares ≡ (settings_of st).shares → (t : State) → (step (settings_of st) call t).answer ≡ answer (out (pick c t.book.classes)))
      → ClassReads p.shares c out (class_of_words p ws) v → answer v ≡ reply st ws call
  told_class call on fits {out} {v} answer says reads =
      ap answer (seen_class reads) ∙ sym (says at.shares (held_in (settings_of st) ws)) ∙ sym (replied st ws call (book_never st ws call on fits at.passed))

-- ---- a deliverer's entries, and a class's totals
module _ {st ws : List ℕ} {c : Class} {p : ClassExtent} (at : AtClass st ws c p) (who : Deliverer) (its : c ≡ class_of who) where
  pub deliverer_at : AtClass st ws (class_of who) p
  deliverer_at = rw its at at

  pub deliverer_lies : ClassIs p.shares (class_of who) (class_of_words p ws)
  deliverer_lies = class_lies deliverer_at

  pub entries_told : (kind number : ℕ) → ◌≡◌ {A = Result Deliverer Refusal} (Ok who) (listed (deliverer_fits kind number) (deliverer_of kind number))
      → {v : ℕ} → ClassReads p.shares (class_of who) (λ h. entries_of who h.places) (class_of_words p ws) v → Entries v ≡ reply st ws (HeldBy kind number)
  unfolding codes_fit step
  entries_told kind number read reads =
      let q = listed_ok (deliverer_fits kind number) read in
      let is = q.1 in told_class deliverer_at (HeldBy kind number) (holds kind number) q.0 Entries (λ b t. rw (← is)) reads

pub totals_told : {st ws : List ℕ} {c : Class} {p : ClassExtent} → AtClass st ws c p → (n : ℕ)
    → ◌≡◌ {A = Result Class Refusal} (Ok c) (listed (class_fits n) (class_at n))
    → {v : Totals} → ((b : Shares) (k : Class) → ClassReads b k (totals_of b) (class_of_words p ws) v)
    → totals_heard v ≡ reply st ws (ClassTotals n)
unfolding codes_fit step class_totals
totals_told at n read reads =
    let q = listed_ok (class_fits n) read in
    let is = q.1 in told_class at (ClassTotals n) (totals n) q.0 totals_heard (λ b t. rw (b, ← is)) (reads _ _)
