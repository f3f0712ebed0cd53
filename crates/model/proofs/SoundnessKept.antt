-- A well-formed state's parts, and the calls on one register and the opening that leave a well-formed state (specs/Soundness). Assumes nothing.
use Prim.Native.Nat.{ℕ, zero, suc, ◌+◌, ◌*◌, ◌≤◌, ◌<◌}
use native.Mathlib.Omega.{arith}
use mathlib.Core.Path.{◌≡◌, refl, ap, ◌∙◌}
use mathlib.Core.Bool.{true}
use mathlib.Core.List.{List}
use Rattle.std.specs.Prelude.{Option, Some, None}
use lib.Dec.{eqb}
use lib.ListN.{length, get_or, length-set, length-replicate}
use Rattle.model.specs.declared.Class.{Class}
use Rattle.model.specs.declared.Class.TheVariants.{Feeders, Peers, Own}
use Rattle.model.specs.declared.Manner.{Manner}
use Rattle.model.specs.declared.Manner.TheVariants.{Judged, JudgedBatch, Taken, TakenBatch}
use Rattle.model.specs.declared.Settings.{Settings}
use Rattle.runs.specs.Combine.{EachOk}
use Rattle.runs.proofs.Cases.{both_true}
use Rattle.runs.proofs.Each.{each_at, each_set}
use Rattle.model.specs.Settings.{limits_width, limits_of, limits_fit, settings_fit, usable_at}
use Rattle.model.specs.Class.{pick}
use Rattle.model.specs.Codes.{start_of}
use Rattle.model.specs.Book.{Book}
use Rattle.model.specs.Register.{Register}
use Rattle.model.specs.Judge.{Ask, judge_batch}
use Rattle.model.specs.Dump.{Dump}
use Rattle.model.specs.BookWords.{class_form}
use Rattle.model.specs.RegisterWords.{register_form}
use Rattle.model.specs.Words.{State, front_spare, unused_width, state_form}
use Rattle.model.specs.Calls.{Step, no_register, register_at, with_register, with_book, start_all, opened}
use Rattle.model.specs.Calls.{after_judged, after_taken, asked, after_restored, restored, resumed, starts_fit, limits_words_fit, codes_fit}
use Rattle.model.specs.Soundness.{OpenedSound}
use Rattle.model.proofs.Bounds.{slots_small, fit_shares, fit_usable}
use Rattle.model.proofs.RingsKept.{RegisterOk, from_form, to_form, started_ok}
use Rattle.model.proofs.BookKept.{BookOk, pairs_some, opened_ok}
use Rattle.model.proofs.Judging.{judge_ok, take_ok, take_batch_ok}
use Rattle.model.proofs.RestoreKept.{Fine, restore_fine, resume_fine}

module _ (s : Settings) where
  -- ---- a state's book and its registers, read and replaced
  pub book_in : (t : State) → (state_form s).Ok t → BookOk s.shares t.book
  book_in t ok = record { limits = ok.0.limits; classes = by_class }
    where
      by_class : (c : Class) → (class_form s.shares c).Ok (pick c t.book.classes)
      by_class Feeders = ok.1.0.0
      by_class Peers = ok.1.0.1.0
      by_class Own = ok.1.0.1.1

  pub with_book_ok : (k : Book) (t : State) → BookOk s.shares k → (state_form s).Ok t → (state_form s).Ok (with_book k t)
  with_book_ok k t new ok =
      (record { limits = new.limits; spare = ok.0.spare }, ((new.classes Feeders, (new.classes Peers, new.classes Own)), ok.1.1))

  pub there : (r : ℕ) (t : State) → (state_form s).Ok t → r < s.registers → r < length t.registers
  there r t ok h = omega (arith, ok.1.1.0.0)

  pub register_in : (r : ℕ) (t : State) → r < s.registers → (state_form s).Ok t → RegisterOk (usable_at s r) (register_at r t)
  register_in r t h ok =
      from_form (usable_at s r) (register_at r t)
      (each_at (λ i. (register_form (usable_at s i)).Ok) t.registers r no_register ok.1.1.0.1 (there r t ok h))

  pub with_register_ok : (r : ℕ) (reg : Register) (t : State) → RegisterOk (usable_at s r) reg → (state_form s).Ok t → (state_form s).Ok (with_register r reg t)
  with_register_ok r reg t new ok = (
    record { limits = ok.0.limits; spare = ok.0.spare },
    (
      ok.1.0,
      (
        (
          length-set t.registers r reg ∙ ok.1.1.0.0,
          each_set (λ i. (register_form (usable_at s i)).Ok) t.registers r reg ok.1.1.0.1 (to_form (usable_at s r) reg new),
        ),
        ok.1.1.1,
      ),
    ),
  )

  -- ---- opening
  started_all : (starts : List ℕ) (r n : ℕ) → EachOk (λ i. (register_form (usable_at s i)).Ok) r (start_all s starts r n)
  unfolding EachOk start_all
  started_all starts r zero = tt
  started_all starts r (suc n) =
      (to_form (usable_at s r) _ (started_ok (usable_at s r) (start_of (get_or starts (2 * r) 0) (get_or starts (2 * r + 1) 0))), started_all starts (suc r) n)

  started_length : (starts : List ℕ) (r n : ℕ) → length (start_all s starts r n) ≡ n
  unfolding start_all
  started_length starts r zero = refl
  started_length starts r (suc n) = ap suc (started_length starts (suc r) n)

  pub limits_in : (limits : List ℕ) → limits_words_fit limits ≡ true → limits_fit (limits_of limits) ≡ true
  unfolding limits_words_fit
  limits_in limits t = (both_true (eqb (length limits) limits_width) (limits_fit (limits_of limits)) t).1

  opening : (limits starts : List ℕ) → limits_fit (limits_of limits) ≡ true → (state_form s).Ok (opened s limits starts)
  unfolding opened
  opening limits starts fit =
      let book = opened_ok s.shares (limits_of limits) fit in (
        record { limits = book.limits; spare = length-replicate {A = ℕ} front_spare 0 },
        (
          (book.classes Feeders, (book.classes Peers, book.classes Own)),
          ((started_length starts 0 s.registers, started_all starts 0 s.registers), length-replicate {A = ℕ} (unused_width s) 0),
        ),
      )

  -- ---- a call on one register
  module _ (fit : settings_fit s ≡ true) (r : ℕ) (h : r < s.registers) (t : State) (ok : (state_form s).Ok t) where
    abbrev pub After : Step → Type 0
    After e = (state_form s).Ok e.state

    small : (usable_at s r).slots ≤ 1_024
    small = slots_small (usable_at s r) (fit_usable s r fit h)

    some_pairs : 1 ≤ s.shares.pairs
    some_pairs = pairs_some s.shares (fit_shares s fit)

    reg_ok : RegisterOk (usable_at s r) (register_at r t)
    reg_ok = register_in r t h ok

    both_ok : (reg : Register) (k : Book) → RegisterOk (usable_at s r) reg → BookOk s.shares k → (state_form s).Ok (with_book k (with_register r reg t))
    both_ok reg k new book = with_book_ok k (with_register r reg t) book (with_register_ok r reg t new ok)

    pub asked_ok : (m : Manner) (a : Ask) → After (asked s r m a t)
    unfolding asked after_judged after_taken judge_batch
    asked_ok Judged a = with_register_ok r _ t (judge_ok (usable_at s r) (register_at r t) a reg_ok) ok
    asked_ok JudgedBatch a = with_register_ok r _ t (judge_ok (usable_at s r) (register_at r t) a reg_ok) ok
    asked_ok Taken a =
        let p = take_ok (usable_at s r) s.shares (register_at r t) t.book a small some_pairs reg_ok (book_in t ok) in
        both_ok _ _ p.0 p.1
    asked_ok TakenBatch a =
        let p = take_batch_ok (usable_at s r) s.shares (register_at r t) t.book a small some_pairs reg_ok (book_in t ok) in
        both_ok _ _ p.0 p.1

    fine : Fine (usable_at s r) s.shares (register_at r t) t.book
    fine = record { register = reg_ok; book = book_in t ok }

    pub restored_ok : (d : Option Dump) → After (restored s r t d)
    unfolding restored after_restored
    restored_ok None = ok
    restored_ok (Some d) =
        let p = restore_fine (usable_at s r) s.shares small some_pairs d (register_at r t) t.book fine in
        both_ok _ _ p.register p.book

    pub resumed_ok : (proven : Option ℕ) (d : Option Dump) → After (resumed s r t proven d)
    unfolding resumed after_restored
    resumed_ok proven None = ok
    resumed_ok proven (Some d) =
        let p = resume_fine (usable_at s r) s.shares small some_pairs d proven (register_at r t) t.book fine in
        both_ok _ _ p.register p.book

-- ---- an opening
pub opened_sound : OpenedSound
unfolding codes_fit
opened_sound s limits starts fit codes = opening s limits starts (limits_in s limits (both_true (limits_words_fit limits) (starts_fit s starts) codes).0)
