-- Every call is lawful (proofs/Lawful): one clause for each. A call that only reads is a `reader`. Assumes nothing.
use Prim.Native.Nat.{ℕ, ◌<◌}
use mathlib.Core.Path.{◌≡◌, refl, ap, ◌∙◌}
use mathlib.Core.Bool.{Bool, true, false, cond, ◌&&◌}
use Rattle.std.specs.Prelude.{Option, Some, None}
use lib.Dec.{leb, eqb}
use lib.ListN.{get_or, set}
use lib.Seq.{get_or-set_other}
use borrow.Author.Tests.{eqb-false, leb-false}
use Rattle.model.specs.Answer.{Answer}
use Rattle.model.specs.Answer.{Begun, Already}
use Rattle.model.specs.declared.Manner.{Manner}
use Rattle.model.specs.declared.Manner.TheVariants.{Judged, JudgedBatch, Taken, TakenBatch}
use Rattle.model.specs.declared.Settings.{Settings}
use Rattle.runs.proofs.Cases.{split_if, no}
use Rattle.model.specs.Settings.{limits_of, usable_at}
use Rattle.model.specs.Generation.{as_read}
use Rattle.model.specs.Register.{Register, any_class, holds_any}
use Rattle.model.specs.Dump.{Dump, read_dump, Restoring}
use Rattle.model.specs.Judge.{Ask}
use Rattle.model.specs.Words.{State}
use Rattle.model.specs.Codes.{went_through}
use Rattle.model.specs.Calls.{Deed, Ticket, ContainsHash, Begin, Sweep, DumpTo, Restore, Resume, Floor, Pending}
use Rattle.model.specs.Calls.{SweptBucket, ViewRegister, Explain, StampFor, ViewDeliverer, Call, Open, On, Expire, SetLimits, Close, HeldBy, ClassTotals}
use Rattle.model.specs.Calls.{no_register, register_at, opened, yes_no, floor_answer, sought, stamp_answer}
use Rattle.model.specs.Calls.{Asking, manner_sort, ask_of, reading_of_ask, proven_of, asked, after_judged}
use Rattle.model.specs.Calls.{after_taken, after_restored, restored, resumed, least_published, class_totals, opens, beyond}
use Rattle.model.specs.Calls.{deed_fits, deed_refusals, done_on, meaning, codes_fit}
use Rattle.model.specs.Refusals.{in_order}
use Rattle.model.specs.Once.{asks_about, takes, remakes}
use Rattle.model.specs.TicketsGetVerdicts.{Verdicts}
use Rattle.model.specs.EqualPart.{kind_stays}
use Rattle.model.specs.RoundTrip.{reaches}
use Rattle.model.specs.Floors.{forgets}
use Rattle.model.specs.Steady.{sort_taking, kind_taking, disturbs}
use Rattle.model.proofs.Choice.{and_false, true_false}
use Rattle.model.proofs.Struck.{struck_sweep}
use Rattle.model.proofs.RingsKept.{sweep_ok, begin_ok}
use Rattle.model.proofs.BookKept.{expired_ok, closed_ok, limited_ok}
use Rattle.model.proofs.Judging.{begin_keeps}
use Rattle.model.proofs.SharesKept.{opened_bounded, expire_bounded, closed_bounded, limits_bounded}
use Rattle.model.proofs.SoundnessKept.{book_in, with_book_ok, there, register_in, with_register_ok, limits_in, asked_ok, restored_ok, resumed_ok, opened_sound}
use Rattle.model.proofs.Guarded.{put_here, asked_keeps, asked_silent, restored_keeps, resumed_keeps, asked_strikes}
use Rattle.model.proofs.EqualPart.{limits_same, asked_bounded, restored_bounded, resumed_bounded}
use Rattle.model.proofs.Misreadings.{same}
use Rattle.model.proofs.FloorLaws.{put_stands, sweep_stands, begin_stands, asked_stands, restored_stands}
use Rattle.model.proofs.SteadyKept.{left_fresh, on_one, asked_fresh, begin_on_fresh, sweep_on_fresh}
use Rattle.model.proofs.Lawful.{none_some, Lawful, unasked, calm, on_book, reader}

-- ---- an answer of its own is no refusal
abbrev Through : Answer → Type 0
Through a = went_through a ≡ true

yes_no_through : (b : Bool) → Through (yes_no b)
unfolding went_through
yes_no_through true = refl
yes_no_through false = refl

floor_through : (f : Option ℕ) → Through (floor_answer f)
unfolding went_through
floor_through None = refl
floor_through (Some f) = refl

stamp_through : (x : Option ℕ) → Through (stamp_answer x)
unfolding went_through
stamp_through None = refl
stamp_through (Some x) = refl

begun_through : (b : Bool) → Through (cond b Begun Already)
unfolding went_through
begun_through true = refl
begun_through false = refl

after_through : (r : ℕ) (t : State) (d : Dump) (w : Restoring) → Through (after_restored r t d w).answer
unfolding after_restored went_through
after_through r t d w = split_if Through w.whole (λ e. refl) (λ e. refl)

restored_through : (s : Settings) (r : ℕ) (t : State) (d : Option Dump) → Through (restored s r t d).answer
unfolding restored went_through
restored_through s r t None = refl
restored_through s r t (Some d) = after_through r t d _

resumed_through : (s : Settings) (r : ℕ) (t : State) (p : Option ℕ) (d : Option Dump) → Through (resumed s r t p d).answer
unfolding resumed went_through
resumed_through s r t p None = refl
resumed_through s r t p (Some d) = after_through r t d _

asked_through : (s : Settings) (r : ℕ) (m : Manner) (a : Ask) (t : State) → Through (asked s r m a t).answer
unfolding asked after_judged after_taken went_through
asked_through s r Judged a t = refl
asked_through s r JudgedBatch a t = refl
asked_through s r Taken a t = refl
asked_through s r TakenBatch a t = refl

-- ---- a ticket gets a verdict
asked_verdict : (s : Settings) (r : ℕ) (m : Manner) (a : Ask) (t : State) → Verdicts (asked s r m a t).answer
unfolding asked after_judged after_taken
asked_verdict s r Judged a t = record { verdict = _; said = refl }
asked_verdict s r JudgedBatch a t = record { verdict = _; said = refl }
asked_verdict s r Taken a t = record { verdict = _; said = refl }
asked_verdict s r TakenBatch a t = record { verdict = _; said = refl }

-- ---- a take's reading
asked_brings : (m : Manner) (a : Asking) (ms : ℕ) → sort_taking (manner_sort m a) ≡ Some ms → reading_of_ask (ask_of a) ≡ Some ms
unfolding sort_taking manner_sort
asked_brings Judged a ms e = absurd (none_some e)
asked_brings JudgedBatch a ms e = absurd (none_some e)
asked_brings Taken a ms e = e
asked_brings TakenBatch a ms e = e

-- ---- the registers that a call is not on
module _ (s : Settings) (q r : ℕ) (other : q ≡ r → ⊥) where
  elsewhere : (reg : Register) (t : State) → get_or (set t.registers r reg) q no_register ≡ register_at q t
  elsewhere reg t = get_or-set_other t.registers r q reg no_register other

  asked_aside : (m : Manner) (a : Ask) (t : State) → register_at q (asked s r m a t).state ≡ register_at q t
  unfolding asked after_judged after_taken
  asked_aside Judged a t = elsewhere _ t
  asked_aside JudgedBatch a t = elsewhere _ t
  asked_aside Taken a t = elsewhere _ t
  asked_aside TakenBatch a t = elsewhere _ t

  restored_aside : (t : State) (d : Option Dump) → register_at q (restored s r t d).state ≡ register_at q t
  unfolding restored after_restored
  restored_aside t None = refl
  restored_aside t (Some d) = elsewhere _ t

  resumed_aside : (t : State) (p : Option ℕ) (d : Option Dump) → register_at q (resumed s r t p d).state ≡ register_at q t
  unfolding resumed after_restored
  resumed_aside t p None = refl
  resumed_aside t p (Some d) = elsewhere _ t

-- what is so on register r alone, and not of register q
other_than : (q r : ℕ) → (eqb q r && true) ≡ false → q ≡ r → ⊥
other_than q r e = and_false (eqb q r) true e (λ n. eqb-false q r n) (λ n. true_false refl n)

low : (s : Settings) (r : ℕ) → leb s.registers r ≡ false → r < s.registers
low s r e = leb-false s.registers r e

-- ---- every deed
deed_lawful : (r : ℕ) (d : Deed) → Lawful (meaning (On r d))
unfolding meaning deed_fits deed_refusals done_on beyond kind_stays reaches forgets kind_taking disturbs remakes asks_about takes unasked went_through opens in_order
deed_lawful r (Ticket m a) = record {
  through = λ s t. asked_through s r m (ask_of a) t;
  in_order = λ s t. refl;
  afresh = λ l st e. no (cc);
  sound = λ s t fit codes h ok. asked_ok s fit r (low s r h) t (ok refl) m (ask_of a);
  bounded = λ s t e h. asked_bounded s r m (ask_of a) t h;
  aside = λ s q t e. asked_aside s q r (eqb-false q r e) m (ask_of a) t;
  guards = λ s k x pos fit h ok struck. record {
    keeps = λ e. asked_keeps s k pos fit r x (low s r h) ok struck m a;
    silent = λ e n. asked_silent s k pos fit r x (low s r h) ok struck m a e n;
  };
  strikes = λ s k x h ok e n. asked_strikes s k r x (low s r h) ok m a e n;
  verdicts = λ s t k e. asked_verdict s r m (ask_of a) t;
  reads = λ e. no (cc);
  floors = λ s t q e f h. asked_stands s r t q f h m (ask_of a);
  brought = λ ms e. asked_brings m a ms e;
  fresh = λ s t q fit h ok e.
      on_one s fit q h t (λ j. meaning (On j (Ticket m a))) r (λ o. asked_aside s q r o m (ask_of a) t) (asked_fresh s fit q h t ok m a);
}
deed_lawful r (ContainsHash fp) =
    reader refl (λ s t. refl) (λ s t. yes_no_through (any_class (holds_any (as_read fp)) (register_at r t).rings)) (λ s t. refl)
deed_lawful r (Begin number) = calm (record {
  unasked = refl;
  through = λ s t. begun_through (register_at r t).pending;
  in_order = λ s t. refl;
  sound = λ s t fit codes h ok.
      with_register_ok s r _ t (begin_ok (usable_at s r) number (register_at r t) (register_in s r t (low s r h) ok)) ok;
  bounded = λ s t e h. h;
  aside = λ s q t e. elsewhere s q r (eqb-false q r e) _ t;
  keeps = λ s k x pos fit h ok struck e.
      put_here s k pos r x (there s r x ok (low s r h)) struck _ (λ b fp n z g. begin_keeps b fp n number (register_at r x) g);
  floors = λ s t q e f h. put_stands r _ t q f (λ k. begin_stands number (register_at r t) f k) h;
  fresh = λ s t q fit h ok e.
      on_one s fit q h t (λ j. meaning (On j (Begin number))) r (λ o. elsewhere s q r o _ t) (begin_on_fresh s fit q h t ok number);
})
deed_lawful r (Sweep ms) = calm (record {
  unasked = refl;
  through = λ s t. refl;
  in_order = λ s t. refl;
  sound = λ s t fit codes h ok.
      with_register_ok s r _ t (sweep_ok (usable_at s r) ms (register_at r t) (register_in s r t (low s r h) ok)) ok;
  bounded = λ s t e h. h;
  aside = λ s q t e. elsewhere s q r (eqb-false q r e) _ t;
  keeps = λ s k x pos fit h ok struck e.
      put_here s k pos r x (there s r x ok (low s r h)) struck _ (λ b fp n z g. struck_sweep b fp n (usable_at s r) ms (register_at r x) g);
  floors = λ s t q e f h. put_stands r _ t q f (λ k. sweep_stands (usable_at s r) ms (register_at r t) f k) h;
  fresh = λ s t q fit h ok e.
      on_one s fit q h t (λ j. meaning (On j (Sweep ms))) r (λ o. elsewhere s q r o _ t) (sweep_on_fresh s fit q h t ok ms);
})
deed_lawful r (DumpTo out) = reader refl (λ s t. refl) (λ s t. refl) (λ s t. refl)
deed_lawful r (Restore bytes) = calm (record {
  unasked = refl;
  through = λ s t. restored_through s r t (read_dump bytes);
  in_order = λ s t. refl;
  sound = λ s t fit codes h ok. restored_ok s fit r (low s r h) t ok (read_dump bytes);
  bounded = λ s t e h. restored_bounded s r t (read_dump bytes) h;
  aside = λ s q t e. restored_aside s q r (eqb-false q r e) t (read_dump bytes);
  keeps = λ s k x pos fit h ok struck e. restored_keeps s k pos fit r x (low s r h) ok struck (read_dump bytes);
  floors = λ s t q e f h. restored_stands s r t q f h (read_dump bytes);
  fresh = λ s t q fit h ok e. left_fresh s fit q h t (meaning (On r (Restore bytes))) (restored_aside s q r (other_than q r e) t (read_dump bytes));
})
deed_lawful r (Resume bytes flag floor) = calm (record {
  unasked = refl;
  through = λ s t. resumed_through s r t (proven_of flag floor) (read_dump bytes);
  in_order = λ s t. refl;
  sound = λ s t fit codes h ok. resumed_ok s fit r (low s r h) t ok (proven_of flag floor) (read_dump bytes);
  bounded = λ s t e h. resumed_bounded s r t (proven_of flag floor) (read_dump bytes) h;
  aside = λ s q t e. resumed_aside s q r (eqb-false q r e) t (proven_of flag floor) (read_dump bytes);
  keeps = λ s k x pos fit h ok struck e. resumed_keeps s k pos fit r x (low s r h) ok struck (proven_of flag floor) (read_dump bytes) e;
  floors = λ s t q e f h.
      same f _ (ap (λ (x : Register). x.floor) (resumed_aside s q r (other_than q r e) t (proven_of flag floor) (read_dump bytes)) ∙ h);
  fresh = λ s t q fit h ok e.
      left_fresh s fit q h t (meaning (On r (Resume bytes flag floor))) (resumed_aside s q r (other_than q r e) t (proven_of flag floor) (read_dump bytes));
})
deed_lawful r Floor = reader refl (λ s t. refl) (λ s t. floor_through (register_at r t).floor) (λ s t. refl)
deed_lawful r Pending = reader refl (λ s t. refl) (λ s t. yes_no_through (register_at r t).pending) (λ s t. refl)
deed_lawful r SweptBucket = reader refl (λ s t. refl) (λ s t. refl) (λ s t. refl)
deed_lawful r (ViewRegister out) = reader refl (λ s t. refl) (λ s t. refl) (λ s t. refl)
deed_lawful r (Explain a) = reader refl (λ s t. refl) (λ s t. refl) (λ s t. refl)
deed_lawful r (StampFor q) = reader refl (λ s t. refl) (λ s t. stamp_through (sought s r q t)) (λ s t. refl)

-- ---- every call
pub lawful : (call : Call) → Lawful (meaning call)
unfolding meaning beyond kind_stays reaches forgets kind_taking disturbs remakes asks_about takes unasked went_through opens opened class_totals codes_fit in_order
lawful (Open limits starts) = record {
  through = λ s t. refl;
  in_order = λ s t. refl;
  afresh = λ l st e s t. cc;
  sound = λ s t fit codes h ok. opened_sound s limits starts fit codes;
  bounded = λ s t e h. opened_bounded s.shares (limits_of limits);
  aside = λ s q t e. no (cc);
  guards = λ s k x pos fit h ok struck. record { keeps = λ e. true_false refl e; silent = λ e n. none_some e };
  strikes = λ s k x h ok e n. absurd (none_some e);
  verdicts = λ s t k e. absurd (none_some e);
  reads = λ e. no (cc);
  floors = λ s t q e. true_false refl e;
  brought = λ ms e. absurd (none_some e);
  fresh = λ s t q fit h ok e. true_false refl e;
}
lawful (On r d) = deed_lawful r d
lawful (Expire ms) = on_book (record {
  unasked = refl;
  through = λ s t. refl;
  in_order = λ s t. refl;
  sound = λ s t fit codes h ok. with_book_ok s _ t (expired_ok s.shares (least_published s 0 t.registers ms) t.book (book_in s t ok)) ok;
  bounded = λ s t e h. expire_bounded s.shares (least_published s 0 t.registers ms) t.book h;
  stays = λ s t. refl;
})
lawful (SetLimits limits) = on_book (record {
  unasked = refl;
  through = λ s t. refl;
  in_order = λ s t. refl;
  sound = λ s t fit codes h ok.
      with_book_ok s _ t (limited_ok s.shares (limits_of limits) t.book (limits_in s limits codes) (book_in s t ok)) ok;
  bounded = λ s t e h. limits_bounded s.shares (limits_of limits) t.book (limits_same (limits_of limits) t.book.limits e) h;
  stays = λ s t. refl;
})
lawful Close = on_book (record {
  unasked = refl;
  through = λ s t. refl;
  in_order = λ s t. refl;
  sound = λ s t fit codes h ok. with_book_ok s _ t (closed_ok s.shares t.book (book_in s t ok)) ok;
  bounded = λ s t e h. closed_bounded s.shares t.book h;
  stays = λ s t. refl;
})
lawful (HeldBy kind number) = reader refl (λ s t. refl) (λ s t. refl) (λ s t. refl)
lawful (ClassTotals c) = reader refl (λ s t. refl) (λ s t. refl) (λ s t. refl)
lawful (ViewDeliverer kind number out) = reader refl (λ s t. refl) (λ s t. refl) (λ s t. refl)
