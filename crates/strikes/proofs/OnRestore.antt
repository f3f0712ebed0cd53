-- A restore or a resume: refused with 7 where the dump is cut short, or carried by what is done to all needed words.
use Prim.Native.Nat.{ℕ, ◌*◌}
use mathlib.Core.Path.{◌≡◌, refl, sym, ◌∙◌, ap}
use mathlib.Core.Bool.{Bool, true, false, cond}
use mathlib.Core.List.{List}
use Rattle.std.proofs.Common.{Result, Ok, Err, Option, Some, None}
use Rattle.std.specs.Result.{IsErrAnd}
use Rattle.model.specs.Answer.{Answer, refusal_number}
use Rattle.model.specs.declared.Refusal.{Refusal}
use Rattle.model.specs.declared.Refusal.TheVariants.{CutShort}
use Rattle.model.specs.Listed.{listed}
use Rattle.model.proofs.Refused.{listed_ok}
use Rattle.model.specs.Settings.{settings_of}
use Rattle.model.specs.Codes.{flag_fits, flag_of}
use Rattle.model.specs.Register.{Register}
use Rattle.model.specs.Words.{State}
use Rattle.model.specs.Dump.{words_of, read_dump}
use Rattle.model.specs.Calls.{Deed, Restore, Resume, On, restore_refusals, is_cut, deed_refusals, deed_fits, restored, resumed, after_restored}
use Rattle.model.specs.Calls.{done_on, refused, first_met, register_at, held_in}
use Rattle.std.specs.Bool.{then_some}
use Rattle.std.specs.Option.{MatchOption, ok_or}
use Rattle.dump.specs.declared.walk.Dump.{Dump}
use Rattle.dump.specs.Walk.{dump_at, Whole}
use Rattle.restoring.specs.Rules.{restored_whole, resumed_whole}
use Rattle.taking.specs.declared.one_register.OneRegister.{OneRegister}
use Rattle.taking.specs.Words.{StateTurns}
use Rattle.strikes.specs.Calls.{Told, heard, restore_answer}
use Rattle.strikes.specs.Entries.{ByRegister}
use Rattle.strikes.proofs.Through.{told_exit}
use Rattle.strikes.proofs.Admitting.{first_own}
use Rattle.strikes.proofs.OnWhole.{run_of, put_run, refused_now, told_whole}

-- ---- a dump that is cut short
seven : (bs : List ℕ) → read_dump bs ≡ None → first_own (restore_refusals bs) ≡ 7
unfolding first_own first_met is_cut
seven bs e = rw e

-- what was read, and that nothing was
length_read : {B : Type 0} {x : B} (l : Option B) → ◌≡◌ {A = Result B Refusal} (Ok x) (ok_or l CutShort) → l ≡ Some x
length_read None h = absurd (cc)
length_read (Some y) h = cc

no_length : {B : Type 0} (l : Option B) {e : Refusal} → ◌≡◌ {A = Result B Refusal} (Err e) (ok_or l CutShort) → (l ≡ None) × (e ≡ CutShort)
no_length None h = (refl, cc)
no_length (Some y) h = absurd (cc)

module _ {A : Type 0} (f : A → Answer) {st ws : List ℕ} {r : ℕ} {on : OneRegister} (by : ByRegister st ws r on) (e : Refusal) (got : Result A Refusal) (out : IsErrAnd got (λ y. y ≡ e))
    (bs : List ℕ) (l : Option Dump) (read : MatchOption l (read_dump bs ≡ None) (λ d. d.bytes.now ≡ bs)) (short : ◌≡◌ {A = Result Dump Refusal} (Err e) (ok_or l CutShort)) where
  cut_short : (deed : Deed) → deed_fits deed ≡ true → ((reg : Register) → deed_refusals reg deed ≡ restore_refusals bs) → Told st ws (On r deed) (heard f got) ws
  cut_short deed fits own =
      let p = no_length l short in
      let none : read_dump bs ≡ None = rw p.0 at read in
      let is : refused st ws (On r deed) ≡ 7 =
      refused_now by deed fits ∙ ap first_own (own (register_at r (held_in (settings_of st) ws))) ∙ seven bs none in
      told_exit f st ws (On r deed) e got out (is ∙ sym (ap refusal_number p.1))

  pub restore_cut : Told st ws (On r (Restore bs)) (heard f got) ws
  unfolding deed_fits deed_refusals
  restore_cut = cut_short (Restore bs) refl (λ reg. refl)

  pub resume_cut : {b : Bool} {flag floor : ℕ} → ◌≡◌ {A = Result Bool Refusal} (Ok b) (listed (flag_fits flag) (flag_of flag))
      → Told st ws (On r (Resume bs flag floor)) (heard f got) ws
  unfolding deed_fits deed_refusals
  resume_cut {flag = flag} told = cut_short (Resume bs _ _) (listed_ok (flag_fits flag) told).0 (λ reg. refl)

-- ---- a proven floor, as the flag tells it
proven_is : (told : Bool) (floor : ℕ) → then_some told floor ≡ cond told (Some floor) None
proven_is true floor = refl
proven_is false floor = refl

-- ---- one that is whole
module _ (bs : List ℕ) (l : Option Dump) {d : Dump} (read : MatchOption l (read_dump bs ≡ None) (λ d. d.bytes.now ≡ bs))
    (known : ◌≡◌ {A = Result Dump Refusal} (Ok d) (ok_or l CutShort)) where
  pub same_bytes : d.bytes.now ≡ bs
  same_bytes = rw (length_read l known) at read

  dump_there : Whole bs d.words
  dump_there = rw same_bytes at d.whole

  -- nothing else refuses it
  not_cut : (deed : Deed) → ((reg : Register) → deed_refusals reg deed ≡ restore_refusals bs) → (r : ℕ) (t : State)
      → first_own (deed_refusals (register_at r t) deed) ≡ 0
  unfolding first_own first_met is_cut
  not_cut deed own r t = ap first_own (own (register_at r t)) ∙ rw dump_there.reads

  module _ {st ws : List ℕ} {r : ℕ} {on : OneRegister} (by : ByRegister st ws r on) {last : List ℕ} {b : Bool} (a : Answer)
      (told : a ≡ restore_answer (8 * d.words) b) where
    pub was_restored : StateTurns on.s (λ t. (restored on.s on.r t (Some (dump_at (words_of d.bytes.now)))).state)
        (restored_whole on.s on.r (dump_at (words_of d.bytes.now))) (run_of on.need ws) last b
        → Told st ws (On r (Restore bs)) a (put_run on.need ws last)
    unfolding deed_fits deed_refusals done_on restored after_restored
    was_restored turn =
        let w = dump_there in
        rw told (told_whole by (Restore bs) refl (not_cut (Restore bs) (λ reg. refl) r) (restore_answer (8 * d.words))
        (λ t. rw (w.reads, w.long, by.number)) (λ t. rw (w.reads, by.number)) (rw same_bytes at turn))

    pub was_resumed : {p : Bool} {flag floor : ℕ} {proven : Option ℕ} → ◌≡◌ {A = Result Bool Refusal} (Ok p) (listed (flag_fits flag) (flag_of flag))
        → proven ≡ then_some p floor
        → StateTurns on.s (λ t. (resumed on.s on.r t proven (Some (dump_at (words_of d.bytes.now)))).state)
        (resumed_whole on.s on.r (dump_at (words_of d.bytes.now)) proven) (run_of on.need ws) last b
        → Told st ws (On r (Resume bs flag floor)) a (put_run on.need ws last)
    unfolding deed_fits deed_refusals done_on resumed after_restored
    was_resumed {p} {flag} {floor} {proven} flagged is turn =
        let w = dump_there in
        let q = listed_ok (flag_fits flag) flagged in
        let o : proven ≡ cond (flag_of flag) (Some floor) None =
        is ∙ proven_is p floor ∙ ap (λ (b : Bool). cond b (Some floor) None) q.1 in
        rw told (told_whole by (Resume bs flag floor) q.0 (not_cut (Resume bs flag floor) (λ reg. refl) r) (restore_answer (8 * d.words))
        (λ t. rw (w.reads, w.long, o, by.number)) (λ t. rw (w.reads, o, by.number)) (rw same_bytes at turn))
