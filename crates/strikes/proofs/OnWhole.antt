-- Calls on all needed words, `words[0..need]`, and on the front, `words[0..20]`.
use Prim.Native.Nat.{ℕ, ◌+◌, ◌-◌, ◌≤◌}
use native.Mathlib.Omega.{arith}
use mathlib.Core.Path.{◌≡◌, refl, sym, ◌∙◌, ap, subst}
use mathlib.Core.Bool.{Bool, true}
use mathlib.Core.List.{List, [], ◌++◌, append-nil}
use lib.ListN.{length, take, drop, drop_of_length-le}
use lib.Seq.{take_all, length-take-le}
use Rattle.std.proofs.Common.{Result, Err}
use Rattle.std.specs.Result.{IsErrAnd}
use Rattle.model.specs.Answer.{Answer, refusal_number}
use Rattle.model.specs.declared.Refusal.{Refusal}
use Rattle.model.specs.Listed.{listed}
use Rattle.model.proofs.Refused.{refusal_there, listed_err}
use Rattle.model.specs.declared.Settings.{Settings}
use Rattle.runs.specs.Turns.{Turns}
use Rattle.runs.proofs.Parts.{Part}
use Rattle.runs.proofs.Turns.{part_is}
use Rattle.model.specs.Settings.{settings_of, words_needed}
use Rattle.model.specs.Words.{State, Front, FrontOk, encode_front, state_form}
use Rattle.model.specs.Calls.{Deed, Call, On, deed_refusals, deed_fits, done_on, step, refused, reply, register_at, held_in, codes_fit}
use Rattle.model.proofs.Words.{state_exact, state_wide}
use Rattle.model.proofs.Parts.{front_part, front_of, with_front}
use Rattle.taking.specs.Words.{RunWords, StateReads, StateTurns}
use Rattle.taking.specs.declared.one_register.OneRegister.{OneRegister}
use Rattle.vet.specs.declared.vetted.Vetted.{Vetted}
use Rattle.vet.specs.Vetted.{vetted}
use Rattle.vet.specs.Entries.{Refuses, ReadyWithin}
use Rattle.strikes.specs.Calls.{Told, heard}
use Rattle.strikes.specs.Entries.{ByRegister}
use Rattle.strikes.proofs.Through.{Entered, lent, past_words, lent_part, through_part, read_part, told_exit}
use Rattle.strikes.proofs.Admitting.{first_own, vets_pass, admits_pass, refused_own, OnBook, book_early, book_never, unlisted}

-- all of it is a part of itself
whole_part : (s : Settings) → Part (state_form s) (state_form s) 0 (λ t. t) (λ t u. u)
whole_part s = record {
  lies = record {
    inside = omega arith;
    fine = λ t ok. ok;
    seen = λ t ok. take_all (state_form s).wide ((state_form s).enc t) (let w = (state_exact s).width t ok in omega arith);
  };
  stored = λ t ok u.
      let w = (state_exact s).width t ok in
      let d : drop (state_form s).wide ((state_form s).enc t) ≡ [] = drop_of_length-le ((state_form s).enc t) {i = (state_form s).wide} (omega arith) in
      ap (λ (l : List ℕ). (state_form s).enc u ++ l) d ∙ append-nil ((state_form s).enc u);
}

-- the needed words, and the words with others in their place
abbrev pub run_of : ℕ → List ℕ → List ℕ
run_of n ws = take (n - 0) ws

abbrev pub put_run : ℕ → List ℕ → List ℕ → List ℕ
put_run n ws last = last ++ drop (n - 0) ws

-- the needed words are those of a well-formed state
run_lies : (s : Settings) (ws : List ℕ) (need : ℕ) → need ≡ words_needed s → Entered s ws → RunWords s (take (need - 0) ws)
unfolding words_needed
run_lies s ws need e n =
    let k = length (past_words s ws) in
    let w = state_wide s n.fit in
    let z : need ≡ 0 + (state_form s).wide = omega arith in
    let l = n.long in
    let is = part_is (lent_part s k (whole_part s)).lies 0 need refl z (record { value = lent s ws; ok = n.ok; words = n.words }) in
    let d : need - 0 ≡ words_needed s = omega arith in
    let long : length (take (need - 0) ws) ≡ words_needed s = length-take-le (need - 0) ws (omega arith) ∙ d in
    record { fit = n.fit; long = long; least = omega (arith, long); is = is }

-- ---- a call that nothing refuses, carried by what a function does to all needed words
module _ {st ws : List ℕ} {v : ℕ} {z : Vetted} (enters : ReadyWithin st ws v z) (may : Entered (settings_of st) ws) where
  lies_read : RunWords z.s (run_of z.need ws)
  lies_read = rw enters.ready.read (run_lies (settings_of st) ws z.need enters.ready.need may)

  carried : (call : Call) → refused st ws call ≡ 0 → {R : Type 0} {f : State → State} {out : State → R} {last : List ℕ} {x : R} (answer : R → Answer)
      → ((t : State) → (step z.s call t).answer ≡ answer (out t)) → ((t : State) → (step z.s call t).state ≡ f t)
      → StateTurns z.s f out (run_of z.need ws) last x → Told st ws call (answer x) (put_run z.need ws last)
  carried call none {f} {out} {last} {x} answer says leaves turn =
      let own = settings_of st in
      let read = enters.ready.read in
      let w = state_wide own may.fit in
      let d = enters.ready.need in
      let t = subst (λ (y : Settings). StateTurns y f out (run_of z.need ws) last x) read turn in
      let a = subst (λ (y : Settings). (step y call (held_in own ws)).answer ≡ answer (out (held_in own ws))) read (says (held_in own ws)) in
      let b = subst (λ (y : Settings). (step y call (held_in own ws)).state ≡ f (held_in own ws)) read (leaves (held_in own ws)) in
      let q = through_part st ws call none may (whole_part own) 0 z.need refl (omega arith) t answer a b in
      record { answer = q.0; words = q.1 }

  -- the same of one that only reads
  answered : (call : Call) → refused st ws call ≡ 0 → {R : Type 0} {out : State → R} {x : R} (answer : R → Answer)
      → ((t : State) → (step z.s call t).answer ≡ answer (out t)) → StateReads z.s out (run_of z.need ws) x → answer x ≡ reply st ws call
  answered call none {out} {x} answer says reads =
      let own = settings_of st in
      let read = enters.ready.read in
      let w = state_wide own may.fit in
      let d = enters.ready.need in
      let t = subst (λ (y : Settings). StateReads y out (run_of z.need ws) x) read reads in
      let a = subst (λ (y : Settings). (step y call (held_in own ws)).answer ≡ answer (out (held_in own ws))) read (says (held_in own ws)) in
      read_part st ws call none (λ (y : State). y) may (whole_part own) 0 z.need refl (omega arith) t answer a

-- ---- on a register
module _ {st ws : List ℕ} {r : ℕ} {on : OneRegister} (by : ByRegister st ws r on) where
  may_run : Entered (settings_of st) ws
  may_run = (admits_pass st ws r by.enters.ready.passed).0.may

  -- what a function on all needed words asks for
  pub run_there : RunWords on.s (run_of on.need ws)
  run_there = lies_read by.enters may_run

  module _ (deed : Deed) (fits : deed_fits deed ≡ true) where
    pub refused_now : refused st ws (On r deed) ≡ first_own (deed_refusals (register_at r (held_in (settings_of st) ws)) deed)
    refused_now = refused_own st ws r deed fits by.enters.ready.passed

    -- a deed that nothing else refuses
    pub told_whole : ((t : State) → first_own (deed_refusals (register_at r t) deed) ≡ 0)
        → {R : Type 0} {f : State → State} {out : State → R} {last : List ℕ} {v : R} (answer : R → Answer)
        → ((t : State) → (done_on on.s r deed t).answer ≡ answer (out t)) → ((t : State) → (done_on on.s r deed t).state ≡ f t)
        → StateTurns on.s f out (run_of on.need ws) last v → Told st ws (On r deed) (answer v) (put_run on.need ws last)
    unfolding step
    told_whole never answer says leaves turn =
        carried by.enters may_run (On r deed) (refused_now ∙ never (held_in (settings_of st) ws)) answer says leaves turn

    pub told_seen : ((t : State) → first_own (deed_refusals (register_at r t) deed) ≡ 0)
        → {R : Type 0} {out : State → R} {v : R} (answer : R → Answer) → ((t : State) → (done_on on.s r deed t).answer ≡ answer (out t))
        → StateReads on.s out (run_of on.need ws) v → answer v ≡ reply st ws (On r deed)
    unfolding step
    told_seen never answer says reads =
        answered by.enters may_run (On r deed) (refused_now ∙ never (held_in (settings_of st) ws)) answer says reads

-- ---- on the book
-- refused by one of the first three refusals, or with 1 by a code that is not listed
module _ {A : Type 0} (f : A → Answer) (st ws : List ℕ) (call : Call) (e : Refusal) (got : Result A Refusal) (out : IsErrAnd got (λ y. y ≡ e)) where
  pub book_refused : OnBook call → codes_fit (settings_of st) call ≡ true → Refuses (vetted st ws) e → Told st ws call (heard f got) ws
  book_refused on fits v = told_exit f st ws call e got out (book_early st ws call on.of fits (refusal_number e) v (refusal_there e))

  pub book_unlisted : (b : Bool) {B : Type 0} (x : B) → b ≡ codes_fit (settings_of st) call → Err e ≡ listed b x → Told st ws call (heard f got) ws
  book_unlisted b x same h =
      let p = listed_err x b h in
      told_exit f st ws call e got out (unlisted st ws call (sym same ∙ p.0) ∙ sym (ap refusal_number p.1))

module _ {st ws : List ℕ} {x : Vetted} (enters : ReadyWithin st ws (vetted st ws) x) where
  may_book : Entered (settings_of st) ws
  may_book = (vets_pass st ws enters.ready.passed).may

  pub book_there : RunWords x.s (run_of x.need ws)
  book_there = lies_read enters may_book

  pub front_there : 20 ≤ length ws
  unfolding words_needed
  front_there = let l = may_book.long in omega arith

  module _ {call : Call} (on : OnBook call) (fits : codes_fit (settings_of st) call ≡ true) where
    pub told_run : {R : Type 0} {f : State → State} {out : State → R} {last : List ℕ} {v : R} (answer : R → Answer)
        → ((t : State) → (step x.s call t).answer ≡ answer (out t)) → ((t : State) → (step x.s call t).state ≡ f t)
        → StateTurns x.s f out (run_of x.need ws) last v → Told st ws call (answer v) (put_run x.need ws last)
    told_run answer says leaves turn =
        carried enters may_book call (book_never st ws call on fits enters.ready.passed) answer says leaves turn

    -- by what a function does to the front
    pub told_front : {R : Type 0} {f : Front → Front} {out : Front → R} {last : List ℕ} {v : R} (answer : R → Answer)
        → ((t : State) → (step (settings_of st) call t).answer ≡ answer (out (front_of t)))
        → ((t : State) → (step (settings_of st) call t).state ≡ with_front (f (front_of t)) t)
        → ((s : Settings) → Turns (encode_front s) FrontOk f out (take 20 ws) last v) → Told st ws call (answer v) (last ++ drop 20 ws)
    told_front answer says leaves turn =
        let s = settings_of st in
        let q = through_part st ws call (book_never st ws call on fits enters.ready.passed) may_book (front_part s) 0 20 refl refl (turn s)
        answer (says (held_in s ws)) (leaves (held_in s ws)) in
        record { answer = q.0; words = q.1 }
