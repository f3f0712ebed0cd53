-- A call on one register: refused, or carried to its reply and words by what a function does to the register's part.
use Prim.Native.Nat.{ℕ, ◌+◌, ◌-◌, ◌≤◌}
use native.Mathlib.Omega.{arith}
use mathlib.Core.Path.{◌≡◌, sym, ◌∙◌, ap, subst}
use mathlib.Core.Bool.{true}
use mathlib.Core.List.{List}
use lib.ListN.{length}
use borrow.Rule.Slice.PartMut.{mid_of, put_mid}
use Rattle.std.proofs.Common.{Result, Err}
use Rattle.std.specs.Result.{IsErrAnd}
use Rattle.model.specs.Answer.{Answer, refusal_number}
use Rattle.model.specs.declared.Refusal.{Refusal}
use Rattle.model.specs.Listed.{listed}
use Rattle.model.proofs.Refused.{refusal_there, listed_err}
use Rattle.vet.specs.Entries.{Refuses}
use Rattle.strikes.specs.Admitted.{admits}
use Rattle.model.specs.declared.Usable.{Usable}
use Rattle.model.specs.Settings.{settings_of, usable_at}
use Rattle.model.specs.Register.{Register}
use Rattle.model.specs.RegisterWords.{register_form}
use Rattle.model.specs.Words.{State}
use Rattle.model.specs.Calls.{Deed, On, no_refusals, deed_refusals, deed_fits, done_on, step, refused, reply, first_met, register_at, with_register, held_in}
use Rattle.model.proofs.Parts.{register_part}
use Rattle.numbers.specs.declared.starts.RegisterExtent.{RegisterExtent}
use Rattle.numbers.specs.RegisterAt.{RegisterAt}
use Rattle.register.specs.Words.{RegisterWords, RegisterReads, RegisterTurns}
use Rattle.strikes.specs.Calls.{Told, heard}
use Rattle.strikes.specs.Entries.{AtRegister}
use Rattle.strikes.proofs.Through.{Entered, seen_part, replied, through_part, told_exit}
use Rattle.strikes.proofs.Admitting.{first_own, admits_pass, refused_early, refused_own, deed_unlisted}
use Rattle.strikes.proofs.Placed.{register_lies}

-- the register's words, and the words with others in their place
abbrev pub part_of : RegisterExtent → List ℕ → List ℕ
part_of p ws = mid_of p.start (p.end - p.start) ws

abbrev pub put_at : RegisterExtent → List ℕ → List ℕ → List ℕ
put_at p ws last = put_mid p.start (p.end - p.start) ws last

-- ---- a call that is refused: by one of the first four refusals, or with 1 by a code that is not listed
module _ {A : Type 0} (f : A → Answer) (st ws : List ℕ) (r : ℕ) (deed : Deed) (e : Refusal) (got : Result A Refusal) (out : IsErrAnd got (λ y. y ≡ e)) where
  pub deed_refused : deed_fits deed ≡ true → Refuses (admits st ws r) e → Told st ws (On r deed) (heard f got) ws
  deed_refused fits v = told_exit f st ws (On r deed) e got out (refused_early st ws r deed fits (refusal_number e) v (refusal_there e))

  pub code_refused : {B : Type 0} (x : B) → Err e ≡ listed (deed_fits deed) x → Told st ws (On r deed) (heard f got) ws
  code_refused x h =
      let p = listed_err x (deed_fits deed) h in
      told_exit f st ws (On r deed) e got out (deed_unlisted st ws r deed p.0 ∙ sym (ap refusal_number p.1))

module _ {st ws : List ℕ} {r : ℕ} {p : RegisterExtent} (at : AtRegister st ws r p) where
  pub may_enter : Entered (settings_of st) ws
  may_enter = (admits_pass st ws r at.passed).0.may

  place : RegisterAt (settings_of st) r p
  place = at.place

  pub words_there : RegisterWords p.u (part_of p ws)
  words_there = register_lies (settings_of st) ws r p may_enter place.below place

  pub words_least : 24 ≤ length (part_of p ws)
  words_least = words_there.least

  ends : p.end ≡ p.start + (register_form (usable_at (settings_of st) r)).wide
  ends = let a = place.end in omega arith

  -- what is read of the register's words is so of the register that is held
  pub seen : {R : Type 0} {f : Register → R} {v : R} → RegisterReads p.u f (part_of p ws) v → v ≡ f (register_at r (held_in (settings_of st) ws))
  seen {f} {v} reads =
      let s = settings_of st in
      let t = subst (λ (u : Usable). RegisterReads u f (part_of p ws) v) place.usable reads in
      seen_part s ws may_enter (register_at r) (register_part s r place.below) p.start p.end place.start ends t

  -- a deed that nothing else refuses
  module _ (deed : Deed) (fits : deed_fits deed ≡ true) (never : (reg : Register) → deed_refusals reg deed ≡ no_refusals) where
    none : refused st ws (On r deed) ≡ 0
    unfolding first_own first_met
    none = refused_own st ws r deed fits at.passed ∙ ap first_own (never (register_at r (held_in (settings_of st) ws)))

    -- one that writes
    pub told_turned : {R : Type 0} {f : Register → Register} {out : Register → R} {last : List ℕ} {v : R} (answer : R → Answer)
        → (p.u ≡ usable_at (settings_of st) r → (t : State) → (done_on (settings_of st) r deed t).answer ≡ answer (out (register_at r t)))
        → (p.u ≡ usable_at (settings_of st) r → (t : State) → (done_on (settings_of st) r deed t).state ≡ with_register r (f (register_at r t)) t)
        → RegisterTurns p.u f out (part_of p ws) last v → Told st ws (On r deed) (answer v) (put_at p ws last)
    unfolding step
    told_turned {f} {out} {last} {v} answer says leaves turn =
        let s = settings_of st in
        let u = place.usable in
        let t = subst (λ (u : Usable). RegisterTurns u f out (part_of p ws) last v) u turn in
        let q = through_part st ws (On r deed) none may_enter (register_part s r place.below) p.start p.end place.start ends t
        answer (says u (held_in s ws)) (leaves u (held_in s ws)) in
        record { answer = q.0; words = q.1 }

    -- one that reads
    pub told_read : {R : Type 0} {out : Register → R} {v : R} (answer : R → Answer)
        → (p.u ≡ usable_at (settings_of st) r → (t : State) → (done_on (settings_of st) r deed t).answer ≡ answer (out (register_at r t)))
        → RegisterReads p.u out (part_of p ws) v → answer v ≡ reply st ws (On r deed)
    unfolding step
    told_read answer says reads =
        ap answer (seen reads) ∙ sym (says place.usable (held_in (settings_of st) ws)) ∙ sym (replied st ws (On r deed) none)
