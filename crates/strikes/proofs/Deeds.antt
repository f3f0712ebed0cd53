-- Each deed on one register that nothing refuses: what is told, from what the function on the register's part does.
use Prim.Native.Nat.{ℕ}
use mathlib.Core.Path.{◌≡◌, refl}
use mathlib.Core.Bool.{Bool, true, false, cond}
use mathlib.Core.List.{List}
use Rattle.runs.specs.Turns.{silent}
use Rattle.std.proofs.Common.{Result, Ok, Err}
use Rattle.std.specs.Result.{IsErrAnd}
use Rattle.model.specs.Answer.{Answer, Done, Said, Begun, Already}
use Rattle.model.specs.declared.Manner.{Manner}
use Rattle.model.specs.declared.Refusal.{Refusal}
use Rattle.model.specs.Listed.{listed}
use Rattle.model.proofs.Refused.{listed_ok}
use Rattle.model.specs.declared.Settings.{Settings}
use Rattle.model.specs.declared.Usable.{Usable}
use Rattle.model.specs.declared.Verdict.{Verdict}
use Rattle.model.specs.Register.{Register, begin, sweep}
use Rattle.model.specs.Settings.{settings_of, usable_at}
use Rattle.model.specs.Words.{State}
use Rattle.model.specs.Calls.{Asking, Deed, On, Ticket, Begin, Sweep, Floor, SweptBucket, no_refusals, asking_fits, floor_answer}
use Rattle.model.specs.Calls.{deed_fits, deed_refusals, done_on, register_at, reply}
use Rattle.register.specs.declared.judging.Ask.{Ask as Handed}
use Rattle.register.specs.Rules.{begin_says, swept_answer}
use Rattle.register.specs.Words.{RegisterReads, RegisterTurns}
use Rattle.numbers.specs.declared.starts.RegisterExtent.{RegisterExtent}
use Rattle.vet.specs.Entries.{Refuses}
use Rattle.strikes.specs.Admitted.{admits}
use Rattle.strikes.specs.Calls.{Told, heard, begun_or_already, swept_heard}
use Rattle.strikes.specs.Entries.{AtRegister, ask_read}
use Rattle.strikes.proofs.OnRegister.{part_of, put_at, told_turned, told_read, deed_refused, code_refused}

-- ---- what is told, in the words of the calls
heard_begun : (b : Bool) → cond b Begun Already ≡ begun_or_already b
heard_begun true = refl
heard_begun false = refl

module _ {st ws : List ℕ} {r : ℕ} {p : RegisterExtent} (at : AtRegister st ws r p) where
  pub begun : {n : ℕ} {last : List ℕ} {v : Bool} → ((u : Usable) → RegisterTurns u (begin n) begin_says (part_of p ws) last v)
      → Told st ws (On r (Begin n)) (begun_or_already v) (put_at p ws last)
  unfolding deed_fits deed_refusals done_on
  begun turn = told_turned at (Begin _) refl (λ reg. refl) begun_or_already (λ u t. heard_begun (register_at r t).pending) (λ u t. refl) (turn _)

  pub swept_by : {ms : ℕ} {last : List ℕ} → RegisterTurns p.u (sweep p.u ms) silent (part_of p ws) last (tt {0})
      → Told st ws (On r (Sweep ms)) Done (put_at p ws last)
  unfolding deed_fits deed_refusals done_on
  swept_by turn = told_turned at (Sweep _) refl (λ reg. refl) (λ v. Done) (λ u t. refl) (λ u t. rw u) turn

-- ---- a deed that reads: it has no codes and no refusals of its own, and its answer is made of what f is of the register
pub record Tells {R : Type 0} (deed : Deed) (answer : R → Answer) (f : Usable → Register → R) : Type 0 where
  pub fits : deed_fits deed ≡ true
  pub never : (reg : Register) → deed_refusals reg deed ≡ no_refusals
  pub says : (s : Settings) (r : ℕ) (t : State) → (done_on s r deed t).answer ≡ answer (f (usable_at s r) (register_at r t))

module _ {st ws : List ℕ} {r : ℕ} {p : RegisterExtent} (at : AtRegister st ws r p) where
  pub told_by : {R : Type 0} {deed : Deed} {answer : R → Answer} {f : Usable → Register → R} {v : R} → Tells deed answer f
      → RegisterReads p.u (f p.u) (part_of p ws) v → answer v ≡ reply st ws (On r deed)
  told_by {deed = deed} {answer = answer} tells reads =
      told_read at deed tells.fits tells.never answer (λ u t. rw u (tells.says (settings_of st) r t)) reads

-- where it is refused
pub reader_refused : (st ws : List ℕ) (r : ℕ) {R : Type 0} {deed : Deed} {answer : R → Answer} {f : Usable → Register → R} → Tells deed answer f
    → (e : Refusal) (got : Result R Refusal) → IsErrAnd got (λ y. y ≡ e) → Refuses (admits st ws r) e → heard answer got ≡ reply st ws (On r deed)
reader_refused st ws r {deed = deed} {answer = answer} tells e got out h = (deed_refused answer st ws r deed e got out tells.fits h).answer

pub tells_floor : Tells Floor floor_answer (λ u reg. reg.floor)
unfolding deed_fits deed_refusals done_on
tells_floor = record { fits = refl; never = λ reg. refl; says = λ s r t. refl }

pub tells_swept : Tells SweptBucket swept_heard swept_answer
unfolding deed_fits deed_refusals done_on
tells_swept = record { fits = refl; never = λ reg. refl; says = λ s r t. refl }

-- ---- a ticket that is refused: with 1 by a code that is not listed, or by one of the first four refusals
module _ (st ws : List ℕ) (r : ℕ) (m : Manner) (a : Asking) (e : Refusal) (got : Result Verdict Refusal) (out : IsErrAnd got (λ y. y ≡ e)) where
  pub ask_refused : Err e ≡ listed (asking_fits a) (ask_read a) → Told st ws (On r (Ticket m a)) (heard Said got) ws
  unfolding deed_fits
  ask_refused h = code_refused Said st ws r (Ticket m a) e got out (ask_read a) h

  pub ticket_refused : {x : Handed} → ◌≡◌ {A = Result Handed Refusal} (Ok x) (listed (asking_fits a) (ask_read a)) → Refuses (admits st ws r) e
      → Told st ws (On r (Ticket m a)) (heard Said got) ws
  unfolding deed_fits
  ticket_refused asks h = deed_refused Said st ws r (Ticket m a) e got out (listed_ok (asking_fits a) asks).0 h
