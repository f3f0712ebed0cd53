-- Each call on all needed words or on the front that nothing refuses: what is told, from what the function on those words does.
use Prim.Native.Nat.{ℕ}
use mathlib.Core.Path.{◌≡◌, refl, ap}
use mathlib.Core.Bool.{true}
use mathlib.Core.List.{List, ◌++◌}
use lib.ListN.{take, drop}
use Rattle.runs.specs.Turns.{Turns, silent}
use Rattle.std.proofs.Common.{Result, Ok, Err, Option}
use Rattle.std.specs.Result.{IsErrAnd}
use Rattle.model.specs.Answer.{Answer, Done, Said, Because}
use Rattle.model.specs.declared.Manner.{Manner}
use Rattle.model.specs.declared.Refusal.{Refusal}
use Rattle.model.specs.Listed.{listed}
use Rattle.model.proofs.Refused.{listed_ok, listed_err}
use Rattle.register.specs.declared.judging.Ask.{Ask as Handed}
use Rattle.model.specs.declared.Limits.{Limits}
use Rattle.model.specs.declared.Reason.{Reason}
use Rattle.model.specs.declared.Settings.{Settings}
use Rattle.model.specs.declared.Verdict.{Verdict}
use Rattle.model.specs.Settings.{limits_of}
use Rattle.model.specs.Codes.{verdict_fits, verdict_of}
use Rattle.model.specs.Book.{closed_book, with_limits}
use Rattle.model.specs.Words.{FrontOk, encode_front}
use Rattle.model.specs.Calls.{Asking, Seeking, asking_at, stamp_answer, On, Ticket, Explain, StampFor, Expire, SetLimits, Close, deed_fits, codes_fit, limits_words_fit, asking_fits}
use Rattle.model.specs.Calls.{deed_refusals, first_met, done_on, ask_of, asked, step, reply, is_open, no_such_register, own_refusals}
use Rattle.book.specs.FrontRules.{limited, shut}
use Rattle.register.specs.Rules.{asked_by}
use Rattle.taking.specs.Reasons.{reason_at}
use Rattle.taking.specs.Words.{StateReads, StateTurns}
use Rattle.seeking.specs.Seeking.{sought_by}
use Rattle.taking.specs.declared.one_register.OneRegister.{OneRegister}
use Rattle.vet.specs.declared.vetted.Vetted.{Vetted}
use Rattle.vet.specs.Vetted.{vetted}
use Rattle.vet.specs.Entries.{Refuses, ReadyWithin}
use Rattle.strikes.specs.Admitted.{admits}
use Rattle.strikes.specs.Calls.{Told, heard}
use Rattle.strikes.specs.Entries.{ByRegister, ask_read}
use Rattle.strikes.proofs.Admitting.{first_own, OnBook}
use Rattle.strikes.proofs.OnRegister.{deed_refused, code_refused}
use Rattle.strikes.proofs.OnWhole.{run_of, put_run, told_whole, told_seen, told_run, told_front}

-- ---- a ticket
pub was_asked : (st ws : List ℕ) (r : ℕ) (on : OneRegister) (m : Manner) (a : Asking) (x : Handed) (last : List ℕ) (v : Verdict)
    → ByRegister st ws r on → ◌≡◌ {A = Result Handed Refusal} (Ok x) (listed (asking_fits a) (ask_read a))
    → StateTurns on.s (λ y. (asked on.s on.r m (asked_by x) y).state) (λ y. (asked on.s on.r m (asked_by x) y).answer) (run_of on.need ws) last (Said v)
    → Told st ws (On r (Ticket m a)) (Said v) (put_run on.need ws last)
unfolding deed_fits deed_refusals first_own first_met done_on
was_asked st ws r on m a x last v by asks turn =
    let q = listed_ok (asking_fits a) asks in
    let e : asked_by x ≡ ask_of a = ap asked_by q.1 in
    told_whole by (Ticket m a) q.0 (λ y. refl) (λ z. z) (λ y. rw (e, by.number)) (λ y. rw (e, by.number)) turn

-- ---- the rule behind its verdict
pub was_explained : (st ws : List ℕ) (r : ℕ) (on : OneRegister) (a : Asking) (x : Handed) (v : Reason)
    → ByRegister st ws r on → ◌≡◌ {A = Result Handed Refusal} (Ok x) (listed (asking_fits a) (ask_read a))
    → StateReads on.s (reason_at on.s on.r (asked_by x)) (run_of on.need ws) v → Because v ≡ reply st ws (On r (Explain a))
unfolding deed_fits deed_refusals first_own first_met done_on reason_at
was_explained st ws r on a x v by asks reads =
    let q = listed_ok (asking_fits a) asks in
    let e : asked_by x ≡ ask_of a = ap asked_by q.1 in
    told_seen by (Explain a) q.0 (λ y. refl) Because (λ y. rw (e, by.number)) reads

-- ---- the smallest stamp with a wanted verdict: its two codes are read one after the other
module _ (st ws : List ℕ) (r : ℕ) (q : Seeking) where
  module _ (f : Option ℕ → Answer) (e : Refusal) (got : Result (Option ℕ) Refusal) (out : IsErrAnd got (λ y. y ≡ e)) where
    pub seek_ask_refused : Err e ≡ listed (asking_fits (asking_at 0 q)) (ask_read (asking_at 0 q)) → heard f got ≡ reply st ws (On r (StampFor q))
    unfolding deed_fits
    seek_ask_refused h =
        let p = listed_err (ask_read (asking_at 0 q)) (asking_fits (asking_at 0 q)) h in
        (code_refused f st ws r (StampFor q) e got out e (rw (p.0, p.1))).answer

  module _ {x : Handed} (asks : ◌≡◌ {A = Result Handed Refusal} (Ok x) (listed (asking_fits (asking_at 0 q)) (ask_read (asking_at 0 q)))) where
    asks_fit : asking_fits (asking_at 0 q) ≡ true
    asks_fit = (listed_ok (asking_fits (asking_at 0 q)) asks).0

    module _ (f : Option ℕ → Answer) (e : Refusal) (got : Result (Option ℕ) Refusal) (out : IsErrAnd got (λ y. y ≡ e)) where
      pub seek_wanted_refused : Err e ≡ listed (verdict_fits q.wanted) (verdict_of q.wanted) → heard f got ≡ reply st ws (On r (StampFor q))
      unfolding deed_fits
      seek_wanted_refused h = (code_refused f st ws r (StampFor q) e got out (verdict_of q.wanted) (rw asks_fit h)).answer

    module _ {v : Verdict} (named : ◌≡◌ {A = Result Verdict Refusal} (Ok v) (listed (verdict_fits q.wanted) (verdict_of q.wanted))) where
      wanted_fits : deed_fits (StampFor q) ≡ true
      unfolding deed_fits
      wanted_fits = rw (asks_fit, (listed_ok (verdict_fits q.wanted) named).0)

      pub seek_refused : (f : Option ℕ → Answer) (e : Refusal) (got : Result (Option ℕ) Refusal) → IsErrAnd got (λ y. y ≡ e) → Refuses (admits st ws r) e
          → heard f got ≡ reply st ws (On r (StampFor q))
      seek_refused f e got out h = (deed_refused f st ws r (StampFor q) e got out wanted_fits h).answer

      pub was_sought : {on : OneRegister} → ByRegister st ws r on → (best : Option ℕ)
          → StateReads on.s (sought_by on.s on.r (asked_by x) v) (run_of on.need ws) best
          → stamp_answer best ≡ reply st ws (On r (StampFor q))
      unfolding deed_refusals first_own first_met done_on sought_by
      was_sought by best reads =
          let e : asked_by x ≡ ask_of (asking_at 0 q) = ap asked_by (listed_ok (asking_fits (asking_at 0 q)) asks).1 in
          let w = (listed_ok (verdict_fits q.wanted) named).1 in
          told_seen by (StampFor q) wanted_fits (λ y. refl) stamp_answer (λ y. rw (e, w, by.number)) reads

-- ---- calls on the book
pub closes : OnBook Close
unfolding is_open no_such_register own_refusals
closes = record { of = record { shut = refl; unnumbered = λ s. refl }; never = λ s t. refl }

pub expires : (ms : ℕ) → OnBook (Expire ms)
unfolding is_open no_such_register own_refusals
expires ms = record { of = record { shut = refl; unnumbered = λ s. refl }; never = λ s t. refl }

pub limits : (ls : List ℕ) → OnBook (SetLimits ls)
unfolding is_open no_such_register own_refusals
limits ls = record { of = record { shut = refl; unnumbered = λ s. refl }; never = λ s t. refl }

module _ {st ws : List ℕ} {x : Vetted} (enters : ReadyWithin st ws (vetted st ws) x) {last : List ℕ} where
  pub was_closed : ((s : Settings) → Turns (encode_front s) FrontOk shut (λ f. tt {0}) (take 20 ws) last (tt {0})) → Told st ws Close Done (last ++ drop 20 ws)
  unfolding codes_fit step closed_book
  was_closed turn = told_front enters closes refl (λ v. Done) (λ t. refl) (λ t. refl) turn

  pub was_expired : {ms : ℕ} → StateTurns x.s (λ t. (step x.s (Expire ms) t).state) silent (run_of x.need ws) last (tt {0})
      → Told st ws (Expire ms) Done (put_run x.need ws last)
  unfolding codes_fit step
  was_expired {ms} turn = told_run enters (expires ms) refl (λ v. Done) (λ t. refl) (λ t. refl) turn

  -- limits that the call brings
  pub was_limited : (ls : List ℕ) {l : Limits} → ◌≡◌ {A = Result Limits Refusal} (Ok l) (listed (limits_words_fit ls) (limits_of ls))
      → ((s : Settings) → Turns (encode_front s) FrontOk (limited l) (λ f. tt {0}) (take 20 ws) last (tt {0}))
      → Told st ws (SetLimits ls) Done (last ++ drop 20 ws)
  unfolding codes_fit step with_limits
  was_limited ls read turn =
      let q = listed_ok (limits_words_fit ls) read in
      let e = q.1 in told_front enters (limits ls) q.0 (λ v. Done) (λ t. refl) (λ t. rw (← e)) turn
