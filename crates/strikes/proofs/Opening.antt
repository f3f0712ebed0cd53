-- An opening: its refusals, and the words that it leaves.
use Prim.Native.Nat.{ℕ, ◌-◌, ◌<◌, ◌≤◌}
use native.Mathlib.Omega.{arith}
use mathlib.Core.Path.{◌≡◌, sym, ◌∙◌, ap}
use mathlib.Core.Bool.{true, false, and-false}
use mathlib.Core.List.{List, ◌++◌}
use lib.ListN.{length, take, drop}
use lib.Seq.{length-take-le}
use borrow.Author.Tests.{lt-ltb, le-ltb}
use Rattle.runs.proofs.Cases.{by_test}
use Rattle.std.proofs.Common.{Result, Ok, Err}
use Rattle.std.specs.Result.{IsErrAnd}
use Rattle.model.specs.Answer.{Answer, Refused, Done, refusal_number}
use Rattle.model.specs.declared.Limits.{Limits}
use Rattle.model.specs.declared.Refusal.{Refusal}
use Rattle.model.specs.declared.Refusal.TheVariants.{Unfit}
use Rattle.model.specs.declared.Settings.{Settings}
use Rattle.model.specs.declared.Start.{Start}
use Rattle.model.specs.Listed.{listed}
use Rattle.model.specs.Settings.{settings_of, limits_of, words_needed}
use Rattle.model.specs.Words.{state_form}
use Rattle.model.specs.Calls.{Open, opened, first_met, settings_words_fit, limits_words_fit, starts_fit, codes_fit, unfit, is_open, too_short, unsound}
use Rattle.model.specs.Calls.{no_such_register, own_refusals, step, refused}
use Rattle.model.proofs.Refused.{refusal_there, listed_ok, listed_err}
use Rattle.numbers.proofs.Needed.{few_registers}
use Rattle.opening.specs.Opened.{opened_with}
use Rattle.opening.proofs.Laid.{opened_is}
use Rattle.vet.specs.declared.vetted.Vetted.{Vetted}
use Rattle.vet.specs.Vetted.{unfit_alone}
use Rattle.vet.specs.Entries.{Refuses, Ready}
use Rattle.vet.specs.Starts.{starts_read}
use Rattle.vet.proofs.Starting.{start_there}
use Rattle.strikes.specs.Calls.{Told, heard}
use Rattle.strikes.proofs.Admitting.{unlisted}
use Rattle.strikes.proofs.Through.{refused_reply, replied, left, told_exit}

module _ (st ws limits starts : List ℕ) where
  -- 1, by the settings
  unfit_settings : (e : Refusal) → Refuses (unfit_alone st) e → refused st ws (Open limits starts) ≡ refusal_number e
  unfolding refused unfit unfit_alone first_met
  unfit_settings e h =
      by_test (settings_words_fit st) (λ f. absurd (refusal_there e (rw f at h)))
      (λ f. rw f (sym (rw f at h)))

  module _ {A : Type 0} (f : A → Answer) (e : Refusal) (got : Result A Refusal) (out : IsErrAnd got (λ y. y ≡ e)) where
    pub open_unfit : Refuses (unfit_alone st) e → Told st ws (Open limits starts) (heard f got) ws
    open_unfit h = told_exit f st ws (Open limits starts) e got out (unfit_settings e h)

    -- by what it brings: limits or starts that are not listed
    open_unlisted : codes_fit (settings_of st) (Open limits starts) ≡ false → e ≡ Unfit → Told st ws (Open limits starts) (heard f got) ws
    open_unlisted n u = told_exit f st ws (Open limits starts) e got out (unlisted st ws (Open limits starts) n ∙ sym (ap refusal_number u))

    pub open_limits_unlisted : Err e ≡ listed (limits_words_fit limits) (limits_of limits) → Told st ws (Open limits starts) (heard f got) ws
    unfolding codes_fit
    open_limits_unlisted h = let p = listed_err (limits_of limits) (limits_words_fit limits) h in open_unlisted (rw p.0) p.1

    pub open_starts_unlisted : {s : Settings} → s ≡ settings_of st → Err e ≡ listed (starts_fit s starts) (starts_read s starts)
        → Told st ws (Open limits starts) (heard f got) ws
    unfolding codes_fit
    open_starts_unlisted {s} own h =
        let p = listed_err (starts_read s starts) (starts_fit s starts) h in
        let z : starts_fit (settings_of st) starts ≡ false = rw (← own) p.0 in
        open_unlisted (rw (z, and-false (limits_words_fit limits))) p.1

  -- 2, or none
  module _ {x : Vetted} (ready : Ready st (unfit_alone st) x) {l : Limits} (limited : ◌≡◌ {A = Result Limits Refusal} (Ok l) (listed (limits_words_fit limits) (limits_of limits)))
      {k : List Start} (started : ◌≡◌ {A = Result (List Start) Refusal} (Ok k) (listed (starts_fit x.s starts) (starts_read x.s starts))) where
    abbrev s : Settings
    s = x.s

    abbrev n : ℕ
    n = x.need

    own : s ≡ settings_of st
    own = ready.read

    limits_there : (limits_words_fit limits ≡ true) × (l ≡ limits_of limits)
    limits_there = listed_ok (limits_words_fit limits) limited

    starts_there : (starts_fit (settings_of st) starts ≡ true) × (k ≡ starts_read s starts)
    starts_there = let p = listed_ok (starts_fit s starts) started in (rw (← own) p.0, p.1)

    pub open_short : length ws < n → Told st ws (Open limits starts) (Refused 2) ws
    unfolding refused unfit codes_fit too_short unsound is_open no_such_register own_refusals first_met
    open_short h =
        let k = ready.need in
        let is : refused st ws (Open limits starts) ≡ 2 =
        rw (ready.fit, limits_there.0, starts_there.0, lt-ltb (length ws) (words_needed (settings_of st)) (omega arith)) in
        let q = refused_reply st ws (Open limits starts) 2 is (λ k. omega arith) in
        record { answer = q.0; words = q.1 }

    module _ (long : n ≤ length ws) where
      none : refused st ws (Open limits starts) ≡ 0
      unfolding refused unfit codes_fit too_short unsound is_open no_such_register own_refusals first_met
      none =
          let k = ready.need in
          rw (ready.fit, limits_there.0, starts_there.0, le-ltb (length ws) (words_needed (settings_of st)) (omega arith))

      pub open_long : length (take (n - 0) ws) ≡ words_needed s
      open_long =
          let k = x.needed in
          let d : n - 0 ≡ words_needed s = omega arith in
          length-take-le (n - 0) ws (omega arith) ∙ d

      -- the starts as they were read are those of the rules
      opened_as_read : opened s limits starts ≡ opened_with s l k
      opened_as_read =
          let few = few_registers s x.fit in
          rw (limits_there.1) (opened_is s starts k (λ r h. rw starts_there.1 (start_there s starts r h (omega arith))) limits)

      pub was_opened : {last : List ℕ} → last ≡ (state_form s).enc (opened_with s l k)
          → Told st ws (Open limits starts) Done (last ++ drop (n - 0) ws)
      unfolding step
      was_opened laid =
          let k = ready.need in
          let d : n - 0 ≡ words_needed (settings_of st) = omega arith in
          record {
            answer = sym (replied st ws (Open limits starts) none);
            words = rw (d, laid, ← opened_as_read, own) (sym (left st ws (Open limits starts) none));
          }
