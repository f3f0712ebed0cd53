-- A take on a register whose readings never fall is never Late where judge says New: of any list of calls on any words, and among
-- events (specs/Steady, specs/SteadyAmong). Kept along the list: the words hold register r with what proofs/SteadyKept keeps of it. Assumes
-- nothing.
use Prim.Native.Nat.{ℕ, ◌+◌, ◌*◌, ◌≤◌, ◌<◌}
use native.Mathlib.Omega.{arith}
use mathlib.Core.Path.{◌≡◌, refl, sym, ◌∙◌, subst}
use mathlib.Core.Bool.{Bool, true, false, cond, not, ◌&&◌}
use mathlib.Core.List.{List, [], ◌∷◌}
use Rattle.std.specs.Prelude.{Option, Some, None}
use lib.ListN.{get_or}
use borrow.Author.Tests.{leb-true, leb-false, not-true}
use Rattle.model.specs.declared.Manner.TheVariants.{Judged}
use Rattle.model.specs.declared.Settings.{Settings}
use Rattle.model.specs.declared.Verdict.{Verdict}
use Rattle.model.specs.declared.Verdict.TheVariants.{Late}
use Rattle.model.specs.Answer.{Said}
use Rattle.runs.proofs.Cases.{by_test, both_true, no}
use Rattle.model.specs.Numbers.{top64}
use Rattle.model.specs.Settings.{settings_of, usable_at}
use Rattle.model.specs.Codes.{start_of, went_through}
use Rattle.model.specs.Register.{Register}
use Rattle.model.specs.Words.{State}
use Rattle.model.specs.Calls.{Ticket, Call, On, Kind, Opens, OnOne, Sets, Other, opens, kind, reading_of, is_open, no_such_register}
use Rattle.model.specs.Calls.{ask_of, register_at, opened, step, held_in, refused, reply, after}
use Rattle.model.specs.View.{Given, answered, left_by, words_after}
use Rattle.model.specs.Soundness.{Vetted}
use Rattle.model.specs.Once.{Event, Calls, Replaces, Aside, LeavesAlone, left_by_event, AllAside}
use Rattle.model.specs.RoundTrip.{reaches}
use Rattle.model.specs.EqualPartAmong.{words_among}
use Rattle.model.specs.Steady.{taking_of, Readings, reading_on, reading_by, latest, no_fall, disturbs, Clock, at_opening}
use Rattle.model.specs.Steady.{ticked, ticked_if, clock_heard, clock_since, OpenedHere, NeverLateOn, SteadyAnyReading, SteadyNeverLate, SteadyTakes}
use Rattle.model.specs.SteadyAmong.{clock_among, AmongEvents, SteadyAmong, SteadyTakesAmong}
use Rattle.model.proofs.Bounds.{usable_bounds, fit_usable}
use Rattle.model.proofs.Simulates.{entered, fit_settings, vetted_ok, one_settings, after_vetted, after_holds, through_zero}
use Rattle.model.proofs.EveryCall.{lawful}
use Rattle.model.proofs.EqualPartWords.{vetted_before, refused_stays, judged_new, take_says, take_batch_says}
use Rattle.model.proofs.Untouched.{opened_at}
use Rattle.model.proofs.SteadyKept.{Fresh, AtMost, fresh_later, started_fresh, take_not_late, take_batch_not_late}

-- ---- what is kept, under the settings under which the words are vetted
abbrev pub FreshHeld : ℕ → ℕ → List ℕ → List ℕ → Type 0
FreshHeld r last st ws = Fresh (usable_at (settings_of st) r) last (register_at r (held_in (settings_of st) ws))

pub record FreshOn (r : ℕ) (c : Clock) (ws : List ℕ) : Type 0 where
  pub fresh : c.undisturbed ≡ true → c.never_fell ≡ true → c.last ≤ top64 → (st : List ℕ) → Vetted st ws → r < (settings_of st).registers
      → FreshHeld r c.last st ws

abbrev pub FreshIf : ℕ → Option Clock → List ℕ → Type 0
FreshIf r None ws = Unit {0}
FreshIf r (Some c) ws = FreshOn r c ws

-- the readings that are looked at have those of takes among them
abbrev pub HasTakes : Readings → Type 0
HasTakes brings = (call : Call) (ms : ℕ) → taking_of call ≡ Some ms → brings call ≡ Some ms

-- so the last reading is at least that of a take
covers : (b : Bool) (x y : Option ℕ) (last : ℕ) → ((ms : ℕ) → x ≡ Some ms → y ≡ Some ms) → AtMost (cond b x None) (latest (cond b y None) last)
covers true None y last h = tt
covers true (Some ms) y last h = rw (h ms refl) (omega arith)
covers false x y last h = tt

-- and at least the one before it
rises : (o : Option ℕ) (last : ℕ) → no_fall o last ≡ true → last ≤ latest o last
rises None last e = omega arith
rises (Some ms) last e = leb-true last ms e

-- ---- a call that went through
module _ (r : ℕ) (st ws : List ℕ) (call : Call) (z : refused st ws call ≡ 0) where
  -- after it the words are vetted under its settings alone
  alone : (st' : List ℕ) → Vetted st' (after st ws call) → settings_of st ≡ settings_of st'
  alone st' v = one_settings st st' (after st ws call) (after_vetted st ws call z) v

  -- so what is kept is to be shown of the state that it leaves
  left_is : (last : ℕ) (t : State) → (step (settings_of st) call (held_in (settings_of st) ws)).state ≡ t
      → (r < (settings_of st).registers → Fresh (usable_at (settings_of st) r) last (register_at r t))
      → (st' : List ℕ) → Vetted st' (after st ws call) → r < (settings_of st').registers → FreshHeld r last st' (after st ws call)
  left_is last t e f st' v low =
      let one = alone st' v in
      subst (λ (s : Settings). Fresh (usable_at s r) last (register_at r (held_in s (after st ws call)))) one
      (subst (λ (x : State). Fresh (usable_at (settings_of st) r) last (register_at r x)) (sym (after_holds st ws call z ∙ e))
      (f (subst (λ (s : Settings). r < s.registers) (sym one) low)))

  -- an opening
  opened_fresh : (k : Kind) → kind call ≡ k → opens k ≡ true → FreshOn r at_opening (after st ws call)
  unfolding step kind opens
  opened_fresh (Opens limits starts) e o = record {
    fresh = λ u n small. left_is 0 (opened (settings_of st) limits starts) ((lawful call).afresh limits starts e (settings_of st) (held_in (settings_of st) ws))
        (λ low. subst (λ (x : Register). Fresh (usable_at (settings_of st) r) 0 x) (sym (opened_at (settings_of st) limits starts r low))
        (started_fresh (usable_at (settings_of st) r) (usable_bounds (usable_at (settings_of st) r) (fit_usable (settings_of st) r (fit_settings st (entered st ws call z).fit) low)) 0
        (start_of (get_or starts (2 * r) 0) (get_or starts (2 * r + 1) 0))));
  }
  opened_fresh (OnOne q d) e o = no (cc)
  opened_fresh (Sets limits) e o = no (cc)
  opened_fresh Other e o = no (cc)

  -- any other
  later_fresh : (brings : Readings) → HasTakes brings → (c : Clock) → is_open call ≡ false → FreshOn r c ws
      → FreshOn r (ticked brings r call (held_in (settings_of st) ws) c) (after st ws call)
  unfolding step kind taking_of reading_on reading_by
  later_fresh brings has c shut k = record {
    fresh = λ u n small.
        let s = settings_of st in
        let t = held_in s ws in
        let o = reading_by brings r call t in
        let d = both_true c.undisturbed (not (disturbs r (kind call))) u in
        let f = both_true c.never_fell (no_fall o c.last) n in
        let up = rises o c.last f.1 in
        let in_it = entered st ws call z in
        let v : Vetted st ws = record { fit = in_it.fit; long = in_it.long; sound = in_it.vets shut } in
        left_is (latest o c.last) (step s call t).state refl
        (λ low. (lawful call).fresh s t r (fit_settings st v.fit) low (vetted_ok st ws v) (not-true (disturbs r (kind call)) d.1) c.last
        (latest o c.last) up small
        (covers (reaches r (kind call) && not (register_at r t).pending) (taking_of call) (brings call) c.last (has call)) (k.fresh d.0 f.0 (omega arith) st v low));
  }

  then_fresh : (brings : Readings) → HasTakes brings → (c : Option Clock) → is_open call ≡ false → FreshIf r c ws
      → FreshIf r (ticked_if brings r call (held_in (settings_of st) ws) c) (after st ws call)
  then_fresh brings has None shut k = tt
  then_fresh brings has (Some c) shut k = later_fresh brings has c shut k

-- ---- any call: a refused one leaves all as it was
module _ (r : ℕ) (brings : Readings) (has : HasTakes brings) where
  call_fresh : (c : Option Clock) (ws : List ℕ) (g : Given) → FreshIf r c ws → FreshIf r (clock_heard brings r g ws c) (left_by ws g)
  unfolding clock_heard is_open
  call_fresh c ws g k =
      by_test (went_through (answered ws g))
      (λ h.
      let z = through_zero g.settings ws g.call h in
      by_test (is_open g.call) (λ o. rw (h, o) (opened_fresh r g.settings ws g.call z (kind g.call) refl o))
      (λ o. rw (h, o) (then_fresh r g.settings ws g.call z brings has c o k)))
      (λ h. rw (h, refused_stays g.settings ws g.call h) k)

  list_fresh : (gs : List Given) (c : Option Clock) (ws : List ℕ) → FreshIf r c ws → FreshIf r (clock_since brings r c ws gs) (words_after ws gs)
  unfolding clock_since words_after
  list_fresh [] c ws k = k
  list_fresh (g ∷ gs) c ws k = list_fresh gs (clock_heard brings r g ws c) (left_by ws g) (call_fresh c ws g k)

  -- ---- among events: what stands aside leaves the register
  aside_fresh : (c : Option Clock) (ws after : List ℕ) → LeavesAlone r ws after → FreshIf r c ws → FreshIf r c after
  aside_fresh None ws after l k = tt
  aside_fresh (Some c) ws after l k = record {
    fresh = λ u n small st v low.
        subst (λ (x : Register). Fresh (usable_at (settings_of st) r) c.last x) (sym (l.same st v)) (k.fresh u n small st (l.was_vetted st v) low);
  }

  events_fresh : (es : List Event) (c : Option Clock) (ws : List ℕ) → AllAside r ws es → FreshIf r c ws
      → FreshIf r (clock_among brings r c ws es) (words_among ws es)
  unfolding clock_among words_among left_by_event
  events_fresh [] c ws a k = k
  events_fresh (Calls gs ∷ es) c ws a k = events_fresh es (clock_since brings r c ws gs) (words_after ws gs) a.1 (list_fresh gs c ws k)
  events_fresh (Replaces after ∷ es) c ws a k = events_fresh es None after a.1 tt
  events_fresh (Aside after ∷ es) c ws a k = events_fresh es c after a.1 (aside_fresh c ws after a.0 k)

-- ---- the promise, on words of which it is kept
said_late : (v : Verdict) → Said v ≡ Said Late → v ≡ Late
said_late v e = cc

pub never_late : (r : ℕ) (c : Clock) (ws : List ℕ) → FreshOn r c ws → NeverLateOn r c ws
unfolding went_through is_open no_such_register
never_late r c ws k st a steady small says =
    let n = judged_new st ws r a says in
    let through : went_through (reply st ws (On r (Ticket Judged a))) ≡ true = rw says refl in
    let v = vetted_before st ws (On r (Ticket Judged a)) refl through in
    let s = settings_of st in
    let t = held_in s ws in
    let low = leb-false s.registers r (entered st ws (On r (Ticket Judged a)) (through_zero st ws (On r (Ticket Judged a)) through)).register in
    let now = steady.nor_this_one in
    let g = k.fresh steady.without_restore_or_resume steady.readings_never_fall (omega arith) st v low in
    let fit = usable_bounds (usable_at s r) (fit_usable s r (fit_settings st v.fit) low) in
    let f = fresh_later (usable_at s r) fit c.last a.ms (register_at r t) now g in
    record {
      by_take = λ e. take_not_late (usable_at s r) (register_at r t) (ask_of a) fit s.shares t.book n.new small f
          (said_late _ (sym (take_says st ws r a n.passed) ∙ e));
      by_take_batch = λ e. take_batch_not_late (usable_at s r) (register_at r t) (ask_of a) fit s.shares t.book n.new small f
          (said_late _ (sym (take_batch_says st ws r a n.passed) ∙ e));
    }

-- ---- the readings by which a register sweeps, and those of takes
sweeping : HasTakes reading_of
unfolding reading_of taking_of kind
sweeping call ms e = (lawful call).brought ms e

takes_alone : HasTakes taking_of
takes_alone call ms e = e

module _ (brings : Readings) (has : HasTakes brings) where
  in_a_list : (start : List ℕ) (calls : List Given) (r : ℕ) (c : Clock) → OpenedHere brings r start calls c → NeverLateOn r c (words_after start calls)
  in_a_list start calls r c e =
      never_late r c (words_after start calls) (subst (λ (k : Option Clock). FreshIf r k (words_after start calls)) e (list_fresh r brings has calls None start tt))

  among_events : (start : List ℕ) (events : List Event) → AmongEvents brings start events
  among_events start events r a c e =
      never_late r c (words_among start events)
      (subst (λ (k : Option Clock). FreshIf r k (words_among start events)) e (events_fresh r brings has events None start a tt))

pub steady_any_reading : (start : List ℕ) (calls : List Given) → SteadyAnyReading start calls
steady_any_reading = in_a_list reading_of sweeping

-- with the customer's bound
pub steady_never_late : (start : List ℕ) (calls : List Given) → SteadyNeverLate start calls
steady_never_late start calls r c e st a steady below says = steady_any_reading start calls r c e st a steady (omega arith) says

pub steady_takes : (start : List ℕ) (calls : List Given) → SteadyTakes start calls
steady_takes = in_a_list taking_of takes_alone

pub steady_among : (start : List ℕ) (events : List Event) → SteadyAmong start events
steady_among = among_events reading_of sweeping

pub steady_takes_among : (start : List ℕ) (events : List Event) → SteadyTakesAmong start events
steady_takes_among = among_events taking_of takes_alone
