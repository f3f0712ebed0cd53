-- No ticket is accepted twice (specs/Once): from any words, for any list of calls and any list of events. Assumes nothing.
use Prim.Native.Nat.{ℕ, ◌≤◌, ◌<◌}
use mathlib.Core.Path.{◌≡◌, refl, sym, ◌∙◌, ap, subst}
use mathlib.Core.Bool.{Bool, true, false}
use mathlib.Core.List.{List, [], ◌∷◌, ◌++◌}
use Rattle.std.specs.Prelude.{Some}
use lib.Dec.{eqb}
use lib.ListN.{length}
use borrow.Author.Tests.{eqb-true}
use Rattle.model.specs.declared.Settings.{Settings}
use Rattle.model.specs.declared.Verdict.TheVariants.{New}
use Rattle.model.specs.Answer.{Answer}
use Rattle.model.specs.Answer.{Refused, Said}
use Rattle.runs.proofs.Cases.{by_test, no}
use Rattle.model.specs.Settings.{settings_of, usable_at, words_needed}
use Rattle.model.specs.Register.{Register}
use Rattle.model.specs.Judge.{bucket_of}
use Rattle.model.specs.Words.{State, state_form}
use Rattle.model.specs.Calls.{Call, Sort, Asks, Takes, Restores, Resumes, Plain, Kind, Opens, OnOne, Sets, Other, opens, kind, is_open, no_such_register}
use Rattle.model.specs.Calls.{settings_words_fit, sound, register_at, step, held_in, refused, reply, after}
use Rattle.model.specs.View.{Given, answered, left_by, words_after}
use Rattle.model.specs.Codes.{went_through}
use Rattle.model.specs.Soundness.{Vetted}
use Rattle.model.specs.Once.{Strike, sort_asks, asks_about, sort_takes, takes, remakes, remade_by, remade_among, NoTicketTwice, Moment, Answered, Accepted}
use Rattle.model.specs.Once.{CalledNew, remade, unless, Never, Once, moments, Event, Calls, Replaces, Aside, LeavesAlone, left_by_event, event_moments, all_moments}
use Rattle.model.specs.Once.{AllAside, NoTicketTwiceAmong}
use Rattle.model.proofs.Choice.{or_false, true_false}
use Rattle.model.proofs.Struck.{Struck}
use Rattle.model.proofs.Simulates.{refused_words, entered, fit_settings, vetted_ok, one_settings, reply_is, after_vetted, after_holds}
use Rattle.model.proofs.Refusals.{step_through}
use Rattle.model.proofs.Lawful.{StruckIn, none_some}
use Rattle.model.proofs.EveryCall.{lawful}

-- ---- the guard: under whatever settings the words are vetted, the state that they hold has struck the ticket
pub record Guarded (t : Strike) (ws : List ℕ) : Type 0 where
  pub struck : (st : List ℕ) → Vetted st ws → StruckIn (settings_of st) t (held_in (settings_of st) ws)

record GoodCall (s : Settings) (t : Strike) (call : Call) (x : State) : Type 0 where
  keeps : remakes t.register (kind call) (step s call x).answer ≡ false → StruckIn s t (step s call x).state
  silent : asks_about (kind call) ≡ Some t → (step s call x).answer ≡ Said New → ⊥

-- words that are vetted are so under one settings only: so one settings will do
guarded_by : (t : Strike) (st ws : List ℕ) → Vetted st ws → StruckIn (settings_of st) t (held_in (settings_of st) ws) → Guarded t ws
guarded_by t st ws v h =
    record { struck = λ st' v'. subst (λ (s : Settings). StruckIn s t (held_in s ws)) (one_settings st st' ws v v') h }

-- ---- an opening
kind_remakes : (r : ℕ) (k : Kind) (a : Answer) → opens k ≡ true → went_through a ≡ true → remakes r k a ≡ true
unfolding opens remakes
kind_remakes r (Opens limits starts) a o t = t
kind_remakes r (OnOne q d) a o t = no (cc)
kind_remakes r (Sets limits) a o t = no (cc)
kind_remakes r Other a o t = no (cc)

kind_silent : (t : Strike) (k : Kind) → opens k ≡ true → asks_about k ≡ Some t → ⊥
unfolding opens asks_about
kind_silent t (Opens limits starts) o e = none_some e
kind_silent t (OnOne q d) o e = no (cc)
kind_silent t (Sets limits) o e = none_some e
kind_silent t Other o e = none_some e

-- ---- one call, of words and settings that are any
module _ (st ws : List ℕ) (call : Call) where
  abbrev s : Settings
  s = settings_of st

  abbrev held : State
  held = held_in s ws

  abbrev seen : Moment
  seen = Answered call (reply st ws call)

  -- it is refused: nothing is altered
  module _ (e : eqb (refused st ws call) 0 ≡ false) where
    refused_new : reply st ws call ≡ Said New → ⊥
    unfolding reply
    refused_new n = let q : Refused (refused st ws call) ≡ Said New = rw e at n in no (cc)

  -- it goes through
  module _ (z : refused st ws call ≡ 0) where
    was_vetted : is_open call ≡ false → Vetted st ws
    was_vetted o = let e = entered st ws call z in record { fit = e.fit; long = e.long; sound = e.vets o }

    -- what is struck in the state that is left is guarded by the words that are left
    pub guarded_after : (t : Strike) → StruckIn s t (step s call held).state → Guarded t (after st ws call)
    guarded_after t h =
        guarded_by t st (after st ws call) (after_vetted st ws call z)
        (subst (λ (x : State). StruckIn s t x) (sym (after_holds st ws call z)) h)

    -- an opening asks about no ticket and remakes every register
    opens_all : (r : ℕ) → is_open call ≡ true → remakes r (kind call) (step s call held).answer ≡ true
    unfolding is_open
    opens_all r o = kind_remakes r (kind call) _ o (step_through s call held)

    opens_silent : (t : Strike) → is_open call ≡ true → asks_about (kind call) ≡ Some t → ⊥
    unfolding is_open
    opens_silent t o e = kind_silent t (kind call) o e

    -- what it owes to a struck ticket, and to one that it strikes
    good : settings_words_fit st ≡ true → (state_form s).Ok held → (t : Strike) → 0 < t.print → StruckIn s t held → GoodCall s t call held
    unfolding step kind no_such_register
    good fit ok t pos struck =
        let g = (lawful call).guards s t held pos (fit_settings st fit) (entered st ws call z).register ok struck in
        record { keeps = g.keeps; silent = g.silent }

    strikes : (t : Strike) → (state_form s).Ok held → takes (kind call) ≡ Some t → (step s call held).answer ≡ Said New
        → (0 < t.print) × StruckIn s t (step s call held).state
    unfolding step kind no_such_register
    strikes t ok e n = (lawful call).strikes s t held (entered st ws call z).register ok e n

    not_remade : (t : Strike) → remade t.register seen ≡ false → remakes t.register (kind call) (step s call held).answer ≡ false
    not_remade t e = sym (ap (λ (a : Answer). remakes t.register (kind call) a) (reply_is st ws call z)) ∙ e

  module _ (t : Strike) (pos : 0 < t.print) (g : Guarded t ws) where
    call_keeps : remade t.register seen ≡ false → Guarded t (after st ws call)
    call_keeps e =
        by_test (eqb (refused st ws call) 0)
        (λ d. let z = eqb-true (refused st ws call) 0 d in
        let r = not_remade z t e in
        by_test (is_open call) (λ o. true_false (opens_all z t.register o) r)
        (λ o. let v = was_vetted z o in
        guarded_after z t ((good z v.fit (vetted_ok st ws v) t pos (g.struck st v)).keeps r)))
        (λ d. subst (λ (l : List ℕ). Guarded t l) (sym (refused_words st ws call d)) g)

    pub call_silent : CalledNew t seen → ⊥
    call_silent c =
        by_test (eqb (refused st ws call) 0)
        (λ d. let z = eqb-true (refused st ws call) 0 d in
        by_test (is_open call) (λ o. opens_silent z t o c.0)
        (λ o. let v = was_vetted z o in
        (good z v.fit (vetted_ok st ws v) t pos (g.struck st v)).silent c.0 (sym (reply_is st ws call z) ∙ c.1)))
        (λ d. refused_new d c.1)

  sort_takes_asks : (t : Strike) (r : ℕ) (d : Sort) → sort_takes r d ≡ Some t → sort_asks r d ≡ Some t
  unfolding sort_takes sort_asks
  sort_takes_asks t r (Asks a) e = absurd (none_some e)
  sort_takes_asks t r (Takes a) e = e
  sort_takes_asks t r Restores e = e
  sort_takes_asks t r Resumes e = e
  sort_takes_asks t r Plain e = e

  takes_asks : (t : Strike) (k : Kind) → takes k ≡ Some t → asks_about k ≡ Some t
  unfolding takes asks_about
  takes_asks t (Opens limits starts) e = e
  takes_asks t (OnOne r d) e = sort_takes_asks t r d e
  takes_asks t (Sets limits) e = e
  takes_asks t Other e = e

  -- a take that answers New leaves its ticket guarded
  call_strikes : (t : Strike) → Accepted t seen → (0 < t.print) × Guarded t (after st ws call)
  call_strikes t c =
      by_test (eqb (refused st ws call) 0)
      (λ d. let z = eqb-true (refused st ws call) 0 d in
      by_test (is_open call) (λ o. absurd (opens_silent z t o (takes_asks t (kind call) c.0)))
      (λ o. let v = was_vetted z o in
      let k = strikes z t (vetted_ok st ws v) c.0 (sym (reply_is st ws call z) ∙ c.1) in
      (k.0, guarded_after z t k.1)))
      (λ d. absurd (refused_new d c.1))

-- ---- to stand aside it is enough to do so under one settings
pub leaves_alone : (r : ℕ) (st ws after : List ℕ) → Vetted st ws → Vetted st after
    → register_at r (held_in (settings_of st) after) ≡ register_at r (held_in (settings_of st) ws) → LeavesAlone r ws after
leaves_alone r st ws after v w e = record {
  was_vetted = λ st' w'.
      let i = one_settings st st' after w w' in
      record {
        fit = w'.fit;
        long = subst (λ (s : Settings). words_needed s ≤ length ws) i v.long;
        sound = subst (λ (s : Settings). sound s ws ≡ true) i v.sound;
      };
  same = λ st' w'.
      subst (λ (s : Settings). register_at r (held_in s after) ≡ register_at r (held_in s ws)) (one_settings st st' after w w') e;
}

-- ---- lists of calls
pub guarded_through : (t : Strike) → 0 < t.print → (gs : List Given) (ws : List ℕ) → remade_among t.register ws gs ≡ false → Guarded t ws
    → Guarded t (words_after ws gs)
unfolding remade_among words_after
guarded_through t pos [] ws e g = g
guarded_through t pos (h ∷ gs) ws e g =
    let n = or_false (remade_by t.register h.call (answered ws h)) (remade_among t.register (left_by ws h) gs) e in
    guarded_through t pos gs (left_by ws h) n.1 (call_keeps h.settings ws h.call t pos g n.0)

pub no_ticket_twice : NoTicketTwice
no_ticket_twice ws t first between later take new none-remade ask again =
    let k = call_strikes first.settings ws first.call t (take, new) in
    let g = guarded_through t k.0 between (left_by ws first) none-remade k.1 in
    call_silent later.settings (words_after (left_by ws first) between) later.call t k.0 g (ask, again)

-- ---- lists of calls, with more moments after them
unless_holds : (b : Bool) {X : Type 0} → (b ≡ false → X) → unless b X
unless_holds true f = tt
unless_holds false f = f refl

never_among : (t : Strike) → 0 < t.print → (gs : List Given) (ws : List ℕ) (ms : List Moment) → Guarded t ws
    → (Guarded t (words_after ws gs) → Never t ms) → Never t (moments ws gs ++ ms)
unfolding moments words_after
never_among t pos [] ws ms g f = f g
never_among t pos (h ∷ gs) ws ms g f =
    unless_holds (remade t.register (Answered h.call (answered ws h)))
    (λ e. (call_silent h.settings ws h.call t pos g, never_among t pos gs (left_by ws h) ms (call_keeps h.settings ws h.call t pos g e) f))

-- ---- lists of events
module _ (r : ℕ) where
  aside_keeps : (t : Strike) → t.register ≡ r → (ws after : List ℕ) → LeavesAlone r ws after → Guarded t ws → Guarded t after
  aside_keeps t e ws after alone g = record {
    struck = λ st v.
        let same = subst (λ (q : ℕ). register_at q (held_in (settings_of st) after) ≡ register_at q (held_in (settings_of st) ws)) (sym e) (alone.same st v) in
        subst (λ (x : Register). Struck (bucket_of (usable_at (settings_of st) t.register) t.stamp) t.print t.stamp x) (sym same)
        (g.struck st (alone.was_vetted st v));
  }

  never_all : (t : Strike) → 0 < t.print → t.register ≡ r → (es : List Event) (ws : List ℕ) → AllAside r ws es → Guarded t ws → Never t (all_moments ws es)
  unfolding all_moments event_moments left_by_event
  never_all t pos e [] ws a g = tt
  never_all t pos e (Calls gs ∷ es) ws a g =
      never_among t pos gs ws (all_moments (words_after ws gs) es) g (never_all t pos e es (words_after ws gs) a.1)
  never_all t pos e (Replaces after ∷ es) ws a g = tt
  never_all t pos e (Aside after ∷ es) ws a g = never_all t pos e es after a.1 (aside_keeps t e ws after a.0 g)

  -- after each moment of some calls, and then of the rest
  once_among : (gs : List Given) (ws : List ℕ) (es : List Event) → AllAside r (words_after ws gs) es
      → Once r (all_moments (words_after ws gs) es) → Once r (moments ws gs ++ all_moments (words_after ws gs) es)
  unfolding moments words_after
  once_among [] ws es a o = o
  once_among (h ∷ gs) ws es a o = (
    (λ t e c. let k = call_strikes h.settings ws h.call t c in
        never_among t k.0 gs (left_by ws h) (all_moments (words_after (left_by ws h) gs) es) k.1 (never_all t k.0 e es (words_after (left_by ws h) gs) a)),
    once_among gs (left_by ws h) es a o,
  )

  once_all : (es : List Event) (ws : List ℕ) → AllAside r ws es → Once r (all_moments ws es)
  unfolding all_moments event_moments left_by_event
  once_all [] ws a = tt
  once_all (Calls gs ∷ es) ws a = once_among gs ws es a.1 (once_all es (words_after ws gs) a.1)
  once_all (Replaces after ∷ es) ws a = ((λ t e c. absurd c), once_all es after a.1)
  once_all (Aside after ∷ es) ws a = once_all es after a.1

pub no_ticket_twice_among : NoTicketTwiceAmong
no_ticket_twice_among ws es r a = once_all r es ws a
