-- Equal part, of any list of calls on any words (specs/EqualPart). Kept along the list: the words hold what the rules yield since the
-- opening, and while the limits stay any one holder of a class has at most T units and any two at most T and half of it.
use mathlib.Core.Path.{◌≡◌, refl, ap, sym, ◌∙◌, subst}
use mathlib.Core.Bool.{true, false}
use mathlib.Core.List.{List, [], ◌∷◌, ◌++◌}
use Rattle.std.specs.Prelude.{Option, Some, None}
use Prim.Native.Nat.{ℕ, ◌≤◌}
use lib.Dec.{eqb}
use lib.ListN.{length}
use borrow.Author.Tests.{eqb-true}
use Rattle.model.specs.Answer.{Refused, Said}
use Rattle.model.specs.declared.Manner.TheVariants.{Judged, Taken, TakenBatch}
use Rattle.model.specs.declared.Verdict.TheVariants.{New}
use Rattle.model.specs.declared.Settings.{Settings}
use Rattle.model.specs.declared.Shares.{Shares}
use Rattle.runs.proofs.Cases.{by_test, both_true, no}
use Rattle.model.specs.Settings.{settings_of, limits_of, usable_at, settings_fit, words_needed}
use Rattle.model.specs.Book.{Place, together, places_of}
use Rattle.model.specs.Words.{State}
use Rattle.model.specs.Judge.{judge, take, take_batch}
use Rattle.model.specs.Calls.{Asking, Ticket, Call, Open, On, Kind, Opens, OnOne, Sets, Other, opens, kind, ask_of, register_at}
use Rattle.model.specs.Calls.{opened, after_judged, after_taken, asked, done_on, step, is_open, sound, held_in, refused, reply, after}
use Rattle.model.specs.View.{Given, answered, left_by, words_after}
use Rattle.model.specs.Codes.{went_through}
use Rattle.model.specs.Soundness.{Vetted}
use Rattle.model.specs.EqualPart.{Since, limits_stay, and_then, gone_by, gone_through, heard, since_opening, answer_due, Promised, EqualPart, WordsHold}
use Rattle.model.specs.EqualPart.{OpeningHolds, cost, HoldersKept, SharesKept}
use Rattle.model.proofs.Refusals.{step_through}
use Rattle.model.proofs.View.{Trimmed, brought_trimmed, kept_are, view_sound}
use Rattle.model.proofs.Simulates.{refused_words, entered, fit_settings, reply_is, through_zero, simulates}
use Rattle.model.proofs.NotNew.{same_refusal}
use Rattle.model.proofs.Units.{Shared, one_of, two_of}
use Rattle.model.proofs.Sharing.{each_units}
use Rattle.model.proofs.SharesKept.{Bounded, opened_bounded}
use Rattle.model.proofs.EqualPart.{take_due, take_batch_due}
use Rattle.model.proofs.EveryCall.{lawful}

-- ---- what is kept
pub record Tied (x : Since) (ws : List ℕ) : Type 0 where
  pub fit : settings_fit x.settings ≡ true
  pub trimmed : Trimmed x.settings
  pub long : words_needed x.settings ≤ length ws
  pub sound : sound x.settings ws ≡ true
  pub holds : held_in x.settings ws ≡ x.state
  pub bounded : x.unchanged ≡ true → Bounded x.settings.shares x.state.book

abbrev pub TiedIf : Option Since → List ℕ → Type 0
TiedIf None ws = Unit {0}
TiedIf (Some x) ws = Tied x ws

-- words are sound under one settings alone
same_settings : (x : Since) (ws : List ℕ) → Tied x ws → (st : List ℕ) → Vetted st ws → settings_of st ≡ x.settings
same_settings x ws t st v =
    let fit = fit_settings st v.fit in
    sym (kept_are (settings_of st) fit (brought_trimmed st fit) ws v.long v.sound)
    ∙ kept_are x.settings t.fit t.trimmed ws t.long t.sound

-- what is read under the settings that a call brings is read under those of the opening
read_under : (x : Since) (ws : List ℕ) → Tied x ws → (st : List ℕ) → settings_of st ≡ x.settings → (P : Settings → State → Type 0)
    → P (settings_of st) (held_in (settings_of st) ws) → P x.settings x.state
read_under x ws t st e P p =
    subst (P x.settings) t.holds (subst (λ (s : Settings). P s (held_in s ws)) e p)

-- ---- a call that went through found its words sound; a call that did not left them
pub vetted_before : (st ws : List ℕ) (call : Call) → is_open call ≡ false → went_through (reply st ws call) ≡ true → Vetted st ws
vetted_before st ws call shut through =
    let e = entered st ws call (through_zero st ws call through) in record { fit = e.fit; long = e.long; sound = e.vets shut }

pub refused_stays : (st ws : List ℕ) (call : Call) → went_through (reply st ws call) ≡ false → after st ws call ≡ ws
refused_stays st ws call h =
    let s = settings_of st in
    let t = held_in s ws in
    by_test (eqb (refused st ws call) 0)
    (λ e.
    let through = ap went_through (reply_is st ws call (eqb-true (refused st ws call) 0 e)) ∙ step_through s call t in
    let z : false ≡ true = sym h ∙ through in no (cc))
    (λ e. refused_words st ws call e)

-- judge answers New: nothing refuses, and the rules judge it New
pub record JudgedNew (st ws : List ℕ) (r : ℕ) (a : Asking) : Type 0 where
  pub passed : eqb (refused st ws (On r (Ticket Judged a))) 0 ≡ true
  pub new : (judge (usable_at (settings_of st) r) (register_at r (held_in (settings_of st) ws)) (ask_of a)).says ≡ New

pub judged_new : (st ws : List ℕ) (r : ℕ) (a : Asking) → reply st ws (On r (Ticket Judged a)) ≡ Said New → JudgedNew st ws r a
unfolding reply step done_on asked after_judged
judged_new st ws r a e =
    by_test (eqb (refused st ws (On r (Ticket Judged a))) 0)
    (λ t.
    let q : Said (judge (usable_at (settings_of st) r) (register_at r (held_in (settings_of st) ws)) (ask_of a)).says ≡ Said New = rw t at e in
    record { passed = t; new = (cc) })
    (λ t. let q : Refused (refused st ws (On r (Ticket Judged a))) ≡ Said New = rw t at e in no (cc))

module _ (st ws : List ℕ) (r : ℕ) (a : Asking) (passed : eqb (refused st ws (On r (Ticket Judged a))) 0 ≡ true) where
  pub take_says : reply st ws (On r (Ticket Taken a))
      ≡ Said (take (usable_at (settings_of st) r) (settings_of st).shares (register_at r (held_in (settings_of st) ws)) (held_in (settings_of st) ws).book (ask_of a)).says
  unfolding reply step done_on asked after_taken
  take_says = rw (same_refusal st ws r a Taken Judged, passed)

  pub take_batch_says : reply st ws (On r (Ticket TakenBatch a))
      ≡ Said (take_batch (usable_at (settings_of st) r) (settings_of st).shares (register_at r (held_in (settings_of st) ws)) (held_in (settings_of st) ws).book (ask_of a)).says
  unfolding reply step done_on asked after_taken
  take_batch_says = rw (same_refusal st ws r a TakenBatch Judged, passed)

-- ---- an opening ties the words to what it opens
pub opening_ties : (ws st : List ℕ) (call : Call) (limits starts : List ℕ) → kind call ≡ Opens limits starts → went_through (reply st ws call) ≡ true
    → Tied (record { settings = settings_of st; state = opened (settings_of st) limits starts; unchanged = true }) (after st ws call)
unfolding step kind opened
opening_ties ws st call limits starts is through =
    let m = simulates ws (record { settings = st; call = call }) through in
    let fit = fit_settings st m.vetted.fit in
    record {
      fit = fit;
      trimmed = brought_trimmed st fit;
      long = m.vetted.long;
      sound = m.vetted.sound;
      holds = m.holds ∙ (lawful call).afresh limits starts is (settings_of st) (held_in (settings_of st) ws);
      bounded = λ e. opened_bounded (settings_of st).shares (limits_of limits);
    }

-- so the words hold the opened state
pub opening_holds : OpeningHolds
unfolding step
opening_holds st ws limits starts through = (simulates ws (record { settings = st; call = Open limits starts }) through).seen

-- ---- any later call that went through leaves them tied
pub later_ties : (x : Since) (ws : List ℕ) (g : Given) → is_open g.call ≡ false → went_through (answered ws g) ≡ true → Tied x ws
    → TiedIf (and_then g.call (Some x)) (left_by ws g)
unfolding step limits_stay
later_ties x ws g shut through t =
    let m = simulates ws g through in
    let e : settings_of g.settings ≡ x.settings = same_settings x ws t g.settings (vetted_before g.settings ws g.call shut through) in
    let holds : held_in x.settings (left_by ws g) ≡ (step x.settings g.call (held_in x.settings ws)).state = rw e at m.holds in
    record {
      fit = t.fit;
      trimmed = t.trimmed;
      long = rw e at m.vetted.long;
      sound = rw e at m.vetted.sound;
      holds = holds ∙ ap (λ (y : State). (step x.settings g.call y).state) t.holds;
      bounded = λ p. let q = both_true x.unchanged (limits_stay g.call x.state.book.limits) p in
          (lawful g.call).bounded x.settings x.state q.1 (t.bounded q.0);
    }

then_ties : (k : Option Since) (ws : List ℕ) (g : Given) → is_open g.call ≡ false → went_through (answered ws g) ≡ true → TiedIf k ws
    → TiedIf (and_then g.call k) (left_by ws g)
then_ties None ws g shut through t = tt
then_ties (Some x) ws g shut through t = later_ties x ws g shut through t

through_ties : (k : Option Since) (ws st : List ℕ) (call : Call) → went_through (reply st ws call) ≡ true → TiedIf k ws
    → TiedIf (gone_through (settings_of st) call k) (after st ws call)
unfolding gone_through is_open
through_ties k ws st call h t = by_kind (kind call) refl
  where
    by_kind : (q : Kind) → kind call ≡ q → TiedIf (gone_by (settings_of st) q call k) (after st ws call)
    by_kind (Opens limits starts) e = opening_ties ws st call limits starts e h
    by_kind (OnOne r d) e = then_ties k ws (record { settings = st; call = call }) (ap opens e) h t
    by_kind (Sets limits) e = then_ties k ws (record { settings = st; call = call }) (ap opens e) h t
    by_kind Other e = then_ties k ws (record { settings = st; call = call }) (ap opens e) h t

-- a refused call leaves all as it was
call_ties : (k : Option Since) (ws : List ℕ) (g : Given) → TiedIf k ws → TiedIf (heard g (answered ws g) k) (left_by ws g)
unfolding heard
call_ties k ws g t =
    by_test (went_through (answered ws g)) (λ h. rw h (through_ties k ws g.settings g.call h t)) (λ h. rw (h, refused_stays g.settings ws g.call h) t)

pub list_ties : (gs : List Given) (k : Option Since) (ws : List ℕ) → TiedIf k ws → TiedIf (since_opening k ws gs) (words_after ws gs)
unfolding since_opening words_after
list_ties [] k ws t = t
list_ties (g ∷ gs) k ws t = list_ties gs (heard g (answered ws g) k) (left_by ws g) (call_ties k ws g t)

-- ---- the promise, on words that are tied
pub due : (x : Since) (ws : List ℕ) → Tied x ws → Promised x ws
unfolding went_through is_open answer_due
due x ws t unchanged st r a says d =
    let n = judged_new st ws r a says in
    let through : went_through (reply st ws (On r (Ticket Judged a))) ≡ true = rw says refl in
    let e : settings_of st ≡ x.settings = same_settings x ws t st (vetted_before st ws (On r (Ticket Judged a)) refl through) in
    let u = usable_at x.settings r in
    let reg = register_at r x.state in
    let new = read_under x ws t st e (λ (s : Settings) (y : State). (judge (usable_at s r) (register_at r y) (ask_of a)).says ≡ New) n.new in
    record {
      from_take = read_under x ws t st e
          (λ (s : Settings) (y : State). reply st ws (On r (Ticket Taken a)) ≡ Said (take (usable_at s r) s.shares (register_at r y) y.book (ask_of a)).says)
          (take_says st ws r a n.passed)
          ∙ ap Said (take_due u x.settings.shares reg x.state.book (ask_of a) d (t.bounded unchanged) new);
      from_take_batch = read_under x ws t st e
          (λ (s : Settings) (y : State). reply st ws (On r (Ticket TakenBatch a)) ≡ Said (take_batch (usable_at s r) s.shares (register_at r y) y.book (ask_of a)).says)
          (take_batch_says st ws r a n.passed)
          ∙ ap Said (take_batch_due u x.settings.shares reg x.state.book (ask_of a) d (t.bounded unchanged) new);
    }

tied_after : (start : List ℕ) (calls : List Given) (x : Since) → since_opening None start calls ≡ Some x → Tied x (words_after start calls)
tied_after start calls x e = subst (λ (k : Option Since). TiedIf k (words_after start calls)) e (list_ties calls None start tt)

-- demand 3, second half
pub equal_part : (start : List ℕ) (calls : List Given) → EqualPart start calls
equal_part start calls x e = due x (words_after start calls) (tied_after start calls x e)

-- ---- beside it
pub words_hold : (start : List ℕ) (calls : List Given) → WordsHold start calls
words_hold start calls x e =
    let t = tied_after start calls x e in
    view_sound x.settings t.fit t.trimmed (words_after start calls) t.long t.sound ∙ ap Some t.holds

each_append : (b : Shares) (ps qs : List Place) → each_units b (ps ++ qs) ≡ each_units b ps ++ each_units b qs
each_append b [] qs = refl
each_append b (p ∷ ps) qs = ap (λ (l : List ℕ). cost b p ∷ l) (each_append b ps qs)

holders_kept : (b : Shares) (limit : ℕ) (ps : List Place) → Shared limit (each_units b ps) → HoldersKept b limit ps
holders_kept b limit ps h = record {
  any_one = λ before p rest e. one_of limit (each_units b before) (cost b p) (each_units b rest)
      (subst (Shared limit) (ap (each_units b) e ∙ each_append b before (p ∷ rest)) h);
  any_two = λ before p between q rest e. two_of limit (each_units b before) (cost b p) (each_units b between) (cost b q) (each_units b rest)
      (subst (Shared limit)
      (ap (each_units b) e ∙ each_append b before (p ∷ (between ++ (q ∷ rest)))
      ∙ ap (λ (l : List ℕ). each_units b before ++ (cost b p ∷ l)) (each_append b between (q ∷ rest))) h);
}

pub shares_kept : (start : List ℕ) (calls : List Given) → SharesKept start calls
shares_kept start calls x e unchanged c =
    holders_kept x.settings.shares (together x.state.book.limits c) (places_of c x.state.book) ((tied_after start calls x e).bounded unchanged c)
