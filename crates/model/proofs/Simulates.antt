-- A call that goes through does to the state that the words hold what the rules say, and leaves the words sound (specs/Soundness).
-- Assumes nothing.
use Prim.Native.Nat.{ℕ, suc, ◌≤◌}
use native.Mathlib.Omega.{arith}
use mathlib.Core.Path.{◌≡◌, refl, sym, ◌∙◌, ap, subst}
use mathlib.Core.Bool.{Bool, true, false, cond, not, ◌&&◌, ◌||◌}
use mathlib.Core.List.{List, ◌++◌}
use Rattle.std.specs.Prelude.{Some}
use lib.Dec.{eqb}
use lib.ListN.{length, drop, length-append, length-drop}
use borrow.Author.Tests.{eqb-true, eq-eqb, ltb-false, not-false}
use Rattle.model.specs.declared.Settings.{Settings}
use Rattle.runs.proofs.Cases.{by_test, both_true, no}
use Rattle.model.specs.Settings.{settings_width, settings_of, settings_fit, words_needed}
use Rattle.model.specs.Words.{State, state_form}
use Rattle.model.specs.Calls.{Call, step, codes_fit, settings_words_fit, unfit, too_short, is_open, sound, unsound, no_such_register, first_met, held_in, refused, reply, after}
use Rattle.model.specs.View.{kept_settings, view}
use Rattle.model.specs.Codes.{went_through}
use Rattle.model.specs.Soundness.{SoundnessKept, Vetted, Simulation}
use Rattle.model.proofs.Choice.{or_cases, true_false}
use Rattle.model.proofs.Words.{state_exact, state_wide}
use Rattle.model.proofs.View.{brought_trimmed, sound_holds, written, kept_are, view_written}
use Rattle.model.proofs.EveryCall.{lawful}

-- ---- a refusal alters nothing
pub refused_words : (st ws : List ℕ) (call : Call) → eqb (refused st ws call) 0 ≡ false → after st ws call ≡ ws
unfolding after
refused_words st ws call e = rw e

-- ---- a refusal number of 0: no condition is met
pub not_met : (b : Bool) (n m : ℕ) → cond b (suc n) m ≡ 0 → (b ≡ false) × (m ≡ 0)
not_met true n m e = absurd (omega arith)
not_met false n m e = (refl, e)

-- all that a call that goes through may rely on
pub record Entered (st ws : List ℕ) (call : Call) : Type 0 where
  pub fit : settings_words_fit st ≡ true
  pub codes : codes_fit (settings_of st) call ≡ true
  pub long : words_needed (settings_of st) ≤ length ws
  pub vets : is_open call ≡ false → sound (settings_of st) ws ≡ true
  pub register : no_such_register (settings_of st) call ≡ false

sound_or_open : (a b : Bool) → not (a || b) ≡ false → a ≡ false → b ≡ true
sound_or_open a b t e = or_cases a b (not-false (a || b) t) (λ d. true_false d e) (λ d. d)

pub entered : (st ws : List ℕ) (call : Call) → refused st ws call ≡ 0 → Entered st ws call
unfolding refused first_met unfit too_short unsound
entered st ws call z =
    let s = settings_of st in
    let a = not_met (unfit st call) 0 _ z in
    let b = not_met (too_short st ws) 1 _ a.1 in
    let c = not_met (unsound st ws call) 2 _ b.1 in
    let d = not_met (no_such_register s call) 3 _ c.1 in
    let f = both_true (settings_words_fit st) (codes_fit s call) (not-false (settings_words_fit st && codes_fit s call) a.0) in
    record {
      fit = f.0;
      codes = f.1;
      long = ltb-false (length ws) (words_needed s) b.0;
      vets = sound_or_open (is_open call) (sound s ws) c.0;
      register = d.0;
    }

pub fit_settings : (st : List ℕ) → settings_words_fit st ≡ true → settings_fit (settings_of st) ≡ true
unfolding settings_words_fit
fit_settings st t = (both_true (eqb (length st) settings_width) (settings_fit (settings_of st)) t).1

-- ---- words that are vetted hold a well-formed state, and tell their settings
pub vetted_ok : (st ws : List ℕ) → Vetted st ws → (state_form (settings_of st)).Ok (held_in (settings_of st) ws)
vetted_ok st ws v = (sound_holds (settings_of st) (fit_settings st v.fit) ws v.long v.sound).ok

pub vetted_kept : (st ws : List ℕ) → Vetted st ws → kept_settings ws ≡ settings_of st
vetted_kept st ws v =
    let f = fit_settings st v.fit in
    kept_are (settings_of st) f (brought_trimmed st f) ws v.long v.sound

pub one_settings : (st st' ws : List ℕ) → Vetted st ws → Vetted st' ws → settings_of st ≡ settings_of st'
one_settings st st' ws v v' = sym (vetted_kept st ws v) ∙ vetted_kept st' ws v'

-- ---- the state that a call leaves is well formed
pub soundness_kept : SoundnessKept
unfolding step codes_fit no_such_register
soundness_kept s call t fit adm ok = (lawful call).sound s t fit adm.0 adm.1 (λ o. ok)

module _ (st ws : List ℕ) (call : Call) (z : refused st ws call ≡ 0) where
  abbrev s : Settings
  s = settings_of st

  abbrev left : State
  left = (step s call (held_in s ws)).state

  left_ok : (state_form s).Ok left
  unfolding step codes_fit is_open no_such_register
  left_ok =
      let e = entered st ws call z in
      (lawful call).sound s (held_in s ws) (fit_settings st e.fit) e.codes e.register
      (λ o. vetted_ok st ws (record { fit = e.fit; long = e.long; sound = e.vets o }))

  pub after_is : after st ws call ≡ (state_form s).enc left ++ drop (words_needed s) ws
  unfolding after
  after_is = rw (eq-eqb (refused st ws call) 0 z)

  pub reply_is : reply st ws call ≡ (step s call (held_in s ws)).answer
  unfolding reply
  reply_is = rw (eq-eqb (refused st ws call) 0 z)

  pub after_vetted : Vetted st (after st ws call)
  after_vetted =
      let e = entered st ws call z in
      let w = written s (fit_settings st e.fit) left (drop (words_needed s) ws) left_ok in
      subst (λ (l : List ℕ). Vetted st l) (sym after_is) (record { fit = e.fit; long = w.long; sound = w.sound })

  pub after_holds : held_in s (after st ws call) ≡ left
  after_holds =
      let e = entered st ws call z in
      ap (held_in s) after_is ∙ (written s (fit_settings st e.fit) left (drop (words_needed s) ws) left_ok).holds

  after_seen : view (after st ws call) ≡ Some left
  after_seen =
      let e = entered st ws call z in
      let f = fit_settings st e.fit in
      ap view after_is ∙ view_written s f (brought_trimmed st f) left (drop (words_needed s) ws) left_ok

  after_long : length (after st ws call) ≡ length ws
  after_long =
      let e = entered st ws call z in
      let w = (state_exact s).width left left_ok ∙ state_wide s (fit_settings st e.fit) in
      let l = e.long in
      ap length after_is ∙ rw (length-append, w, length-drop) (omega arith)

-- ---- a reply that is no refusal comes of a refusal number of 0
pub through_zero : (st ws : List ℕ) (call : Call) → went_through (reply st ws call) ≡ true → refused st ws call ≡ 0
unfolding reply went_through
through_zero st ws call t =
    by_test (eqb (refused st ws call) 0) (λ e. eqb-true (refused st ws call) 0 e) (λ e. let n : false ≡ true = rw e at t in no (cc))

pub simulates : Simulation
simulates ws g t =
    let z = through_zero g.settings ws g.call t in
    record {
      vetted = after_vetted g.settings ws g.call z;
      holds = after_holds g.settings ws g.call z;
      seen = after_seen g.settings ws g.call z;
      as_long = after_long g.settings ws g.call z;
    }
