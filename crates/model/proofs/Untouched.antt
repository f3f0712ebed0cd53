-- A call leaves every register that it is not on; so a register that was opened Empty and that no call touched is as it started.
use Prim.Native.Nat.{ℕ, zero, suc, ◌+◌, ◌*◌, ◌<◌}
use native.Mathlib.Omega.{arith}
use mathlib.Core.Path.{◌≡◌, refl, ap, sym, ◌∙◌, subst}
use mathlib.Core.Bool.{true, false, not}
use mathlib.Core.List.{List, [], ◌∷◌}
use lib.ListN.{get_or}
use borrow.Author.Tests.{not-true}
use Rattle.model.specs.declared.Settings.{Settings}
use Rattle.model.specs.declared.Start.TheVariants.{Empty}
use Rattle.runs.proofs.Cases.{by_test, both_true}
use Rattle.model.specs.Settings.{settings_of, usable_at}
use Rattle.model.specs.Codes.{start_of, went_through}
use Rattle.model.specs.Register.{Register, started}
use Rattle.model.specs.Words.{State}
use Rattle.model.specs.Calls.{Call, Open, Kind, Opens, OnOne, Sets, Other, opens, kind, no_register, register_at, start_all, opened, step, is_open, settings_words_fit, held_in, reply, after}
use Rattle.model.specs.View.{Given, answered, left_by, words_after}
use Rattle.model.specs.Soundness.{Vetted}
use Rattle.model.specs.EqualPart.{Since}
use Rattle.model.specs.RoundTrip.{reaches, touches, none_touches, StaysUntouched}
use Rattle.model.proofs.EveryCall.{lawful}
use Rattle.model.proofs.Simulates.{entered, through_zero}
use Rattle.model.proofs.RoundTrip.{vetted_view}
use Rattle.model.proofs.EqualPartWords.{Tied, opening_ties, later_ties, refused_stays}

-- ---- one call
step_aside : (s : Settings) (call : Call) (q : ℕ) (t : State) → touches q call ≡ false → register_at q (step s call t).state ≡ register_at q t
unfolding step touches
step_aside s call q t e = (lawful call).aside s q t e

not_open : (q : ℕ) (call : Call) → touches q call ≡ false → is_open call ≡ false
unfolding touches is_open
not_open q call e = shut (kind call) e
  where
    shut : (k : Kind) → reaches q k ≡ false → opens k ≡ false
    shut (Opens limits starts) e = e
    shut (OnOne r d) e = refl
    shut (Sets limits) e = refl
    shut Other e = refl

-- ---- an opening
started_at : (s : Settings) (starts : List ℕ) (r n i : ℕ) → i < n
    → get_or (start_all s starts r n) i no_register ≡ started (usable_at s (r + i)) (start_of (get_or starts (2 * (r + i)) 0) (get_or starts (2 * (r + i) + 1) 0))
unfolding start_all
started_at s starts r zero i h = absurd (omega arith)
started_at s starts r (suc n) zero h = let e : r + 0 ≡ r = omega arith in rw e
started_at s starts r (suc n) (suc i) h = let e : r + suc i ≡ suc r + i = omega arith in rw e (started_at s starts (suc r) n i (omega arith))

pub opened_at : (s : Settings) (limits starts : List ℕ) (q : ℕ) → q < s.registers
    → register_at q (opened s limits starts) ≡ started (usable_at s q) (start_of (get_or starts (2 * q) 0) (get_or starts (2 * q + 1) 0))
unfolding opened
opened_at s limits starts q low = let z : 0 + q ≡ q = omega arith in rw z at (started_at s starts 0 s.registers q low)

opened_empty : (s : Settings) (limits starts : List ℕ) (q : ℕ) → q < s.registers → get_or starts (2 * q) 0 ≡ 0
    → register_at q (opened s limits starts) ≡ started (usable_at s q) Empty
unfolding start_of
opened_empty s limits starts q low e = opened_at s limits starts q low ∙ rw e refl

-- ---- a list
-- the words are vetted under the opening's settings, and hold the register as it was
pub record Stayed (st : List ℕ) (q : ℕ) (reg : Register) (ws : List ℕ) : Type 0 where
  pub vetted : Vetted st ws
  pub same : register_at q (held_in (settings_of st) ws) ≡ reg

untouched_after : (st : List ℕ) (q : ℕ) (reg : Register) (calls : List Given) (x : Since) (ws : List ℕ) → settings_words_fit st ≡ true
    → x.settings ≡ settings_of st → Tied x ws → register_at q x.state ≡ reg → none_touches q calls ≡ true → Stayed st q reg (words_after ws calls)
unfolding none_touches words_after
untouched_after st q reg [] x ws fit under tied same clear = record {
  vetted = record { fit = fit; long = rw under at tied.long; sound = rw under at tied.sound };
  same = ap (register_at q) (subst (λ (s : Settings). held_in s ws ≡ x.state) under tied.holds) ∙ same;
}
untouched_after st q reg (g ∷ gs) x ws fit under tied same clear =
    let p = both_true (not (touches q g.call)) (none_touches q gs) clear in
    let aside = not-true (touches q g.call) p.0 in
    by_test (went_through (answered ws g))
    (λ h. untouched_after st q reg gs _ (left_by ws g) fit under (later_ties x ws g (not_open q g.call aside) h tied) (step_aside x.settings g.call q x.state aside ∙ same) p.1)
    (λ h. subst (λ (l : List ℕ). Stayed st q reg (words_after l gs)) (sym (refused_stays g.settings ws g.call h)) (untouched_after st q reg gs x ws fit under tied same p.1))

-- from an opening that went through on
pub stays_as_started : (start st limits starts : List ℕ) (calls : List Given) (q : ℕ) → went_through (reply st start (Open limits starts)) ≡ true
    → q < (settings_of st).registers → get_or starts (2 * q) 0 ≡ 0 → none_touches q calls ≡ true
    → Stayed st q (started (usable_at (settings_of st) q) Empty) (words_after (after st start (Open limits starts)) calls)
unfolding kind
stays_as_started start st limits starts calls q through low e clear =
    untouched_after st q (started (usable_at (settings_of st) q) Empty) calls
    (record { settings = settings_of st; state = opened (settings_of st) limits starts; unchanged = true }) (after st start (Open limits starts))
    (entered st start (Open limits starts) (through_zero st start (Open limits starts) through)).fit refl
    (opening_ties start st (Open limits starts) limits starts refl through) (opened_empty (settings_of st) limits starts q low e) clear

pub stays_untouched : StaysUntouched
stays_untouched start st limits starts calls q t through low e clear seen =
    let now = words_after (after st start (Open limits starts)) calls in
    let h = stays_as_started start st limits starts calls q through low e clear in
    let same = vetted_view st now t seen h.vetted in
    subst (λ (y : State). register_at q y ≡ started (usable_at (settings_of st) q) Empty) same h.same
