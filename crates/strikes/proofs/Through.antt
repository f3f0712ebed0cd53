-- From a function on one part of the words to the reply and the words of a call that nothing refuses.
use Prim.Native.Nat.{ℕ, ◌+◌, ◌-◌, ◌≤◌}
use native.Mathlib.Omega.{arith}
use mathlib.Core.Path.{◌≡◌, refl, sym, ◌∙◌, ap}
use mathlib.Core.Bool.{true}
use mathlib.Core.List.{List, ◌++◌}
use lib.ListN.{length, drop}
use borrow.Author.Tests.{ne_eqb}
use borrow.Rule.Slice.PartMut.{mid_of, put_mid}
use Rattle.std.proofs.Common.{Result}
use Rattle.std.specs.Result.{IsErrAnd}
use Rattle.model.specs.Answer.{Answer, Refused, refusal_number}
use Rattle.model.specs.declared.Refusal.{Refusal}
use Rattle.model.specs.declared.Settings.{Settings}
use Rattle.runs.specs.Form.{Form}
use Rattle.runs.specs.Combine.{Both, both, free}
use Rattle.runs.specs.Turns.{Turns, Reads}
use Rattle.runs.proofs.Parts.{Part, head_part, in_part}
use Rattle.runs.proofs.Turns.{part_turns, part_reads}
use Rattle.model.specs.Settings.{settings_of, settings_fit, words_needed}
use Rattle.model.specs.Words.{State, state_form}
use Rattle.model.specs.Calls.{Call, step, refused, reply, after, held_in, sound}
use Rattle.model.proofs.Words.{state_exact}
use Rattle.model.proofs.View.{sound_holds}
use Rattle.model.proofs.Refused.{refusal_there, exits}
use Rattle.strikes.specs.Calls.{Told, heard}

-- the needed words, and k words past them
abbrev pub lent_form : Settings → ℕ → Form (Both State (List ℕ))
lent_form s k = both (state_form s) (free k)

abbrev pub past_words : Settings → List ℕ → List ℕ
past_words s ws = drop (words_needed s) ws

abbrev pub lent : Settings → List ℕ → Both State (List ℕ)
lent s ws = record { head = held_in s ws; body = past_words s ws }

-- what a call may use once it is vetted
pub record Entered (s : Settings) (ws : List ℕ) : Type 0 where
  pub fit : settings_fit s ≡ true
  pub long : words_needed s ≤ length ws
  pub ok : (lent_form s (length (past_words s ws))).Ok (lent s ws)
  pub words : ws ≡ (lent_form s (length (past_words s ws))).enc (lent s ws)

pub entered : (s : Settings) (ws : List ℕ) → settings_fit s ≡ true → words_needed s ≤ length ws → sound s ws ≡ true → Entered s ws
entered s ws fit long t =
    let h = sound_holds s fit ws long t in
    record { fit = fit; long = long; ok = (h.ok, refl); words = h.words }

-- ---- a part of the needed words, lent from words that may be longer
module _ {B : Type 0} (s : Settings) (k : ℕ) {G : Form B} {a : ℕ} {get : State → B} {put : State → B → State} where
  pub lent_part : Part (state_form s) G a get put
      → Part (lent_form s k) G (0 + a) (λ x. get x.head) (λ x y. record { head = put x.head y; body = x.body })
  lent_part p = in_part (head_part (state_form s) (free k) (state_exact s)) p

-- ---- what a reader of one part says of the state that is held
module _ {B R : Type 0} {G : Form B} {a : ℕ} (s : Settings) (ws : List ℕ) (e : Entered s ws) (get : State → B) {put : State → B → State} (p : Part (state_form s) G a get put)
    (from to : ℕ) (hf : from ≡ a) (ht : to ≡ from + G.wide) {out : B → R} {r : R} where
  pub seen_part : Reads G.enc G.Ok out (mid_of from (to - from) ws) r → r ≡ out (get (held_in s ws))
  seen_part reads =
      let z : from ≡ 0 + a = omega arith in
      (part_reads (lent_part s (length (past_words s ws)) p).lies from to z ht reads).says (lent s ws) e.ok e.words

-- ---- the call's reply and words, from what the step does
module _ (st ws : List ℕ) (call : Call) (none : refused st ws call ≡ 0) where
  pub replied : reply st ws call ≡ (step (settings_of st) call (held_in (settings_of st) ws)).answer
  unfolding reply
  replied = rw none

  pub left : after st ws call ≡ (state_form (settings_of st)).enc (step (settings_of st) call (held_in (settings_of st) ws)).state ++ past_words (settings_of st) ws
  unfolding after
  left = rw none

  -- a writer of one part
  module _ {B R : Type 0} {G : Form B} {a : ℕ} {get : State → B} {put : State → B → State} (e : Entered (settings_of st) ws) (p : Part (state_form (settings_of st)) G a get put)
      (from to : ℕ) (hf : from ≡ a) (ht : to ≡ from + G.wide) {f : B → B} {out : B → R} {last : List ℕ} {r : R}
      (turn : Turns G.enc G.Ok f out (mid_of from (to - from) ws) last r) (answer : R → Answer)
      (answers : (step (settings_of st) call (held_in (settings_of st) ws)).answer ≡ answer (out (get (held_in (settings_of st) ws))))
      (leaves : (step (settings_of st) call (held_in (settings_of st) ws)).state ≡ put (held_in (settings_of st) ws) (f (get (held_in (settings_of st) ws)))) where
    pub through_part : (answer r ≡ reply st ws call) × (put_mid from (to - from) ws last ≡ after st ws call)
    through_part =
        let s = settings_of st in
        let k = length (past_words s ws) in
        let z : from ≡ 0 + a = omega arith in
        let t = (part_turns (lent_part s k p) from to z ht turn).does (lent s ws) e.ok e.words in
        (ap answer t.1 ∙ sym answers ∙ sym replied, t.0 ∙ ap (λ (x : State). (state_form s).enc x ++ past_words s ws) (sym leaves) ∙ sym left)

  -- a reader of one part
  module _ {B R : Type 0} {G : Form B} {a : ℕ} (get : State → B) {put : State → B → State} (e : Entered (settings_of st) ws) (p : Part (state_form (settings_of st)) G a get put)
      (from to : ℕ) (hf : from ≡ a) (ht : to ≡ from + G.wide) {out : B → R} {r : R}
      (reads : Reads G.enc G.Ok out (mid_of from (to - from) ws) r) (answer : R → Answer)
      (answers : (step (settings_of st) call (held_in (settings_of st) ws)).answer ≡ answer (out (get (held_in (settings_of st) ws)))) where
    pub read_part : answer r ≡ reply st ws call
    read_part = ap answer (seen_part (settings_of st) ws e get p from to hf ht reads) ∙ sym answers ∙ sym replied

-- ---- a call that is refused
pub refused_reply : (st ws : List ℕ) (call : Call) (n : ℕ) → refused st ws call ≡ n → (n ≡ 0 → ⊥) → (Refused n ≡ reply st ws call) × (ws ≡ after st ws call)
unfolding reply after
refused_reply st ws call n e h = let b = ne_eqb n 0 h in (rw (e, b), rw (e, b))

module _ {A : Type 0} (f : A → Answer) (st ws : List ℕ) (call : Call) (e : Refusal) (r : Result A Refusal) (out : IsErrAnd r (λ y. y ≡ e))
    (is : refused st ws call ≡ refusal_number e) where
  pub told_exit : Told st ws call (heard f r) ws
  told_exit = let q = refused_reply st ws call _ is (refusal_there e) in rw (exits r out) (record { answer = q.0; words = q.1 })
