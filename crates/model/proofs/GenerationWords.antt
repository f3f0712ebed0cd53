-- A generation's words: those that pass the test are exactly those of a well-formed generation. Assumes nothing.
use Prim.Native.Nat.{ℕ, suc, ◌-◌, ◌≤◌}
use native.Mathlib.Omega.{arith}
use mathlib.Core.Path.{◌≡◌, refl, sym, ◌∙◌, ap}
use mathlib.Core.Bool.{true, ◌&&◌}
use mathlib.Core.List.{List, [], ◌∷◌, ◌++◌}
use lib.ListN.{length, take, drop, replicate, length-drop, take-append-drop}
use lib.Seq.{take-append_seam, drop_at, length-take-le}
use lib.Dec.{eqb}
use borrow.Author.Tests.{eq-eqb, ne_eqb, eqb-true, eqb-false, le-leb, leb-true}
use Rattle.runs.specs.Words.{zeros, pad}
use Rattle.runs.specs.Form.{Exact}
use Rattle.runs.specs.Combine.{form_at}
use Rattle.runs.proofs.Cases.{by_test, both_true, each_true}
use Rattle.runs.proofs.Words.{zeros_are, zeros_pass, length_pad, pad_fits}
use Rattle.model.specs.Widths.{generation_head, generation_width}
use Rattle.model.specs.Generation.{Generation, count}
use Rattle.model.specs.GenerationWords.{encode_generation, read_generation, slots_sound, reached_from, filled_sound, empty_sound, room_sound, tail_sound, age_sound, body_sound}
use Rattle.model.specs.GenerationWords.{generation_sound, GenerationOk, generation_place}
use Rattle.model.proofs.Probing.{count≤}

pub generation_wide : (S : ℕ) (g : Generation) → length (encode_generation S g) ≡ generation_width S
generation_wide S g = rw length_pad (omega arith)

-- ---- from words to a generation: `a` slots, `b` held, the newest `c`, the bucket `d`, the oldest `o`, then the slots
module _ (S n i a b c d o : ℕ) (t : List ℕ) (long : length t ≡ S) (fits : a ≤ length t) (z : zeros (drop a t) ≡ true) (aged : o ≤ c) where
  live : length (take a t) ≡ a
  live = length-take-le a t fits

  padded : t ≡ pad S (take a t)
  padded =
      let k : length (drop a t) ≡ S - length (take a t) = rw (length-drop, live) (omega arith) in
      let r : drop a t ≡ replicate (S - length (take a t)) 0 = rw (← k) (zeros_are (drop a t) z) in
      sym (take-append-drop a t) ∙ ap (λ (l : List ℕ). take a t ++ l) r ∙ sym (pad_fits S (take a t) (rw live (omega arith)))

  abbrev Back : Type 0
  Back =
      GenerationOk S n i (read_generation (a ∷ b ∷ c ∷ d ∷ o ∷ t))
      × (a ∷ b ∷ c ∷ d ∷ o ∷ t ≡ encode_generation S (read_generation (a ∷ b ∷ c ∷ d ∷ o ∷ t)))

  words_are : b ≡ count (take a t) → a ∷ b ∷ c ∷ d ∷ o ∷ t ≡ encode_generation S (read_generation (a ∷ b ∷ c ∷ d ∷ o ∷ t))
  words_are e = rw (← padded, live, ← e)

  back_empty : a ≡ 0 → empty_sound b c ≡ true → Back
  back_empty e p =
      let q = both_true (eqb b 0) (eqb c 0) p in
      let zero_held = eqb-true b 0 q.0 in
      let k = count≤ (take a t) in
      (record { fits = rw live (omega arith); aged = aged; shape = rw (live, eq-eqb a 0 e) q.1 }, words_are (omega (arith, live)))

  back_filled : (a ≡ 0 → ⊥) → (filled_sound n i a b d && slots_sound (take a t) b) ≡ true → Back
  back_filled h f =
      let p = both_true (filled_sound n i a b d) (slots_sound (take a t) b) f in
      let q = both_true (reached_from (take a t) 0 (take a t)) (eqb (count (take a t)) b) p.1 in
      let e = eqb-true (count (take a t)) b q.1 in
      (record { fits = rw live (omega arith); aged = aged; shape = rw (live, ne_eqb a 0 h, e, p.0) q.0 }, words_are (sym e))

back : (S n i : ℕ) (ws : List ℕ) → length ws ≡ generation_width S → generation_sound n i ws ≡ true
    → GenerationOk S n i (read_generation ws) × (ws ≡ encode_generation S (read_generation ws))
unfolding generation_sound
back S n i [] long t = absurd (omega arith)
back S n i (a ∷ []) long t = absurd (omega arith)
back S n i (a ∷ b ∷ []) long t = absurd (omega arith)
back S n i (a ∷ b ∷ c ∷ []) long t = absurd (omega arith)
back S n i (a ∷ b ∷ c ∷ d ∷ []) long t = absurd (omega arith)
back S n i (a ∷ b ∷ c ∷ d ∷ o ∷ ts) long t =
    let five : generation_width a ≡ suc (suc (suc (suc (suc a)))) = omega arith in
    let ws = a ∷ b ∷ c ∷ d ∷ o ∷ ts in
    let p = each_true (room_sound ws) (tail_sound ws ∷ age_sound ws ∷ body_sound n i ws ∷ []) t in
    let fits : a ≤ length ts = let h = leb-true a (length ws - generation_head) p.0 in omega arith in
    let z : zeros (drop a ts) ≡ true = rw five at p.1.0 in
    let aged = leb-true o c p.1.1.0 in
    by_test (eqb a 0)
    (λ e. back_empty S n i a b c d o ts (omega arith) fits z aged (eqb-true a 0 e) (rw e at p.1.1.1))
    (λ e. back_filled S n i a b c d o ts (omega arith) fits z aged (eqb-false a 0 e) (rw e at p.1.1.1))

-- ---- from a generation to words
module _ (S : ℕ) (g : Generation) (fits : length g.slots ≤ S) where
  pub live_pad : take (length g.slots) (pad S g.slots) ≡ g.slots
  live_pad = rw (pad_fits S g.slots fits, take-append_seam)

  pub rest_pad : drop (length g.slots) (pad S g.slots) ≡ replicate (S - length g.slots) 0
  rest_pad = rw (pad_fits S g.slots fits) (drop_at g.slots (replicate (S - length g.slots) 0) (length g.slots) refl)

module _ (S n i : ℕ) (g : Generation) (ok : GenerationOk S n i g) where
  passes : generation_sound n i (encode_generation S g) ≡ true
  unfolding generation_sound
  passes =
      let s = g.slots in
      let fits = ok.fits in
      let five : generation_width (length s) ≡ suc (suc (suc (suc (suc (length s))))) = omega arith in
      let room : length s ≤ length (encode_generation S g) - generation_head = rw length_pad (omega arith) in
      rw (le-leb _ _ room, five, rest_pad S g fits, zeros_pass, le-leb g.oldest g.newest ok.aged, live_pad S g fits)
      (by_test (eqb (length s) 0)
      (λ e.
      let k = count≤ s in
      let zero_held : count s ≡ 0 = omega (arith, eqb-true (length s) 0 e) in
      rw (e, zero_held) (rw e at ok.shape))
      (λ e.
      let p = both_true (filled_sound n i (length s) (count s) g.bucket) (reached_from s 0 s) (rw e at ok.shape) in
      rw (e, p.0, p.1) (eq-eqb (count s) (count s) refl)))

  read_back : read_generation (encode_generation S g) ≡ g
  read_back j = record { bucket = g.bucket; oldest = g.oldest; newest = g.newest; slots = live_pad S g ok.fits j }

pub generation_exact : (S n i : ℕ) → Exact (form_at (generation_place S n) i)
generation_exact S n i = record {
  width = λ g ok. generation_wide S g;
  back = back S n i;
  forth = λ g ok. (passes S n i g ok, read_back S n i g ok);
}
