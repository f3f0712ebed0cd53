-- Words written over others, one after the other.
use Prim.Native.Nat.{ℕ, suc, ◌+◌, ◌*◌, ◌<◌, ◌≤◌}
use native.Mathlib.Numerals.{add-one}
use native.Mathlib.Nat.{mul-add, mul_comm}
use native.Mathlib.Omega.{arith}
use mathlib.Core.Path.{◌≡◌, refl, ap, sym, ◌∙◌}
use mathlib.Core.List.{List, [], ◌∷◌, ◌++◌, append_assoc, append-nil}
use lib.ListN.{length, set, take, drop, take-append-drop, length-append, length-drop}
use lib.Seq.{take-suc-set, drop-set-lt, length-take-le, take_at, drop-append-add, drop-drop}
use Rattle.runs.specs.Chunks.{flat}
use Rattle.runs.specs.Over.{written, Fits, Puts, itself}
use Rattle.runs.proofs.Chunks.{flat_append, length_flat}

-- one, and then the rest
pub one_then : (p v : ℕ) (xs out : List ℕ) → p < length out → written (p + 1) xs (set out p v) ≡ written p (v ∷ xs) out
unfolding written
one_then p v xs out h =
    let e : p + 1 + length xs ≡ p + suc (length xs) = omega arith in
    rw (e, drop-set-lt (p + suc (length xs)) out p v (omega arith), add-one, take-suc-set out p v h, append_assoc)

pub written_none : (p : ℕ) (out : List ℕ) → written p [] out ≡ out
unfolding written
written_none p out = let e : p + 0 ≡ p = omega arith in rw e (take-append-drop p out)

-- words as themselves
pub flat_itself : (ws : List ℕ) → flat itself ws ≡ ws
unfolding flat
flat_itself [] = refl
flat_itself (w ∷ ws) = ap (λ (l : List ℕ). w ∷ l) (flat_itself ws)

-- ---- some, and then more behind them
module _ (p : ℕ) (a out : List ℕ) (h : p + length a ≤ length out) where
  head_long : length (take p out ++ a) ≡ p + length a
  head_long = rw (length-append, length-take-le p out (omega arith))

  pub length_written : length (written p a out) ≡ length out
  unfolding written
  length_written =
      let l = length-drop (p + length a) out in
      rw (length-append, length-append, length-take-le p out (omega arith)) (omega arith)

  written_then : (b : List ℕ) → written (p + length a) b (written p a out) ≡ written p (a ++ b) out
  unfolding written
  written_then b =
      let head = take p out ++ a in
      let rest = drop (p + length a) out in
      let e : p + length a + length b ≡ length head + length b = omega (arith, head_long) in
      let k : p + length a + length b ≡ p + length (a ++ b) = rw length-append (omega arith) in
      let d : drop (p + length a + length b) (head ++ rest) ≡ drop (p + length (a ++ b)) out =
      ap (λ (n : ℕ). drop n (head ++ rest)) e ∙ drop-append-add head rest (length b) ∙ drop-drop (length b) (p + length a) out
      ∙ ap (λ (n : ℕ). drop n out) k in
      let last = drop (p + length (a ++ b)) out in
      rw (← append_assoc (take p out) a rest, take_at head rest (p + length a) head_long, d)
      (append_assoc (take p out) a (b ++ last) ∙ ap (λ (l : List ℕ). take p out ++ l) (sym (append_assoc a b last)))

-- ---- words that are still to be written, where all together are those of p₀, ws₀ and out₀
pub record Writes (enc : ℕ → List ℕ) (k p : ℕ) (ws out : List ℕ) (p₀ : ℕ) (ws₀ out₀ : List ℕ) : Type 0 where
  pub same : written p (flat enc ws) out ≡ written p₀ (flat enc ws₀) out₀
  pub next : p + k * length ws ≡ p₀ + k * length ws₀
  pub long : length out ≡ length out₀
  pub room : p + k * length ws ≤ length out

pub writes_start : {enc : ℕ → List ℕ} {k p : ℕ} {ws out : List ℕ} → Fits k p ws out → Writes enc k p ws out p ws out
writes_start f = record { same = refl; next = refl; long = refl; room = f.room }

both_long : (k : ℕ) (us vs : List ℕ) → k * length (us ++ vs) ≡ k * length us + k * length vs
both_long k us vs = rw length-append (mul-add k (length us) (length vs))

pub fits_first : {k p : ℕ} {out : List ℕ} (us vs : List ℕ) → Fits k p (us ++ vs) out → Fits k p us out
fits_first {k} us vs f = let r = f.room in let l = both_long k us vs in record { room = omega arith }

module _ (enc : ℕ → List ℕ) (k : ℕ) where
  -- nothing is written
  pub puts_none : (p : ℕ) (out : List ℕ) → Puts enc k p [] out out p
  unfolding flat
  puts_none p out = record { out = sym (written_none p out); next = omega arith }

  -- one word
  pub puts_one : {p n : ℕ} {before after : List ℕ} → after ≡ written p (enc n) before → (r : ℕ) → r ≡ p + k → Puts enc k p (n ∷ []) before after r
  unfolding flat
  puts_one e r h = record { out = rw append-nil e; next = omega arith }

module _ {enc : ℕ → List ℕ} {k p p₀ : ℕ} {out ws₀ out₀ : List ℕ} where
  -- the first of them
  pub writes_fits : (us vs : List ℕ) → Writes enc k p (us ++ vs) out p₀ ws₀ out₀ → Fits k p us out
  writes_fits us vs w = fits_first us vs (record { room = w.room })

  pub writes_on : ((n : ℕ) → length (enc n) ≡ k) → (us vs : List ℕ) → Writes enc k p (us ++ vs) out p₀ ws₀ out₀
      → {after : List ℕ} {r : ℕ} → Puts enc k p us out after r → Writes enc k r vs after p₀ ws₀ out₀
  writes_on width us vs w {after} {r} d =
      let room = w.room in
      let l = both_long k us vs in
      let bu : length (flat enc us) ≡ k * length us = length_flat enc k width us ∙ mul_comm (length us) k in
      let h : p + length (flat enc us) ≤ length out = omega arith in
      let n = d.next in
      let e : r ≡ p + length (flat enc us) = omega arith in
      let q : length after ≡ length out = ap length d.out ∙ length_written p (flat enc us) out h in
      let wn = w.next in
      let wl = w.long in
      record {
        same =
            rw (d.out, e)
            (written_then p (flat enc us) out h (flat enc vs)
            ∙ ap (λ (b : List ℕ). written p b out) (sym (flat_append enc us vs)) ∙ w.same);
        next = omega arith;
        long = omega arith;
        room = omega arith;
      }

  -- none is left
  pub writes_end : Writes enc k p [] out p₀ ws₀ out₀ → Puts enc k p₀ ws₀ out₀ out p
  unfolding flat
  writes_end w = let n = w.next in record { out = sym (written_none p out) ∙ w.same; next = omega arith }

  -- the last of them
  pub writes_last : (us : List ℕ) → Writes enc k p us out p₀ ws₀ out₀ → {after : List ℕ} {r : ℕ} → Puts enc k p us out after r
      → Puts enc k p₀ ws₀ out₀ after r
  unfolding flat
  writes_last us w d =
      let n = w.next in
      let m = d.next in
      record { out = d.out ∙ w.same; next = omega arith }
