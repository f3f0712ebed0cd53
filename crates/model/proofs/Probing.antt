-- Probing over any number of slots: one step of it, where it ends, and that it finds exactly what the slots hold. What a `put`
-- keeps, finds and counts follows. Assumes nothing.
use Prim.Native.Nat.{ℕ, zero, suc, ◌+◌, ◌-◌, ◌%◌, ◌<◌, ◌≤◌}
use native.Mathlib.Omega.{arith}
use native.Mathlib.Nat.{mod-lt, add-zero}
use mathlib.Core.Path.{◌≡◌, refl, sym, ◌∙◌, ap}
use mathlib.Core.Bool.{Bool, true, false, cond, ◌||◌}
use mathlib.Core.List.{List, [], ◌∷◌}
use lib.ListN.{length, get_or, set, length-set}
use lib.Seq.{get_or-set_same, get_or-set_other}
use lib.Dec.{eqb, leb}
use borrow.Author.Tests.{eq-eqb, ne_eqb, eqb-true, eqb-false, leb-true, leb-false}
use Rattle.runs.proofs.Cases.{by_test, no, both_true}
use Rattle.model.specs.declared.Probe.{Probe}
use Rattle.model.specs.declared.Probe.TheVariants.{Held, Free, Nowhere}
use Rattle.model.specs.Generation.{count, among, next, probe_from, probe, put}
use Rattle.model.specs.GenerationWords.{ends_at, reached, reached_from}

-- ---- one step
pub next< : (n i : ℕ) → i < n → next n i < n
next< n i h =
    by_test (eqb (i + 1) n) (λ e. rw e (omega arith)) (λ e. rw e (omega (arith, eqb-false (i + 1) n e)))

module _ (s : List ℕ) (fp : ℕ) where
  probe_step : (f i : ℕ) → 0 < f → probe_from s fp f i
      ≡ cond (eqb (get_or s i 0) fp) (Held i) (cond (eqb (get_or s i 0) 0) (Free i) (probe_from s fp (f - 1) (next (length s) i)))
  unfolding probe_from
  probe_step zero i h = absurd (omega arith)
  probe_step (suc f) i h = let e : suc f - 1 ≡ f = omega arith in rw e

  pub probe_held : (f i : ℕ) → 0 < f → get_or s i 0 ≡ fp → probe_from s fp f i ≡ Held i
  probe_held f i h e = rw (probe_step, eq-eqb _ _ e)

  pub probe_free : (f i : ℕ) → 0 < f → (get_or s i 0 ≡ fp → ⊥) → get_or s i 0 ≡ 0 → probe_from s fp f i ≡ Free i
  probe_free f i h n e = rw (probe_step, ne_eqb _ _ n, eq-eqb _ _ e)

  pub probe_on : (f i : ℕ) → 0 < f → (get_or s i 0 ≡ fp → ⊥) → (get_or s i 0 ≡ 0 → ⊥)
      → probe_from s fp f i ≡ probe_from s fp (f - 1) (next (length s) i)
  probe_on f i h n m = rw (probe_step f i h, ne_eqb _ _ n, ne_eqb _ _ m)

  pub probe_out : (f i : ℕ) → f ≤ 0 → probe_from s fp f i ≡ Nowhere
  unfolding probe_from
  probe_out zero i h = refl
  probe_out (suc f) i h = absurd (omega arith)

  -- the three ways of one step
  ways : {A : Type 0} (f j : ℕ)
      → (get_or s j 0 ≡ fp → probe_from s fp (suc f) j ≡ Held j → A)
      → ((get_or s j 0 ≡ fp → ⊥) → get_or s j 0 ≡ 0 → probe_from s fp (suc f) j ≡ Free j → A)
      → ((get_or s j 0 ≡ fp → ⊥) → (get_or s j 0 ≡ 0 → ⊥) → probe_from s fp (suc f) j ≡ probe_from s fp f (next (length s) j) → A)
      → A
  unfolding probe_from
  ways f j held free on =
      by_test (eqb (get_or s j 0) fp) (λ a. held (eqb-true _ _ a) (rw a))
      (λ a. by_test (eqb (get_or s j 0) 0) (λ b. free (eqb-false _ _ a) (eqb-true _ _ b) (rw (a, b)))
      (λ b. on (eqb-false _ _ a) (eqb-false _ _ b) (rw (a, b))))

  -- ---- where it ends: at the fingerprint, or at an empty slot
  held_from : (f j i : ℕ) → j < length s → probe_from s fp f j ≡ Held i → (i < length s) × (get_or s i 0 ≡ fp)
  unfolding probe_from
  held_from zero j i h e = no (cc)
  held_from (suc f) j i h e =
      ways f j (λ a w. let q : j ≡ i = cc in rw (← q) (h, a)) (λ a b w. no (cc))
      (λ a b w. held_from f (next (length s) j) i (next< (length s) j h) (sym w ∙ e))

  free_from : (f j i : ℕ) → j < length s → probe_from s fp f j ≡ Free i → (i < length s) × (get_or s i 0 ≡ 0)
  unfolding probe_from
  free_from zero j i h e = no (cc)
  free_from (suc f) j i h e =
      ways f j (λ a w. no (cc)) (λ a b w. let q : j ≡ i = cc in rw (← q) (h, b))
      (λ a b w. free_from f (next (length s) j) i (next< (length s) j h) (sym w ∙ e))

  -- no slots, or a first slot to probe
  starts : {A : Type 0} → (probe s fp ≡ Nowhere → A) → (fp % length s < length s → probe s fp ≡ probe_from s fp (length s) (fp % length s) → A) → A
  unfolding probe
  starts none some =
      by_test (eqb (length s) 0) (λ e. none (probe_out (length s) (fp % length s) (omega (arith, eqb-true (length s) 0 e))))
      (λ e. some (mod-lt fp (omega (arith, eqb-false (length s) 0 e))) refl)

  pub held_at : (i : ℕ) → probe s fp ≡ Held i → (i < length s) × (get_or s i 0 ≡ fp)
  held_at i e = starts (λ n. no (cc)) (λ m p. held_from (length s) (fp % length s) i m (sym p ∙ e))

  pub free_at : (i : ℕ) → probe s fp ≡ Free i → (i < length s) × (get_or s i 0 ≡ 0)
  free_at i e = starts (λ n. no (cc)) (λ m p. free_from (length s) (fp % length s) i m (sym p ∙ e))

-- by where a probe ended
pub by_probe : {A : Type 0} (p : Probe) → ((i : ℕ) → p ≡ Held i → A) → ((i : ℕ) → p ≡ Free i → A) → (p ≡ Nowhere → A) → A
by_probe (Held i) f g h = f i refl
by_probe (Free i) f g h = g i refl
by_probe Nowhere f g h = h refl

-- ---- a probe ends where there is an empty slot
module _ (s : List ℕ) (x : ℕ) where
  next_on : (j : ℕ) → j + 1 < length s → next (length s) j ≡ suc j
  next_on j h = rw (ne_eqb (j + 1) (length s) (λ q. omega arith)) (omega arith)

  next_round : (j : ℕ) → j + 1 ≡ length s → next (length s) j ≡ 0
  next_round j h = rw (eq-eqb (j + 1) (length s) h)

  nowhere : (f j : ℕ) → probe_from s x (suc f) j ≡ Nowhere
      → (get_or s j 0 ≡ 0 → ⊥) × (probe_from s x f (next (length s) j) ≡ Nowhere)
  nowhere f j e = ways s x f j (λ h w. no (cc)) (λ n z w. no (cc)) (λ n m w. (m, sym w ∙ e))

  -- one that ends nowhere has passed each slot up to the end,
  straight : (t f j : ℕ) → t < f → j + t < length s → probe_from s x f j ≡ Nowhere → get_or s (j + t) 0 ≡ 0 → ⊥
  straight t zero j l h e z = omega arith
  straight zero (suc f) j l h e z = (nowhere f j e).0 (rw add-zero at z)
  straight (suc t) (suc f) j l h e z =
      let k : j + suc t ≡ suc j + t = omega arith in
      let l' : j + 1 < length s = omega arith in
      straight t f (suc j) (omega arith) (omega arith) (rw next_on at (nowhere f j e).1) (rw k at z)

  -- and has gone on at the start
  round : (f j : ℕ) → j < length s → length s - j ≤ f → probe_from s x f j ≡ Nowhere → probe_from s x (f - (length s - j)) 0 ≡ Nowhere
  round zero j h l e = absurd (omega arith)
  round (suc f) j h l e =
      by_test (eqb (j + 1) (length s))
      (λ a.
      let b = eqb-true (j + 1) (length s) a in
      let k : suc f - (length s - j) ≡ f = omega arith in
      rw k (rw next_round at (nowhere f j e).1))
      (λ a.
      let b = eqb-false (j + 1) (length s) a in
      let l' : j + 1 < length s = omega (arith, b) in
      let k : suc f - (length s - j) ≡ f - (length s - suc j) = omega arith in
      rw k (round f (suc j) (omega arith) (omega arith) (rw next_on at (nowhere f j e).1)))

  ends : (i : ℕ) → i < length s → get_or s i 0 ≡ 0 → probe_from s x (length s) (x % length s) ≡ Nowhere → ⊥
  ends i h z e =
      let m = mod-lt x {m = length s} (omega arith) in
      by_test (leb (x % length s) i)
      (λ a.
      let b = leb-true (x % length s) i a in
      let k : i ≡ x % length s + (i - x % length s) = omega arith in
      straight (i - x % length s) (length s) (x % length s) (omega arith) (omega arith) e (rw k at z))
      (λ a.
      let b = leb-false (x % length s) i a in
      let k : i ≡ 0 + i = omega arith in
      straight i (length s - (length s - x % length s)) 0 (omega arith) (omega arith)
      (round (length s) (x % length s) m (omega arith) e) (rw k at z))

-- slots that are not all held have an empty one
free_slot : (s : List ℕ) → count s < length s → (i : ℕ) × (i < length s) × (get_or s i 0 ≡ 0)
unfolding count
free_slot [] h = absurd (omega arith)
free_slot (x ∷ s) h =
    by_test (eqb x 0) (λ a. (0, omega arith, eqb-true x 0 a))
    (λ a. let r = free_slot s (let g = rw a at h in omega arith) in (suc r.0, omega arith, r.2))

pub never_full : (s : List ℕ) (x : ℕ) → count s < length s → probe s x ≡ Nowhere → ⊥
unfolding probe
never_full s x h e = let r = free_slot s h in ends s x r.0 r.1 r.2 e

-- ---- slots that are sound: each fingerprint is found where it lies. So none lies at two places
pub record Found (s : List ℕ) : Type 0 where
  pub lies : (j : ℕ) → 0 < get_or s j 0 → probe s (get_or s j 0) ≡ Held j

module _ (s : List ℕ) where
  ends_held : (i : ℕ) (p : Probe) → ends_at i p ≡ true → p ≡ Held i
  ends_held i (Held j) t = ap Held (eqb-true j i t)
  ends_held i (Free j) t = no (cc)
  ends_held i Nowhere t = no (cc)

  reached_held : (i x : ℕ) → reached s i x ≡ true → 0 < x → probe s x ≡ Held i
  reached_held i x t h = ends_held i (probe s x) (rw (ne_eqb x 0 (λ z. omega arith)) at t)

  lies_from : (xs : List ℕ) (i j : ℕ) → reached_from s i xs ≡ true → 0 < get_or xs j 0 → probe s (get_or xs j 0) ≡ Held (i + j)
  unfolding reached_from
  lies_from [] i j t h = absurd (omega arith)
  lies_from (x ∷ xs) i zero t h =
      let p = both_true (reached s i x) (reached_from s (suc i) xs) t in
      let e : i + 0 ≡ i = omega arith in
      rw e (reached_held i x p.0 h)
  lies_from (x ∷ xs) i (suc j) t h =
      let p = both_true (reached s i x) (reached_from s (suc i) xs) t in
      let e : i + suc j ≡ suc i + j = omega arith in
      rw e (lies_from xs (suc i) j p.1 h)

  from_lies : (xs : List ℕ) (i : ℕ) → ((j : ℕ) → 0 < get_or xs j 0 → probe s (get_or xs j 0) ≡ Held (i + j)) → reached_from s i xs ≡ true
  unfolding reached_from
  from_lies [] i f = refl
  from_lies (x ∷ xs) i f =
      let e : i + 0 ≡ i = omega arith in
      let r = from_lies xs (suc i) (λ j h. let k : suc i + j ≡ i + suc j = omega arith in rw k (f (suc j) h)) in
      by_test (eqb x 0) (λ z. rw z r)
      (λ z.
      let h : 0 < x = omega (arith, eqb-false x 0 z) in
      let p : probe s x ≡ Held i = rw e at (f 0 h) in
      rw (z, p, eq-eqb i i refl) r)

  pub found_all : reached_from s 0 s ≡ true → Found s
  found_all t = record { lies = λ j h. let e : 0 + j ≡ j = omega arith in rw e at (lies_from s 0 j t h) }

  pub all_found : Found s → reached_from s 0 s ≡ true
  all_found f = from_lies s 0 (λ j h. let e : 0 + j ≡ j = omega arith in rw e (f.lies j h))

-- ---- what slots hold
pub index : (x : ℕ) (s : List ℕ) → among x s ≡ true → (k : ℕ) × (k < length s) × (get_or s k 0 ≡ x)
unfolding among
index x [] t = no (cc)
index x (y ∷ s) t =
    by_test (eqb x y) (λ e. (0, omega arith, sym (eqb-true x y e)))
    (λ e. let r = index x s (rw e at t) in let h = r.1 in (suc r.0, omega arith, r.2))

pub has : (x : ℕ) (s : List ℕ) (k : ℕ) → k < length s → get_or s k 0 ≡ x → among x s ≡ true
unfolding among
has x [] k h e = absurd (omega arith)
has x (y ∷ s) zero h e = rw (eq-eqb x y (sym e))
has x (y ∷ s) (suc k) h e = let r = has x s k (omega arith) e in by_test (eqb x y) (λ t. rw t) (λ t. rw (t, r))

abbrev pub found : Probe → Bool
found (Held i) = true
found (Free i) = false
found Nowhere = false

-- a probe finds exactly what is held
pub probe_holds : (s : List ℕ) (x i : ℕ) → probe s x ≡ Held i → among x s ≡ true
probe_holds s x i e = let h = held_at s x i e in has x s i h.0 h.1

pub probe_finds : (s : List ℕ) (x : ℕ) → Found s → 0 < x → found (probe s x) ≡ among x s
probe_finds s x f h =
    by_test (among x s)
    (λ t.
    let r = index x s t in
    let e : probe s x ≡ Held r.0 = rw r.2 at (f.lies r.0 (rw r.2 h)) in
    rw (t, e))
    (λ t. by_probe (probe s x) (λ i e. no (let a = probe_holds s x i e in cc)) (λ i e. rw (t, e)) (λ e. rw (t, e)))

-- ---- a fingerprint is put where a probe found an empty slot
module _ (s : List ℕ) (i v : ℕ) (within : i < length s) (free : get_or s i 0 ≡ 0) (pos : 0 < v) where
  -- what is not empty is not i, and stays
  other : (j : ℕ) → (get_or s j 0 ≡ 0 → ⊥) → get_or (set s i v) j 0 ≡ get_or s j 0
  other j h = get_or-set_other s i j v 0 (λ (e : j ≡ i). h (rw e free))

  -- a step over a slot that stays
  over : (x f j : ℕ) → (get_or s j 0 ≡ x → ⊥) → (get_or s j 0 ≡ 0 → ⊥)
      → probe_from (set s i v) x (suc f) j ≡ probe_from (set s i v) x f (next (length s) j)
  over x f j n m =
      let o = other j m in
      let l : suc f - 1 ≡ f = omega arith in
      rw (l, length-set) at (probe_on (set s i v) x (suc f) j (omega arith) (λ e. n (sym o ∙ e)) (λ e. m (sym o ∙ e)))

  -- another fingerprint is found where it was
  keeps : (x : ℕ) → 0 < x → (f j m : ℕ) → probe_from s x f j ≡ Held m → probe_from (set s i v) x f j ≡ Held m
  unfolding probe_from
  keeps x p zero j m e = no (cc)
  keeps x p (suc f) j m e =
      ways s x f j
      (λ h w. let o = other j (λ z. omega arith) in probe_held (set s i v) x (suc f) j (omega arith) (o ∙ h) ∙ sym w ∙ e)
      (λ n z w. no (cc))
      (λ n m' w. over x f j n m' ∙ keeps x p f (next (length s) j) m (sym w ∙ e))

  -- the new one is found at i
  finds : (f j : ℕ) → probe_from s v f j ≡ Free i → probe_from (set s i v) v f j ≡ Held i
  unfolding probe_from
  finds zero j e = no (cc)
  finds (suc f) j e =
      ways s v f j
      (λ h w. no (cc))
      (λ n z w.
      let q : j ≡ i = cc in
      rw q (probe_held (set s i v) v (suc f) i (omega arith) (get_or-set_same s i v 0 within)))
      (λ n m w. over v f j n m ∙ finds f (next (length s) j) (sym w ∙ e))

module _ (s : List ℕ) (i v : ℕ) (pos : 0 < v) (e : probe s v ≡ Free i) where
  set_finds : probe (set s i v) v ≡ Held i
  unfolding probe
  set_finds =
      let at = free_at s v i e in
      rw length-set (finds s i v at.0 at.1 pos (length s) (v % length s) e)

  set_keeps : (x m : ℕ) → 0 < x → probe s x ≡ Held m → probe (set s i v) x ≡ Held m
  unfolding probe
  set_keeps x m p q =
      let at = free_at s v i e in
      rw length-set (keeps s i v at.0 at.1 pos x p (length s) (x % length s) m q)

  set_found : Found s → Found (set s i v)
  set_found f = record {
    lies = λ j p.
        by_test (eqb j i)
        (λ a. let b = eqb-true j i a in rw (b, get_or-set_same s i v 0 (free_at s v i e).0) set_finds)
        (λ a.
        let o = get_or-set_other s i j v 0 (eqb-false j i a) in
        rw o (set_keeps (get_or s j 0) j (rw o at p) (f.lies j (rw o at p))));
  }

-- counting and membership after a store to an empty slot
pub count_held : (x : ℕ) (s : List ℕ) → eqb x 0 ≡ false → count (x ∷ s) ≡ suc (count s)
unfolding count
count_held x s e = rw e (omega arith)

pub count_set : (s : List ℕ) (i v : ℕ) → i < length s → get_or s i 0 ≡ 0 → 0 < v → count (set s i v) ≡ suc (count s)
unfolding count
count_set [] i v h z p = absurd (omega arith)
count_set (x ∷ s) zero v h z p = count_held v s (ne_eqb v 0 (λ e. omega arith)) ∙ rw (eq-eqb x 0 z) (omega arith)
count_set (x ∷ s) (suc i) v h z p = let e = count_set s i v (omega arith) z p in rw e (omega arith)

pub count≤ : (s : List ℕ) → count s ≤ length s
unfolding count
count≤ [] = omega arith
count≤ (x ∷ s) = let k = count≤ s in by_test (eqb x 0) (λ e. rw e (omega arith)) (λ e. rw e (omega arith))

among_set : (y : ℕ) (s : List ℕ) (i v : ℕ) → 0 < y → i < length s → get_or s i 0 ≡ 0 → among y (set s i v) ≡ (eqb y v || among y s)
unfolding among
among_set y [] i v p h z = absurd (omega arith)
among_set y (x ∷ s) zero v p h z = rw (z, ne_eqb y 0 (λ e. omega arith))
among_set y (x ∷ s) (suc i) v p h z =
    let r = among_set y s i v p (omega arith) z in
    by_test (eqb y x) (λ e. rw e (by_test (eqb y v) (λ d. rw d) (λ d. rw d))) (λ e. rw (e, r))

-- ---- so of `put`: the slots stay as many, all that was found is found where it was, and slots that are not full then hold
-- the fingerprint too
module _ (s : List ℕ) (v : ℕ) where
  pub put_length : length (put s v) ≡ length s
  unfolding put
  put_length = by_probe (probe s v) (λ i e. rw e) (λ i e. rw (e, length-set)) (λ e. rw e)

  module _ (pos : 0 < v) where
    pub put_found : Found s → Found (put s v)
    unfolding put
    put_found f = by_probe (probe s v) (λ i e. rw e f) (λ i e. rw e (set_found s i v pos e f)) (λ e. rw e f)

    pub put_among : (y : ℕ) → 0 < y → count s < length s → among y (put s v) ≡ (eqb y v || among y s)
    unfolding put
    put_among y p room =
        by_probe (probe s v)
        (λ i e.
        let a = probe_holds s v i e in
        rw e (by_test (eqb y v) (λ d. let q = eqb-true y v d in rw (d, q, a)) (λ d. rw d)))
        (λ i e. let at = free_at s v i e in rw e (among_set y s i v p at.0 at.1))
        (λ e. absurd (never_full s v room e))

    pub put_count : count s < length s → Found s → count (put s v) ≡ cond (among v s) (count s) (suc (count s))
    unfolding put
    put_count room f =
        let a = probe_finds s v f pos in
        by_probe (probe s v)
        (λ i e. let t = rw e at a in rw (e, ← t))
        (λ i e. let t = rw e at a in let at = free_at s v i e in rw (e, ← t) (count_set s i v at.0 at.1 pos))
        (λ e. absurd (never_full s v room e))
