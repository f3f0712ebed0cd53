-- Every slot is reached exactly when probing passes no empty slot and no fingerprint lies twice.
use Prim.Native.Nat.{ℕ, zero, suc, ◌-◌, ◌%◌, ◌<◌}
use native.Mathlib.Omega.{arith}
use native.Mathlib.Nat.{mod-lt}
use mathlib.Core.Path.{◌≡◌, refl, sym, ◌∙◌, ap}
use mathlib.Core.Bool.{Bool, true, not, ◌&&◌, ◌||◌, and-true, and-false}
use mathlib.Core.List.{List, [], ◌∷◌}
use lib.ListN.{length, get_or, drop, length-drop, get_or-eq_default}
use lib.Seq.{drop-cons}
use lib.Dec.{eqb, leb}
use borrow.Author.Tests.{eq-eqb, ne_eqb, eqb-true, eqb-false, leb-true, leb-false}
use Rattle.runs.proofs.Cases.{by_test, both_true, no}
use Rattle.model.specs.declared.Probe.TheVariants.{Held}
use Rattle.model.specs.Generation.{count, among, next, probe, probe_from}
use Rattle.model.specs.GenerationWords.{ends_at, reached, reached_from, slots_sound}
use Rattle.model.proofs.Probing.{next<, probe_held, probe_free, probe_on, Found, found_all, index, has}
use Rattle.generation.specs.Reach.{steps, held_on, unbroken_to, unbroken_from, unbroken}
use Rattle.generation.proofs.Crowding.{steps<, there, nearer}
use Rattle.distinct.specs.Runs.{distinct}

-- past the last slot nothing is held
held_within : (s : List ℕ) (i : ℕ) → 0 < get_or s i 0 → i < length s
held_within s i h =
    by_test (leb (length s) i)
    (λ a. let z = get_or-eq_default s 0 (leb-true (length s) i a) in absurd (omega arith))
    (λ a. leb-false (length s) i a)

-- ---- no fingerprint lies twice: the test, and what it says of any two slots
abbrev Alone : List ℕ → Type 0
Alone s = (i j : ℕ) → 0 < get_or s i 0 → get_or s i 0 ≡ get_or s j 0 → i ≡ j

-- probing for one fingerprint ends at one slot
found_alone : (s : List ℕ) → Found s → Alone s
found_alone s f i j h e =
    let p = f.lies i h in
    let q : probe s (get_or s i 0) ≡ Held j = rw e (f.lies j (rw (← e) h)) in
    cc

alone_distinct : (s : List ℕ) → Alone s → distinct s ≡ true
unfolding distinct
alone_distinct [] a = refl
alone_distinct (x ∷ s) a =
    let r = alone_distinct s (λ i j h e. let q = a (suc i) (suc j) h e in omega arith) in
    by_test (eqb x 0) (λ z. rw (z, r))
    (λ z.
    let n = eqb-false x 0 z in
    by_test (among x s)
    (λ t. let k = index x s t in absurd (let q = a 0 (suc k.0) (omega (arith, n)) (sym k.2) in omega arith))
    (λ t. rw (z, t, r)))

first_alone : (x : ℕ) (s : List ℕ) (j : ℕ) → (eqb x 0 || not (among x s)) ≡ true → 0 < x → x ≡ get_or s j 0 → ⊥
first_alone x s j t h e =
    let n = ne_eqb x 0 (λ z. omega arith) in
    let m = has x s j (held_within s j (rw (← e) h)) (sym e) in
    no (let k = rw (n, m) at t in cc)

distinct_alone : (s : List ℕ) → distinct s ≡ true → Alone s
unfolding distinct
distinct_alone [] t i j h e = absurd (omega arith)
distinct_alone (x ∷ s) t zero zero h e = refl
distinct_alone (x ∷ s) t zero (suc j) h e =
    absurd (first_alone x s j (both_true (eqb x 0 || not (among x s)) (distinct s) t).0 h e)
distinct_alone (x ∷ s) t (suc i) zero h e =
    absurd (first_alone x s i (both_true (eqb x 0 || not (among x s)) (distinct s) t).0 (rw (← e) h) (sym e))
distinct_alone (x ∷ s) t (suc i) (suc j) h e =
    ap suc (distinct_alone s (both_true (eqb x 0 || not (among x s)) (distinct s) t).1 i j h e)

-- ---- probing for what lies at slot i and nowhere else ends there exactly when what it passes is held
module _ (s : List ℕ) (i x : ℕ) (within : i < length s) (is : get_or s i 0 ≡ x) (alone : (j : ℕ) → x ≡ get_or s j 0 → i ≡ j) where
  ends_on : (d f j : ℕ) → j < length s → steps (length s) j i ≡ d → d < f → ends_at i (probe_from s x f j) ≡ held_on s d j
  unfolding held_on
  ends_on zero f j h e l =
      rw (← there (length s) i j within h e, probe_held s x f i (omega arith) is, eq-eqb i i refl)
  ends_on (suc d) f j h e l =
      let w = nearer (length s) i j within h d e in
      let p : 0 < f = omega arith in
      by_test (eqb (get_or s j 0) 0)
      (λ a. rw (probe_free s x f j p (λ q. w.0 (sym (alone j (sym q)))) (eqb-true _ _ a), a))
      (λ a.
      rw (probe_on s x f j p (λ q. w.0 (sym (alone j (sym q)))) (eqb-false _ _ a), a)
      (ends_on d (f - 1) (next (length s) j) (next< (length s) j h) w.1 (omega arith)))

-- so where no fingerprint lies twice a slot is reached exactly when probing for what it holds passes no empty slot
module _ (s : List ℕ) (apart : distinct s ≡ true) where
  reached_unbroken : (i : ℕ) → reached s i (get_or s i 0) ≡ unbroken_to s i (get_or s i 0)
  unfolding probe held_on
  reached_unbroken i =
      by_test (eqb (get_or s i 0) 0) (λ e. rw e)
      (λ e.
      let n = eqb-false (get_or s i 0) 0 e in
      let h : 0 < get_or s i 0 = omega (arith, n) in
      let w = held_within s i h in
      let m = mod-lt (get_or s i 0) {m = length s} (omega arith) in
      rw e
      (ends_on s i (get_or s i 0) w refl (λ j. distinct_alone s apart i j h) _ (length s) (get_or s i 0 % length s) m refl
      (steps< (length s) i (get_or s i 0 % length s) w m)))

  all_unbroken : (xs : List ℕ) (i : ℕ) → drop i s ≡ xs → reached_from s i xs ≡ unbroken_from s i xs
  unfolding reached_from unbroken_from
  all_unbroken [] i e = refl
  all_unbroken (x ∷ xs) i e =
      let l : suc (length xs) ≡ length s - i = ap length (sym e) ∙ length-drop i s in
      let c = sym (drop-cons s i 0 (omega arith)) ∙ e in
      let x_is : get_or s i 0 ≡ x = cc in
      let rest : drop (suc i) s ≡ xs = cc in
      rw (← x_is, reached_unbroken i, all_unbroken xs (suc i) rest)

-- where one lies twice, not both of its slots are reached
pub parts : (s : List ℕ) → reached_from s 0 s ≡ (unbroken s && distinct s)
parts s =
    by_test (distinct s) (λ t. rw (t, and-true) (all_unbroken s t s 0 refl))
    (λ t.
    by_test (reached_from s 0 s) (λ r. no (let d = alone_distinct s (found_alone s (found_all s r)) in cc))
    (λ r. rw (t, r, and-false)))

-- what the test of crowded slots says, from what its parts say
pub parts_sound : (s : List ℕ) (gapless apart : Bool) (n held : ℕ) → gapless ≡ unbroken s → apart ≡ distinct s → n ≡ count s
    → ((gapless && apart) && eqb n held) ≡ slots_sound s held
parts_sound s gapless apart n held g a c = rw (g, a, c, parts s)
