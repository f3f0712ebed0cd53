-- That probing for what the slots hold passes no empty slot, seen in one walk: for each slot the run of held slots before it is
-- as long as the slots that are passed.
use Prim.Native.Nat.{ℕ, zero, suc, ◌+◌, ◌-◌, ◌%◌, ◌<◌, ◌≤◌}
use native.Mathlib.Omega.{arith}
use native.Mathlib.Nat.{mod-lt}
use native.Mathlib.Numerals.{add-one}
use mathlib.Core.Path.{◌≡◌, refl, sym, ◌∙◌}
use mathlib.Core.Bool.{Bool, true, cond, ◌&&◌, and_assoc, and-true, and-false}
use mathlib.Core.List.{List}
use lib.ListN.{length, get_or, drop, drop_of_length-le}
use lib.Seq.{drop-cons}
use lib.Dec.{eqb, leb}
use borrow.Author.Tests.{eq-eqb, ne_eqb, eqb-true, eqb-false, le-leb, lt-leb, leb-true, leb-false}
use Rattle.runs.proofs.Cases.{by_test}
use Rattle.model.specs.Generation.{next}
use Rattle.model.proofs.Probing.{next<}
use Rattle.generation.specs.Reach.{steps, passed_to, held_on, unbroken_to, unbroken_from, unbroken, back, Run}

-- ---- steps round the end of n slots
-- the slots before slot i + 1 are slot i and those before it
back_on : (n i t : ℕ) → back n (i + 1) (suc t) ≡ back n i t
back_on n i t =
    by_test (leb t i)
    (λ a. let h = leb-true t i a in rw (a, le-leb (suc t) (i + 1) (omega arith)) (omega arith))
    (λ a. let h = leb-false t i a in rw (a, lt-leb (suc t) (i + 1) (omega arith)) (omega arith))

back_one : (n i : ℕ) → back n (i + 1) 1 ≡ i
back_one n i = rw (le-leb 1 (i + 1) (omega arith)) (omega arith)

-- slot 0 comes after the last
back_end : (n t : ℕ) → 0 < t → t ≤ n → back n 0 t ≡ back n n t
back_end n t h l = rw (lt-leb t 0 h, le-leb t n l) (omega arith)

module _ (n i j : ℕ) (hi : i < n) (hj : j < n) where
  pub steps< : steps n j i < n
  steps< =
      by_test (leb j i) (λ a. let h = leb-true j i a in rw a (omega arith)) (λ a. let h = leb-false j i a in rw a (omega arith))

  -- as many slots before slot i is where they were counted from
  back_steps : back n i (steps n j i) ≡ j
  back_steps =
      by_test (leb j i)
      (λ a. let h = leb-true j i a in rw (a, le-leb (i - j) i (omega arith)) (omega arith))
      (λ a. let h = leb-false j i a in rw (a, lt-leb (i + n - j) i (omega arith)) (omega arith))

  -- none is left: it is slot i
  pub there : steps n j i ≡ 0 → i ≡ j
  there e = let q = rw (e, le-leb 0 i (omega arith)) at back_steps in omega arith

  -- the slot after one that is not slot i is one nearer
  pub nearer : (d : ℕ) → steps n j i ≡ suc d → (j ≡ i → ⊥) × (steps n (next n j) i ≡ d)
  nearer d e =
      by_test (leb j i)
      (λ a.
      let h = leb-true j i a in
      let k = rw a at e in
      let m : j + 1 ≤ i = omega arith in
      (λ q. omega arith, rw (ne_eqb (j + 1) n (λ q. omega arith), le-leb (j + 1) i m) (omega arith)))
      (λ a.
      let h = leb-false j i a in
      let k = rw a at e in (
        λ q. omega arith,
        by_test (eqb (j + 1) n)
            (λ b. let q = eqb-true (j + 1) n b in rw (b, le-leb 0 i (omega arith)) (omega arith))
            (λ b. rw (b, lt-leb (j + 1) i (omega arith)) (omega arith)),
      ))

-- ---- the run of held slots before a slot
module _ (s : List ℕ) where
  -- the first slot was the first to be looked at; now it comes after the last
  pub run_round : (r : ℕ) → Run s 0 r (length s) → Run s (length s) r 0
  run_round r w =
      let f = w.few in record {
        few = omega arith;
        held = λ t p q l z. w.held t p q l (rw (← back_end (length s) t p l) z);
        gap = λ p l. rw (back_end (length s) (suc r) (omega arith) (omega arith)) (w.gap (omega arith) l);
      }

  module _ (b r i : ℕ) (w : Run s b r i) where
    -- an empty slot ends it
    run_none : get_or s i 0 ≡ 0 → Run s b 0 (i + 1)
    run_none e = record {
      few = omega arith;
      held = λ t p q l z. omega arith;
      gap = λ p l. rw (back_one (length s) i) e;
    }

    -- a slot that is held makes the run one longer
    held_more : (get_or s i 0 ≡ 0 → ⊥) → (t : ℕ) → 0 < t → t ≤ r + 1 → t ≤ length s → get_or s (back (length s) (i + 1) t) 0 ≡ 0 → ⊥
    held_more n zero p q l z = omega arith
    held_more n (suc zero) p q l z = n (rw (back_one (length s) i) at z)
    held_more n (suc (suc t)) p q l z =
        w.held (suc t) (omega arith) (omega arith) (omega arith) (rw (back_on (length s) i (suc t)) at z)

    run_more : (get_or s i 0 ≡ 0 → ⊥) → Run s b (r + 1) (i + 1)
    run_more n =
        let f = w.few in record {
          few = omega arith;
          held = held_more n;
          gap = λ p l. rw (add-one r, back_on (length s) i (suc r)) (w.gap (omega arith) (omega arith));
        }

    pub run_on : Run s b (cond (eqb (get_or s i 0) 0) 0 (r + 1)) (i + 1)
    run_on = by_test (eqb (get_or s i 0) 0) (λ e. rw e (run_none (eqb-true _ _ e))) (λ e. rw e (run_more (eqb-false _ _ e)))

  -- the slots from slot j on up to slot i are held as the run before slot i is as long
  module _ (r i : ℕ) (hi : i < length s) (w : Run s (length s) r i) where
    held_run : (d j : ℕ) → j < length s → steps (length s) j i ≡ d → held_on s d j ≡ leb d r
    unfolding held_on
    held_run zero j hj e = sym (le-leb 0 r (omega arith))
    held_run (suc d) j hj e =
        let m = nearer (length s) i j hi hj d e in
        let g = held_run d (next (length s) j) (next< (length s) j hj) m.1 in
        let q : back (length s) i (suc d) ≡ j = rw e at (back_steps (length s) i j hi hj) in
        let l : suc d < length s = rw e at (steps< (length s) i j hi hj) in
        by_test (leb (suc d) r)
        (λ a.
        let h = leb-true (suc d) r a in
        let n = ne_eqb (get_or s j 0) 0 (λ z. w.held (suc d) (omega arith) h (omega arith) (rw q z)) in
        rw (a, n, g) (le-leb d r (omega arith)))
        (λ a.
        let h = leb-false (suc d) r a in
        by_test (eqb d r)
        (λ b.
        let k = eqb-true d r b in
        let z : get_or s j 0 ≡ 0 = rw (← q, k) (w.gap (omega arith) (omega arith)) in
        rw (a, eq-eqb _ _ z))
        (λ b. let k = eqb-false d r b in rw (a, g, lt-leb d r (omega (arith, k)), and-false)))

    pub unbroken_run : (x : ℕ) → unbroken_to s i x ≡ leb (passed_to (length s) i x) r
    unfolding held_on
    unbroken_run x =
        by_test (eqb x 0) (λ e. rw e (sym (le-leb 0 r (omega arith))))
        (λ e. rw e (held_run (steps (length s) (x % length s) i) (x % length s) (mod-lt x (omega arith)) refl))

-- the walk of `no_gaps` is at slot i, and `all` says of those before it that no gap is passed
pub record Gapless (s : List ℕ) (all : Bool) (r i : ℕ) : Type 0 where
  pub within : i ≤ length s
  pub run : Run s (length s) r i
  pub left : (all && unbroken_from s i (drop i s)) ≡ unbroken s

module _ (s : List ℕ) where
  pub gapless_start : (r : ℕ) → Run s 0 r (length s) → Gapless s true r 0
  gapless_start r w = record { within = omega arith; run = run_round s r w; left = refl }

  module _ (all : Bool) (r i : ℕ) (w : Gapless s all r i) where
    pub gapless_on : i < length s → (passed new : ℕ) → passed ≡ passed_to (length s) i (get_or s i 0)
        → new ≡ cond (eqb (get_or s i 0) 0) 0 (r + 1) → Gapless s (all && leb passed r) new (i + 1)
    unfolding unbroken_from
    gapless_on h passed new p e =
        let u = unbroken_run s r i h w.run (get_or s i 0) in
        let l = rw (drop-cons s i 0 h, u) at w.left in record {
          within = omega arith;
          run = rw e (run_on s (length s) r i w.run);
          left = rw (p, add-one, and_assoc) l;
        }

    pub gapless_end : length s ≤ i → all ≡ unbroken s
    unfolding unbroken_from
    gapless_end h = sym (and-true all) ∙ (rw drop_of_length-le at w.left)
