-- The walk over a generation's slots: each is reached, and those held are counted.
use Prim.Native.Nat.{ℕ, zero, suc, ◌+◌, ◌-◌, ◌%◌, ◌<◌, ◌≤◌}
use native.Mathlib.Omega.{arith}
use native.Mathlib.Numerals.{add-one}
use mathlib.Core.Path.{◌≡◌, refl, sym, ◌∙◌}
use mathlib.Core.Bool.{Bool, true, false, cond, not, ◌||◌}
use mathlib.Core.List.{List}
use lib.ListN.{length, get_or, drop, drop_of_length-le}
use lib.Seq.{drop-cons}
use lib.Dec.{eqb}
use borrow.Author.Tests.{eq-eqb, ne_eqb, eqb-true, eqb-false}
use Rattle.std.specs.List.{count_by}
use Rattle.std.proofs.lemmas.List.Recursion.{is_count_by}
use Rattle.runs.proofs.Cases.{by_test, no}
use Rattle.model.specs.declared.Probe.{Probe}
use Rattle.model.specs.Generation.{count, next, probe, probe_from}
use Rattle.model.proofs.Probing.{probe_held, probe_free, probe_on, probe_out}
use Rattle.model.specs.GenerationWords.{ends_at, reached, reached_from, slots_sound}
use Rattle.generation.specs.Reach.{near}

neither : (a b : Bool) → (a || b) ≡ false → (a ≡ false) × (b ≡ false)
neither true b p = no (cc)
neither false b p = (refl, p)

-- a slot's own fingerprint is near as probing for it ends there within so many steps, and not otherwise
module _ (s : List ℕ) (i x steps : ℕ) (some : x ≡ 0 → ⊥) where
  ends : {p : Probe} → probe_from s x steps (x % length s) ≡ p → ends_at i p ≡ near s i x steps
  ends e = rw (ne_eqb x 0 some, e)

  -- probing has come to slot j, with some steps left, or with none
  module _ (left j : ℕ) (p : probe_from s x steps (x % length s) ≡ probe_from s x left j) where
    pub ends_short : left ≤ 0 → false ≡ near s i x steps
    ends_short z = ends (p ∙ probe_out s x left j z)

    module _ (more : 0 < left) where
      pub ends_here : j ≡ i → x ≡ get_or s i 0 → true ≡ near s i x steps
      ends_here e is = sym (eq-eqb j i e) ∙ ends (p ∙ probe_held s x left j more (rw e (sym is)))

      -- slot j is another, and has the same fingerprint or none
      pub ends_other : (j ≡ i → ⊥) → (eqb (get_or s j 0) x || eqb (get_or s j 0) 0) ≡ true → false ≡ near s i x steps
      ends_other n t =
          by_test (eqb (get_or s j 0) x)
          (λ a. sym (ne_eqb j i n) ∙ ends (p ∙ probe_held s x left j more (eqb-true _ _ a)))
          (λ a. ends (p ∙ probe_free s x left j more (eqb-false _ _ a) (eqb-true _ _ (rw a at t))))

      -- on at the next slot
      pub goes_on : (eqb (get_or s j 0) x || eqb (get_or s j 0) 0) ≡ false
          → probe_from s x steps (x % length s) ≡ probe_from s x (left - 1) (next (length s) j)
      goes_on t =
          let e = neither (eqb (get_or s j 0) x) (eqb (get_or s j 0) 0) t in
          p ∙ probe_on s x left j more (eqb-false _ _ e.0) (eqb-false _ _ e.1)

-- what probing finds within some steps it finds within more: so a slot that is near is reached
module _ (s : List ℕ) (i x : ℕ) where
  further : (f g j : ℕ) → f ≤ g → ends_at i (probe_from s x f j) ≡ true → ends_at i (probe_from s x g j) ≡ true
  unfolding probe_from
  further zero g j h e = no (cc)
  further (suc f) zero j h e = absurd (omega arith)
  further (suc f) (suc g) j h e =
      by_test (eqb (get_or s j 0) x) (λ a. rw a (rw a at e))
      (λ a. by_test (eqb (get_or s j 0) 0) (λ b. no (let n = rw (a, b) at e in cc))
      (λ b. rw (a, b) (further f g (next (length s) j) (omega arith) (rw (a, b) at e))))

  pub near_reached : (f : ℕ) → f ≤ length s → true ≡ near s i x f → true ≡ reached s i x
  unfolding probe
  near_reached f h e =
      by_test (eqb x 0) (λ a. rw a)
      (λ a. let n = rw a at e in rw a (sym (further f (length s) (x % length s) h (sym n))))

pub one≤1 : (x : ℕ) → cond (eqb x 0) 0 1 ≤ 1
one≤1 x = by_test (eqb x 0) (λ e. rw e (omega arith)) (λ e. rw e (omega arith))

-- the library's count of those that are not 0
pub counted : (s : List ℕ) → count_by (λ x. not (eqb x 0)) s ≡ count s
unfolding count
counted s =
    sym (is_count_by count (λ x. not (eqb x 0)) refl
    (λ x xs. by_test (eqb x 0) (λ e. rw e (omega arith)) (λ e. rw e (omega arith))) s)

-- a walk is at slot i, and has counted n that are held
pub record Counted (s : List ℕ) (n i : ℕ) : Type 0 where
  pub within : i ≤ length s
  pub few : n ≤ i
  pub counted : n + count (drop i s) ≡ count s

module _ (s : List ℕ) where
  pub count_start : Counted s 0 0
  count_start = record { within = omega arith; few = omega arith; counted = omega arith }

  module _ (n i : ℕ) (w : Counted s n i) where
    pub count_on : i < length s → (one : ℕ) → one ≡ cond (eqb (get_or s i 0) 0) 0 1 → Counted s (n + one) (i + 1)
    unfolding count
    count_on h one o =
        let b = one≤1 (get_or s i 0) in
        let c = rw (drop-cons s i 0 h) at w.counted in
        record { within = omega arith; few = omega arith; counted = rw add-one (omega arith) }

    pub count_end : length s ≤ i → n ≡ count s
    unfolding count
    count_end h = let k = rw drop_of_length-le at w.counted in omega arith

-- and each slot before is reached
pub record Walked (s : List ℕ) (n i : ℕ) : Type 0 where
  pub count : Counted s n i
  pub left : reached_from s 0 s ≡ reached_from s i (drop i s)

module _ (s : List ℕ) where
  pub walk_start : Walked s 0 0
  walk_start = record { count = count_start s; left = refl }

  module _ (n i : ℕ) (w : Walked s n i) where
    pub walk_on : i < length s → (f : ℕ) → f ≤ length s → true ≡ near s i (get_or s i 0) f
        → (one : ℕ) → one ≡ cond (eqb (get_or s i 0) 0) 0 1 → Walked s (n + one) (i + 1)
    unfolding reached_from
    walk_on h f g e one o = record {
      count = count_on s n i w.count h one o;
      left = w.left ∙ rw (add-one, drop-cons s i 0 h, ← near_reached s i (get_or s i 0) f g e);
    }

    pub walk_end : length s ≤ i → (held : ℕ) → eqb n held ≡ slots_sound s held
    unfolding reached_from
    walk_end h held = let c = count_end s n i w.count h in rw (w.left, drop_of_length-le s h, c)
