-- A generation that is filled from a dump never needs more slots than the dumped one had, and in the end holds the same fingerprints.
use mathlib.Core.Path.{◌≡◌, refl, sym, ◌∙◌, subst}
use mathlib.Core.Bool.{Bool, true, false, ◌||◌}
use mathlib.Core.List.{List, [], ◌∷◌}
use Prim.Native.Nat.{ℕ, zero, suc, ◌+◌, ◌*◌, ◌^◌, ◌≤◌, ◌<◌, max}
use native.Mathlib.Omega.{arith}
use lib.Dec.{leb, eqb}
use lib.ListN.{length}
use lib.Pow.{pow-add, pow_mono}
use borrow.Author.Tests.{eqb-true, eqb-false, leb-true, leb-false, ne_eqb}
use Rattle.runs.proofs.Cases.{by_test, split_if}
use Rattle.model.specs.Generation.{Generation, empty, count, among, as_read, slots_for, insert}
use Rattle.model.specs.Dump.{Dumped, fingerprints}
use Rattle.model.proofs.Probing.{Found, count≤}
use Rattle.model.proofs.Growth.{Doubled, slots_law, held_stays, inserted, among_count}
use Rattle.model.proofs.Holding.{inserted_one}

-- ---- fingerprints by slot: none is 0, and they are those that the slots hold
pub data Positive : List ℕ → Type 0 where
  none_left : Positive []
  one_more : {x : ℕ} {xs : List ℕ} → 0 < x → Positive xs → Positive (x ∷ xs)

pub prints_positive : (s : List ℕ) → Positive (fingerprints s)
unfolding fingerprints
prints_positive [] = none_left
prints_positive (x ∷ xs) =
    by_test (eqb x 0) (λ e. simp e (prints_positive xs)) (λ e. simp e (one_more {x = x} (let n = eqb-false x 0 e in omega (arith, n)) (prints_positive xs)))

pub prints_among : (y : ℕ) (s : List ℕ) → 0 < y → among y (fingerprints s) ≡ among y s
unfolding fingerprints among
prints_among y [] h = refl
prints_among y (x ∷ xs) h =
    by_test (eqb x 0)
    (λ e. let z : eqb y x ≡ false = ne_eqb y x (λ q. omega (arith, eqb-true x 0 e)) in simp (e, z) (prints_among y xs h))
    (λ e. simp e (rw (prints_among y xs h)))

-- ---- a power of two that is doubled while it is too small stays within any power of two that is large enough
pow_below : (i j : ℕ) → 2 ^ i < 2 ^ j → i < j
pow_below i j h =
    by_test (leb j i) (λ e. absurd (let k = pow_mono {i = j} {j = i} (leb-true j i e) in omega arith)) (λ e. leb-false j i e)

doubled_within : (n k K wanted : ℕ) → Doubled n (2 ^ k) wanted → 2 ^ k ≤ 2 ^ K → 4 * n ≤ 3 * 2 ^ K → wanted ≤ 2 ^ K
doubled_within n k K wanted d low enough = within d.times d.is d.least
  where
    within : (t : ℕ) → wanted ≡ 2 ^ t * 2 ^ k → ((i : ℕ) → i < t → 3 * (2 ^ i * 2 ^ k) < 4 * n) → wanted ≤ 2 ^ K
    within zero is least = omega arith
    within (suc t) is least =
        let m = least t (omega arith) in
        let e = pow-add 2 t k in
        let below : t + k < K = pow_below (t + k) K (omega arith) in
        let up = pow_mono {i = suc t + k} {j = K} (omega arith) in
        let f = pow-add 2 (suc t) k in
        omega arith

pub record Power (n : ℕ) : Type 0 where
  pub exponent : ℕ
  pub is : n ≡ 2 ^ exponent

-- a fingerprint that is held leaves as many slots as there are, and there are some
pub slots_within : (known : Bool) (s : List ℕ) (most : ℕ) → (known ≡ true → 1 ≤ length s) → Power (max (length s) 1) → Power most → max (length s) 1 ≤ most
    → 4 * suc (count s) ≤ 3 * most → (slots_for known s ≤ most) × Power (slots_for known s)
slots_within true s most some p q low enough =
    let l = some refl in
    let e : max (length s) 1 ≡ length s = omega (arith, l) in
    rw (held_stays s) (omega (arith, low), subst Power e p)
slots_within false s most some p q low enough =
    let d = slots_law s in
    let e : Doubled (suc (count s)) (2 ^ p.exponent) (slots_for false s) = subst (λ (n : ℕ). Doubled (suc (count s)) n (slots_for false s)) p.is d in
    let x = q.is in
    let y = p.is in
    let w = doubled_within (suc (count s)) p.exponent q.exponent (slots_for false s) e (omega arith) (omega arith) in
    ((omega arith), record { exponent = e.times + p.exponent; is = e.is ∙ sym (pow-add 2 e.times p.exponent) })

slots_some : (known : Bool) (s : List ℕ) → (known ≡ true → 1 ≤ length s) → 1 ≤ slots_for known s
slots_some true s some = let l = some refl in rw (held_stays s) l
slots_some false s some = let d = (slots_law s).enough in omega arith

-- ---- filling: what is in the generation with what is still to come makes all
pub record Filling (most : ℕ) (d : Dumped) (all rest : List ℕ) (g : Generation) : Type 0 where
  pub bucket : 0 < count g.slots → g.bucket ≡ d.bucket
  pub found : Found g.slots
  pub power : Power (max (length g.slots) 1)
  pub short : max (length g.slots) 1 ≤ most
  pub few : 4 * (count g.slots + length rest) ≤ 3 * most
  pub prints : (y : ℕ) → 0 < y → (among y g.slots || among y rest) ≡ among y all
  pub newest : g.newest ≤ d.newest

pub empty_filling : (most : ℕ) (d : Dumped) (all : List ℕ) → Power most → 4 * length all ≤ 3 * most → 1 ≤ most
    → Filling most d all all empty
unfolding count among
empty_filling most d all p h l = record {
  bucket = λ z. absurd (omega arith);
  found = record { lies = λ j z. absurd (omega arith) };
  power = record { exponent = 0; is = refl };
  short = omega arith;
  few = omega arith;
  prints = λ y z. refl;
  newest = omega arith;
}

or_moved : (a b c : Bool) → ((a || b) || c) ≡ (b || (a || c))
or_moved true true c = refl
or_moved true false c = refl
or_moved false b c = refl

pub read_as : (fp : ℕ) → 0 < fp → as_read fp ≡ fp
unfolding as_read
read_as fp h = omega arith

pub one_bucket : (d : Dumped) (fp : ℕ) (g : Generation) → (inserted_one d fp g).bucket ≡ d.bucket
unfolding insert
one_bucket d fp g = refl

pub one_newest : (d : Dumped) (fp : ℕ) (g : Generation) → (inserted_one d fp g).newest ≡ max g.newest d.newest
unfolding insert
one_newest d fp g = refl

module _ (most : ℕ) (d : Dumped) (all rest : List ℕ) (fp : ℕ) (g : Generation) (p : Power most) (h : 0 < fp) (f : Filling most d all (fp ∷ rest) g) where
  some_slots : among (as_read fp) g.slots ≡ true → 1 ≤ length g.slots
  some_slots t = let e = read_as fp h in let c = among_count (as_read fp) g.slots (omega (arith, e, h)) t in let m = count≤ g.slots in omega (arith, c, m)

  fit : (slots_for (among (as_read fp) g.slots) g.slots ≤ most) × Power (slots_for (among (as_read fp) g.slots) g.slots)
  fit = slots_within (among (as_read fp) g.slots) g.slots most some_slots f.power p f.short (let k = f.few in omega arith)

  -- there are slots for the next
  pub slots_fit : slots_for (among (as_read fp) g.slots) g.slots ≤ most
  slots_fit = fit.0

  -- and then it is in
  pub filled_one : Filling most d all rest (inserted_one d fp g)
  unfolding among
  filled_one =
      let s = g.slots in
      let e = read_as fp h in
      let i = inserted d.bucket (as_read fp) d.newest g (omega arith) f.found in
      let more : count (inserted_one d fp g).slots ≤ suc (count s) =
      rw i.counted (split_if (λ (n : ℕ). n ≤ suc (count s)) (among (as_read fp) s) (λ q. omega arith) (λ q. omega arith)) in
      let long : max (length (inserted_one d fp g).slots) 1 ≡ slots_for (among (as_read fp) s) s =
      (let l = i.slots in let q = slots_some (among (as_read fp) s) s some_slots in omega (arith, l, q)) in
      record {
        bucket = λ q. one_bucket d fp g;
        found = i.found;
        power = subst Power (sym long) fit.1;
        short = rw long slots_fit;
        few = (let k = f.few in omega arith);
        prints = λ y q. rw (i.holds y q, e) (or_moved (eqb y fp) (among y s) (among y rest) ∙ f.prints y q);
        newest = (let k = one_newest d fp g in let m = f.newest in omega arith);
      }
