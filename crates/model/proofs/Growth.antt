-- Growth, for every number of slots together: how many slots there are after it, and that it keeps exactly what was held. With
-- it the law of an insertion, and that a well-formed generation stays well formed. Assumes nothing.
use Prim.Native.Nat.{ℕ, zero, suc, ◌+◌, ◌*◌, ◌%◌, ◌^◌, ◌<◌, ◌≤◌, max}
use native.Mathlib.Omega.{arith}
use native.Mathlib.Nat.{pow-suc, pow-le-pow_right, mul_assoc}
use mathlib.Core.Path.{◌≡◌, refl, sym, ◌∙◌, subst}
use mathlib.Core.Bool.{Bool, true, false, cond, ◌||◌, or-true}
use mathlib.Core.List.{List, [], ◌∷◌}
use lib.ListN.{length, get_or, replicate, length-replicate}
use lib.Dec.{eqb, leb}
use lib.Pow.{pow-add}
use borrow.Author.Tests.{eq-eqb, ne_eqb, eqb-true, eqb-false, leb-true, leb-false, le-leb}
use Rattle.runs.proofs.Cases.{by_test, no, each_true}
use Rattle.runs.proofs.Words.{all_same}
use Rattle.model.specs.declared.Probe.{Probe}
use Rattle.model.specs.declared.Probe.TheVariants.{Held, Free, Nowhere}
use Rattle.model.specs.Settings.{power_of_two}
use Rattle.model.specs.Generation.{Generation, empty, count, among, probe, put_at, put, doubled, slots_for, refill, grown, insert, oldest_with, dropped}
use Rattle.model.specs.GenerationWords.{reached_from, filled_sound, GenerationOk}
use Rattle.model.proofs.Probing.{Found, found, probe_finds, found_all, all_found, index, put_length, put_found, put_among, put_count, count_held, count≤}

-- ---- how many slots: the present number doubled, often enough that n fingerprints are at most three quarters, and not oftener
pub record Doubled (n present wanted : ℕ) : Type 0 where
  pub times : ℕ
  pub is : wanted ≡ 2 ^ times * present
  pub enough : 4 * n ≤ 3 * wanted
  pub least : (t : ℕ) → t < times → 3 * (2 ^ t * present) < 4 * n

doubled_law : (steps n present : ℕ) → 0 < present → 4 * n ≤ 3 * present + steps → Doubled n present (doubled steps n present)
unfolding doubled
doubled_law zero n present h r =
    record { times = 0; is = omega arith; enough = omega arith; least = λ t l. absurd (omega arith) }
doubled_law (suc steps) n present h r =
    by_test (leb (4 * n) (3 * present))
    (λ e. rw e (record { times = 0; is = omega arith; enough = leb-true (4 * n) (3 * present) e; least = λ t l. absurd (omega arith) }))
    (λ e.
    let k = leb-false (4 * n) (3 * present) e in
    let d = doubled_law steps n (2 * present) (omega arith) (omega arith) in
    let twice : (t : ℕ) → 2 ^ t * (2 * present) ≡ 2 ^ suc t * present = λ t. rw (pow-suc, mul_assoc) in
    rw e (record {
      times = suc d.times;
      is = d.is ∙ twice d.times;
      enough = d.enough;
      least = least_on n present k d.times (λ t l. rw (← twice t) (d.least t l));
    }))
  where
    least_on : (n present : ℕ) → 3 * present < 4 * n → (times : ℕ) → ((t : ℕ) → t < times → 3 * (2 ^ suc t * present) < 4 * n)
        → (t : ℕ) → t < suc times → 3 * (2 ^ t * present) < 4 * n
    least_on n present k times more zero l = omega arith
    least_on n present k times more (suc t) l = more t (omega arith)

-- for a fingerprint that is held there are as many as before, and for a new one they double
pub held_stays : (s : List ℕ) → slots_for true s ≡ length s
unfolding slots_for
held_stays s = refl

pub slots_law : (s : List ℕ) → Doubled (suc (count s)) (max (length s) 1) (slots_for false s)
unfolding slots_for
slots_law s = doubled_law (4 * suc (count s)) (suc (count s)) (max (length s) 1) (omega arith) (omega arith)

-- ---- powers of two: the table of the settings, by its exponents
power_row : ℕ → ℕ → ℕ → Bool
power_row zero i n = eqb n (2 ^ i)
power_row (suc m) i n = eqb n (2 ^ i) || power_row m (suc i) n

row_exponent : (m i n : ℕ) → power_row m i n ≡ true → (k : ℕ) × (i ≤ k) × (n ≡ 2 ^ k)
unfolding power_row
row_exponent zero i n t = (i, omega arith, eqb-true n (2 ^ i) t)
row_exponent (suc m) i n t =
    by_test (eqb n (2 ^ i)) (λ e. (i, omega arith, eqb-true n (2 ^ i) e))
    (λ e. let r = row_exponent m (suc i) n (rw e at t) in let l = r.1 in (r.0, omega arith, r.2))

row_has : (m i k : ℕ) → i ≤ k → k ≤ i + m → power_row m i (2 ^ k) ≡ true
unfolding power_row
row_has zero i k l h = let e : k ≡ i = omega arith in rw e (eq-eqb (2 ^ i) (2 ^ i) refl)
row_has (suc m) i k l h =
    by_test (eqb k i) (λ e. rw (eqb-true k i e, eq-eqb (2 ^ i) (2 ^ i) refl))
    (λ e.
    let r = row_has m (suc i) k (omega (arith, eqb-false k i e)) (omega arith) in
    by_test (eqb (2 ^ k) (2 ^ i)) (λ d. rw d) (λ d. rw (d, r)))

power_is : (n : ℕ) → power_of_two n ≡ power_row 9 1 n
unfolding power_of_two power_row
power_is n = refl

pub exponent : (n : ℕ) → power_of_two n ≡ true → (k : ℕ) × (1 ≤ k) × (n ≡ 2 ^ k)
exponent n t = row_exponent 9 1 n (sym (power_is n) ∙ t)

pub power_has : (k : ℕ) → 2 ≤ 2 ^ k → 2 ^ k ≤ 1_024 → power_of_two (2 ^ k) ≡ true
power_has k l h =
    power_is (2 ^ k) ∙ row_has 9 1 k (by_test (leb 1 k) (λ e. leb-true 1 k e) (λ e. absurd (none (leb-false 1 k e))))
    (by_test (leb k 10) (λ e. leb-true k 10 e) (λ e. absurd (many (leb-false k 10 e))))
  where
    none : k < 1 → ⊥
    none z = let e : k ≡ 0 = omega arith in let l' : 2 ≤ 2 ^ 0 = rw e at l in omega arith

    many : 10 < k → ⊥
    many g = let b : 2 ^ 11 ≤ 2 ^ k = pow-le-pow_right (omega arith) g in omega arith

-- a number of slots, 0 or a power of two, is a power of two again after the doubling, while it is within the table
pub slots_power : (s : List ℕ) (k : ℕ) → max (length s) 1 ≡ 2 ^ k → slots_for false s ≤ 1_024 → power_of_two (slots_for false s) ≡ true
slots_power s k p h =
    let d = slots_law s in
    let few = d.enough in
    let e : slots_for false s ≡ 2 ^ (d.times + k) = d.is ∙ rw p (sym (pow-add 2 d.times k)) in
    rw e (power_has (d.times + k) (rw (← e) (omega arith)) (rw (← e) h))

-- ---- distinct slots: no fingerprint lies at two places
record Distinct (s : List ℕ) : Type 0 where
  apart : (j k : ℕ) → 0 < get_or s j 0 → get_or s j 0 ≡ get_or s k 0 → j ≡ k

found_distinct : (s : List ℕ) → Found s → Distinct s
found_distinct s f = record {
  apart = λ j k h e.
      let a = f.lies j h in
      let b = f.lies k (rw e at h) in
      let q : Held j ≡ Held k = sym a ∙ rw e b in
      cc;
}

module _ (x : ℕ) (s : List ℕ) (d : Distinct (x ∷ s)) where
  distinct_tail : Distinct s
  distinct_tail = record { apart = λ j k h e. let q = d.apart (suc j) (suc k) h e in omega arith }

  distinct_head : 0 < x → among x s ≡ false
  distinct_head h =
      by_test (among x s)
      (λ t. let r = index x s t in let q = d.apart 0 (suc r.0) h (sym r.2) in absurd (omega arith))
      (λ t. t)

-- ---- slots are filled again from others
put_room : (t : List ℕ) (x : ℕ) → 0 < x → count t < length t → Found t → count (put t x) ≤ suc (count t)
put_room t x h room f = rw (put_count t x h room f) (by_test (among x t) (λ e. rw e (omega arith)) (λ e. rw e (omega arith)))

count_empty : (x : ℕ) (xs : List ℕ) → eqb x 0 ≡ true → count (x ∷ xs) ≡ count xs
unfolding count
count_empty x xs e = rw e (omega arith)

positive : (x : ℕ) → eqb x 0 ≡ false → 0 < x
positive x e = omega (arith, eqb-false x 0 e)

refill_length : (xs t : List ℕ) → length (refill xs t) ≡ length t
unfolding refill
refill_length [] t = refl
refill_length (x ∷ xs) t =
    by_test (eqb x 0) (λ e. rw e (refill_length xs t)) (λ e. rw e (refill_length xs (put t x) ∙ put_length t x))

refill_found : (xs t : List ℕ) → Found t → Found (refill xs t)
unfolding refill
refill_found [] t f = f
refill_found (x ∷ xs) t f =
    by_test (eqb x 0) (λ e. rw e (refill_found xs t f)) (λ e. rw e (refill_found xs (put t x) (put_found t x (positive x e) f)))

-- with room for all: what is then held was held in the one or the other
refill_among : (y : ℕ) → 0 < y → (xs t : List ℕ) → Found t → count t + count xs ≤ length t
    → among y (refill xs t) ≡ (among y xs || among y t)
unfolding refill among
refill_among y p [] t f r = refl
refill_among y p (x ∷ xs) t f r =
    by_test (eqb x 0)
    (λ e.
    let z : eqb y x ≡ false = ne_eqb y x (λ q. omega (arith, eqb-true x 0 e)) in
    rw (e, z) (refill_among y p xs t f (omega (arith, count_empty x xs e))))
    (λ e.
    let h = positive x e in
    let c = count_held x xs e in
    let room : count t < length t = omega arith in
    let q = put_room t x h room f in
    let l = put_length t x in
    let a = refill_among y p xs (put t x) (put_found t x h f) (omega arith) in
    rw (e, a, put_among t x h y p room) (by_test (eqb y x) (λ d. rw d (or-true (among y xs))) (λ d. rw d)))

-- and where none was held in both, it is as many
refill_count : (xs t : List ℕ) → Distinct xs → Found t → ((y : ℕ) → 0 < y → among y xs ≡ true → among y t ≡ false)
    → count t + count xs ≤ length t → count (refill xs t) ≡ count t + count xs
unfolding refill among count
refill_count [] t d f new r = omega arith
refill_count (x ∷ xs) t d f new r =
    by_test (eqb x 0)
    (λ e.
    let c = count_empty x xs e in
    let i = refill_count xs t (distinct_tail x xs d) f (λ y p a. new y p (by_test (eqb y x) (λ q. rw q) (λ q. rw (q, a)))) (omega arith) in
    rw e (omega arith))
    (λ e.
    let h = positive x e in
    let c = count_held x xs e in
    let room : count t < length t = omega arith in
    let absent : among x t ≡ false = new x h (rw (eq-eqb x x refl)) in
    let m : count (put t x) ≡ suc (count t) = put_count t x h room f ∙ rw absent in
    let l = put_length t x in
    let i = refill_count xs (put t x) (distinct_tail x xs d) (put_found t x h f)
    (λ y p a. put_among t x h y p room ∙ by_test (eqb y x)
    (λ q. no (let b = distinct_head x xs d h in let w = eqb-true y x q in let u = rw w at a in cc))
    (λ q. rw (q, new y p (rw (q, a))))) (omega arith) in
    rw e (omega arith))

-- ---- empty slots
zeros_found : (n : ℕ) → Found (replicate n 0)
zeros_found n = record { lies = λ j h. absurd (omega (arith, all_same {A = ℕ} n j 0)) }

zeros_count : (n : ℕ) → count (replicate n 0) ≡ 0
unfolding count
zeros_count zero = refl
zeros_count (suc n) = let c = zeros_count n in omega arith

zeros_hold : (n y : ℕ) → 0 < y → among y (replicate n 0) ≡ false
unfolding among
zeros_hold zero y p = refl
zeros_hold (suc n) y p = rw (ne_eqb y 0 (λ e. omega arith)) (zeros_hold n y p)

-- ---- growth: the slots that are wanted, and the same fingerprints
module _ (wanted : ℕ) (s : List ℕ) where
  pub grown_length : length (grown wanted s) ≡ wanted
  unfolding grown
  grown_length =
      by_test (eqb wanted (length s)) (λ e. rw e (sym (eqb-true wanted (length s) e)))
      (λ e. rw e (refill_length s (replicate wanted 0) ∙ length-replicate wanted 0))

  module _ (f : Found s) where
    pub grown_found : Found (grown wanted s)
    unfolding grown
    grown_found = by_test (eqb wanted (length s)) (λ e. rw e f) (λ e. rw e (refill_found s (replicate wanted 0) (zeros_found wanted)))

    module _ (fit : count s ≤ wanted) where
      room : count (replicate wanted 0) + count s ≤ length (replicate {A = ℕ} wanted 0)
      room = rw (zeros_count, length-replicate) (omega arith)

      pub grown_among : (y : ℕ) → 0 < y → among y (grown wanted s) ≡ among y s
      unfolding grown
      grown_among y p =
          by_test (eqb wanted (length s)) (λ e. rw e)
          (λ e.
          rw (e, refill_among y p s (replicate wanted 0) (zeros_found wanted) room, zeros_hold wanted y p)
          (by_test (among y s) (λ t. rw t) (λ t. rw t)))

      pub grown_count : count (grown wanted s) ≡ count s
      unfolding grown
      grown_count =
          by_test (eqb wanted (length s)) (λ e. rw e)
          (λ e. rw e (
          refill_count s (replicate wanted 0) (found_distinct s f) (zeros_found wanted) (λ y p a. zeros_hold wanted y p) room
          ∙ rw zeros_count (omega arith)))

-- ---- an insertion: what the slots are after it
pub record Inserted (s : List ℕ) (fp : ℕ) (after : List ℕ) : Type 0 where
  pub slots : length after ≡ slots_for (among fp s) s
  pub found : Found after
  pub holds : (y : ℕ) → 0 < y → among y after ≡ (eqb y fp || among y s)
  pub counted : count after ≡ cond (among fp s) (count s) (suc (count s))

-- a fingerprint that is held already: nothing changes
held_put : (s : List ℕ) (fp : ℕ) (r : Probe) → found r ≡ true → put_at r s fp ≡ s
held_put s fp (Held i) e = refl
held_put s fp (Free i) e = no (cc)
held_put s fp Nowhere e = no (cc)

pub held_kept : (s : List ℕ) (fp : ℕ) → 0 < fp → Found s → among fp s ≡ true → put (grown (slots_for (among fp s) s) s) fp ≡ s
unfolding put grown
held_kept s fp p f t =
    rw (t, held_stays s, eq-eqb (length s) (length s) refl) (held_put s fp (probe s fp) (probe_finds s fp f p ∙ t))

held_inserted : (s : List ℕ) (fp : ℕ) → Found s → among fp s ≡ true → Inserted s fp s
held_inserted s fp f t = record {
  slots = rw (t, held_stays s);
  found = f;
  holds = λ y q. by_test (eqb y fp) (λ e. rw e (rw (eqb-true y fp e) t)) (λ e. rw e);
  counted = rw t;
}

pub inserted : (b fp stamp : ℕ) (g : Generation) → 0 < fp → Found g.slots → Inserted g.slots fp (insert b fp stamp g).slots
unfolding insert
inserted b fp stamp g p f =
    by_test (among fp g.slots)
    (λ t. subst (λ (l : List ℕ). Inserted g.slots fp l) (sym (held_kept g.slots fp p f t)) (held_inserted g.slots fp f t))
    (λ t. new_inserted g.slots fp p f t)
  where
    new_inserted : (s : List ℕ) (fp : ℕ) → 0 < fp → Found s → among fp s ≡ false → Inserted s fp (put (grown (slots_for (among fp s) s) s) fp)
    new_inserted s fp p f t =
        let wanted = slots_for (among fp s) s in
        let enough : 4 * suc (count s) ≤ 3 * wanted = rw t (slots_law s).enough in
        let fit : count s ≤ wanted = omega arith in
        let l = grown_length wanted s in
        let c = grown_count wanted s f fit in
        let room : count (grown wanted s) < length (grown wanted s) = omega arith in
        let held = grown_among wanted s f fit in
        record {
          slots = put_length (grown wanted s) fp ∙ l;
          found = put_found (grown wanted s) fp p (grown_found wanted s f);
          holds = λ y q. put_among (grown wanted s) fp p y q room ∙ rw (held y q);
          counted = put_count (grown wanted s) fp p room (grown_found wanted s f) ∙ rw (c, held fp p);
        }

-- ---- well-formed generations: an empty one, one that is dropped, and one that a fingerprint is inserted into
pub empty_ok : (S n i : ℕ) → GenerationOk S n i empty
empty_ok S n i = record { fits = omega arith; aged = omega arith; shape = refl }

pub dropped_ok : (S n i : ℕ) (g : Generation) → GenerationOk S n i (dropped g)
unfolding dropped
dropped_ok S n i g = record { fits = omega arith; aged = omega arith; shape = refl }

pub among_count : (x : ℕ) (s : List ℕ) → 0 < x → among x s ≡ true → 1 ≤ count s
unfolding among count
among_count x [] h t = no (cc)
among_count x (y ∷ s) h t =
    by_test (eqb y 0)
    (λ e.
    let d : eqb x y ≡ false = ne_eqb x y (λ q. omega (arith, eqb-true y 0 e)) in
    rw e (let r = among_count x s h (rw d at t) in omega arith))
    (λ e. rw e (omega arith))

module _ (S n i : ℕ) (g : Generation) (ok : GenerationOk S n i g) where
  -- its slots are none, or filled as the rules say
  pub ok_ways : {A : Type 0} → (g.slots ≡ [] → g.newest ≡ 0 → A)
      → (power_of_two (length g.slots) ≡ true → 1 ≤ count g.slots → 4 * count g.slots ≤ 3 * length g.slots → g.bucket % n ≡ i
      → reached_from g.slots 0 g.slots ≡ true → A) → A
  ok_ways none some =
      let s = g.slots in
      by_test (eqb (length s) 0)
      (λ e. none (nil s (eqb-true (length s) 0 e)) (eqb-true g.newest 0 (rw e at ok.shape)))
      (λ e.
      let p = each_true (filled_sound n i (length s) (count s) g.bucket) (reached_from s 0 s ∷ []) (rw e at ok.shape) in
      let q = each_true (power_of_two (length s)) (leb 1 (count s) ∷ leb (4 * count s) (3 * length s) ∷ eqb (g.bucket % n) i ∷ []) p.0 in
      some q.0 (leb-true 1 (count s) q.1.0) (leb-true (4 * count s) (3 * length s) q.1.1.0) (eqb-true (g.bucket % n) i q.1.1.1) p.1)
    where
      nil : (s : List ℕ) → length s ≡ 0 → s ≡ []
      nil [] e = refl
      nil (x ∷ s) e = absurd (omega arith)

  pub ok_found : Found g.slots
  ok_found = ok_ways (λ e z. rw e (record { lies = λ j h. absurd (omega arith) })) (λ p a b c r. found_all g.slots r)

  pub ok_power : (k : ℕ) × (max (length g.slots) 1 ≡ 2 ^ k)
  ok_power =
      ok_ways (λ e z. (0, rw e refl))
      (λ p a b c r. let x = exponent (length g.slots) p in (x.0, (let k = count≤ g.slots in omega arith) ∙ x.2))

  -- the oldest stamp stays at or below the newest
  oldest_kept : (stamp : ℕ) → oldest_with stamp g ≤ max g.newest stamp
  oldest_kept stamp = let a = ok.aged in by_test (eqb (count g.slots) 0) (λ e. rw e (omega arith)) (λ e. rw e (omega arith))

  -- after it the slots are a power of two and at most three quarters are held: as before where the fingerprint was held, and by the
  -- doubling where it is new
  filled_well : (fp : ℕ) → 0 < fp → slots_for (among fp g.slots) g.slots ≤ 1_024 → (after : List ℕ) → Inserted g.slots fp after
      → (power_of_two (length after) ≡ true) × (4 * count after ≤ 3 * length after)
  filled_well fp p small after ins =
      let s = g.slots in
      let l = ins.slots in
      let c = ins.counted in
      by_test (among fp s)
      (λ t. let e : length after ≡ length s = l ∙ rw (t, held_stays s) in
      let k : count after ≡ count s = c ∙ rw t in
      let some = among_count fp s p t in
      ok_ways (λ n z. absurd (let d : 1 ≤ count [] = rw n at some in omega (arith, d, count≤ [])))
      (λ q a few d r. (rw e q, omega (arith, e, k, few))))
      (λ t. let w : length after ≡ slots_for false s = l ∙ rw t in
      let k : count after ≡ suc (count s) = c ∙ rw t in
      let enough = (slots_law s).enough in
      (rw w (slots_power s ok_power.0 ok_power.1 (omega (arith, w, l, small))), omega (arith, w, k, enough)))

  -- whatever was at the position: the new fingerprint's bucket has it now
  pub insert_ok : (b fp stamp : ℕ) → S ≤ 1_024 → 0 < fp → slots_for (among fp g.slots) g.slots ≤ S
      → GenerationOk S n (b % n) (insert b fp stamp g)
  unfolding insert
  insert_ok b fp stamp small p fit =
      let s = g.slots in
      let after = put (grown (slots_for (among fp s) s) s) fp in
      let ins = inserted b fp stamp g p ok_found in
      let l = ins.slots in
      let holds : among fp after ≡ true = ins.holds fp p ∙ rw (eq-eqb fp fp refl) in
      let some : 1 ≤ count after = among_count fp after p holds in
      let few = count≤ after in
      let well = filled_well fp p (omega arith) after ins in
      record {
        fits = omega (arith, l, fit);
        aged = oldest_kept stamp;
        shape =
            rw (ne_eqb (length after) 0 (λ e. omega arith), well.0, le-leb 1 (count after) some, le-leb (4 * count after) (3 * length after) well.1, eq-eqb (b % n) (b % n) refl)
            (all_found after ins.found);
      }
