-- Sorted words are distinct where neighbours differ, and words are as distinct as when they are sorted.
use Prim.Native.Nat.{ℕ, zero, suc, ◌+◌, ◌<◌, ◌≤◌}
use native.Mathlib.Omega.{arith}
use native.Mathlib.Numerals.{add-one}
use mathlib.Core.Path.{◌≡◌, refl, sym, ◌∙◌}
use mathlib.Core.Bool.{Bool, true, false, not, ◌||◌, and-false}
use mathlib.Core.List.{List, [], ◌∷◌}
use lib.ListN.{length, get_or}
use lib.Dec.{eqb, ltb}
use Rattle.std.specs.Bool.{MatchBool}
use Rattle.std.specs.Prelude.{Option, Some, None, IsSomeAnd, IfSome}
use Rattle.std.specs.Iterator.Runs.{Run, IsWindowsRun, AllItems, AnyItem}
use denote.Ref.{Bor}
use borrow.Author.Tests.{eq-eqb, ne_eqb, eqb-true, eqb-false, not-true, ltb-true, ltb-false}
use Rattle.runs.proofs.Cases.{by_test, both_true, no}
use Rattle.model.specs.Generation.{among}
use Rattle.distinct.specs.Runs.{distinct, differs, Rising, times, Sorts}

-- ---- neighbours_differ
-- word y may stand after word x
abbrev apart : ℕ → ℕ → Bool
apart x y = eqb y 0 || not (eqb x y)

differs_all : (x : ℕ) (ws : List ℕ) → ((k : ℕ) → k < length ws → apart (get_or (x ∷ ws) k 0) (get_or ws k 0) ≡ true) → differs x ws ≡ true
unfolding differs
differs_all x [] h = refl
differs_all x (y ∷ ws) h = let a = h 0 (omega arith) in let b = differs_all y ws (λ k l. h (suc k) (omega arith)) in rw (a, b)

differs_some : (x : ℕ) (ws : List ℕ) (k : ℕ) → k < length ws → apart (get_or (x ∷ ws) k 0) (get_or ws k 0) ≡ false → differs x ws ≡ false
unfolding differs
differs_some x [] k l h = absurd (omega arith)
differs_some x (y ∷ ws) zero l h = rw h
differs_some x (y ∷ ws) (suc k) l h = let b = differs_some y ws k (omega arith) h in rw b (and-false (apart x y))

-- any word may stand after 0
zero_first : (y : ℕ) → apart 0 y ≡ true
zero_first y = by_test (eqb y 0) (λ e. rw e) (λ e. let d : eqb 0 y ≡ false = ne_eqb 0 y (λ q. omega (arith, eqb-false y 0 e)) in rw (e, d))

differ_told : (ws : List ℕ) (r : Bool)
    → MatchBool r ((k : ℕ) → k + 1 < length ws → apart (get_or ws k 0) (get_or ws (k + 1) 0) ≡ true)
    ((k : ℕ) × (k + 1 < length ws) × (apart (get_or ws k 0) (get_or ws (k + 1) 0) ≡ false))
    → r ≡ differs 0 ws
unfolding differs
differ_told [] true h = refl
differ_told [] false h = let l = h.1 in absurd (omega (arith, l))
differ_told (y ∷ ws) true h = let z = zero_first y in let a = differs_all y ws (λ k l. rw add-one at (h k (omega arith))) in rw (z, a)
differ_told (y ∷ ws) false h =
    let l = h.1 in
    let z = zero_first y in
    let a = differs_some y ws h.0 (omega arith) (rw add-one at h.2) in rw (z, a)

-- the windows of two words, tested up to the first whose words are not apart
module _ {S : Type 0} {steps : S → Option (Bor (List ℕ)) → S → Type 0} (p : Run steps) (ws : List ℕ) (w : IsWindowsRun p 2 ws) where
  abbrev Pair : ℕ → Bor (List ℕ) → Type 0
  Pair k y = (get_or y.now 0 0 ≡ get_or ws k 0) × (get_or y.now 1 0 ≡ get_or ws (k + 1) 0) × (k + 1 < length ws)

  pair_at : (k : ℕ) → k < p.len → (x : Option (Bor (List ℕ))) → p.at k ≡ x → IsSomeAnd x (Pair k)
  pair_at k l None e = no (let q = rw e at (w.3 k 0 l) in cc)
  pair_at k l (Some y) e =
      let q = rw e at (w.2 k) in
      let z : k + 0 ≡ k = omega arith in
      let f = q.2.2 0 0 (omega arith) in
      let long = q.1 in (rw z at f, q.2.2 1 0 (omega arith), omega arith)

  apart_at : (b : Bool) (k : ℕ) → (x : Option (Bor (List ℕ))) → IsSomeAnd x (Pair k)
      → IfSome x (λ y. apart (get_or y.now 0 0) (get_or y.now 1 0) ≡ b) → apart (get_or ws k 0) (get_or ws (k + 1) 0) ≡ b
  apart_at b k None q h = absurd q
  apart_at b k (Some y) q h = rw (q.0, q.1) at h

  found_at : (k : ℕ) → (x : Option (Bor (List ℕ))) → IsSomeAnd x (Pair k)
      → IsSomeAnd x (λ y. apart (get_or y.now 0 0) (get_or y.now 1 0) ≡ false)
      → (k + 1 < length ws) × (apart (get_or ws k 0) (get_or ws (k + 1) 0) ≡ false)
  found_at k None q h = absurd q
  found_at k (Some y) q h = (q.2, rw (q.0, q.1) at h)

  pub windows_told : (r : Bool)
      → MatchBool r ((p.whole ≡ true) × AllItems p (λ x. apart (get_or x.now 0 0) (get_or x.now 1 0) ≡ true))
      (AnyItem p (λ x. apart (get_or x.now 0 0) (get_or x.now 1 0) ≡ false))
      → r ≡ differs 0 ws
  windows_told true m =
      let len = w.1 m.0 in
      differ_told ws true (λ k l. apart_at true k (p.at k) (pair_at k (omega arith) (p.at k) refl) (m.1 k))
  windows_told false m =
      let f = found_at m.0 (p.at m.0) (pair_at m.0 m.1 (p.at m.0) refl) m.2 in
      differ_told ws false (m.0, f.0, f.1)

-- ---- of rising words
-- what is below the first is not among them
absent : (x m : ℕ) (ws : List ℕ) → x < m → Rising m ws → among x ws ≡ false
unfolding among Rising
absent x m [] h r = refl
absent x m (y ∷ ws) h r = let a = r.0 in rw (ne_eqb x y (λ e. omega arith), absent x y ws (omega arith) r.1)

-- the first of them differs from m, or is 0, exactly as m is not among them, or is 0
first : (m y : ℕ) (ws : List ℕ) → m ≤ y → Rising y ws → (eqb y 0 || not (eqb m y)) ≡ (eqb m 0 || not (among m (y ∷ ws)))
unfolding among
first m y ws h r =
    by_test (eqb m y) (λ e. let q = eqb-true m y e in by_test (eqb y 0) (λ z. rw (q, z)) (λ z. rw (q, eq-eqb y y refl, z)))
    (λ e.
    let a = absent m y ws (omega (arith, eqb-false m y e)) r in
    by_test (eqb m 0) (λ z. by_test (eqb y 0) (λ v. rw (e, z, v)) (λ v. rw (e, z, v)))
    (λ z. by_test (eqb y 0) (λ v. rw (e, z, v, a)) (λ v. rw (e, z, v, a))))

-- so a word and those after it are distinct exactly as each differs from the next
neighbours : (m : ℕ) (ws : List ℕ) → Rising m ws → differs m ws ≡ distinct (m ∷ ws)
unfolding differs distinct Rising among
neighbours m [] r = by_test (eqb m 0) (λ e. rw e) (λ e. rw e)
neighbours m (y ∷ ws) r = rw (neighbours y ws r.1, first m y ws r.0 r.1)

-- ---- distinct is: no word but 0 stands there twice
often : (x : ℕ) (ws : List ℕ) → among x ws ≡ true → 1 ≤ times x ws
unfolding among times
often x [] t = no (cc)
often x (y ∷ ws) t =
    by_test (eqb x y) (λ e. rw e (omega arith)) (λ e. let k = often x ws (rw e at t) in rw e (omega arith))

never : (x : ℕ) (ws : List ℕ) → among x ws ≡ false → times x ws ≡ 0
unfolding among times
never x [] t = refl
never x (y ∷ ws) t =
    by_test (eqb x y) (λ e. no (let q = rw e at t in cc)) (λ e. let k = never x ws (rw e at t) in rw e (omega arith))

pub record Once (ws : List ℕ) : Type 0 where
  pub once : (x : ℕ) → 0 < x → times x ws ≤ 1

distinct_once : (ws : List ℕ) → distinct ws ≡ true → (x : ℕ) → 0 < x → times x ws ≤ 1
unfolding distinct times
distinct_once [] t x h = omega arith
distinct_once (y ∷ ws) t x h =
    let p = both_true (eqb y 0 || not (among y ws)) (distinct ws) t in
    let i = distinct_once ws p.1 x h in
    by_test (eqb x y)
    (λ e.
    let q = eqb-true x y e in
    let a : among x ws ≡ false = rw q (not-true (among y ws) (rw (ne_eqb y 0 (λ z. omega arith)) at p.0)) in
    let k = never x ws a in
    rw e (omega arith))
    (λ e. rw e (omega arith))

once_distinct : (ws : List ℕ) → ((x : ℕ) → 0 < x → times x ws ≤ 1) → distinct ws ≡ true
unfolding distinct times
once_distinct [] o = refl
once_distinct (y ∷ ws) o =
    let i = once_distinct ws (λ x h. let k = o x h in omega arith) in
    by_test (eqb y 0) (λ z. rw (z, i))
    (λ z.
    by_test (among y ws)
    (λ a.
    let k = rw (eq-eqb y y refl) at (o y (omega (arith, eqb-false y 0 z))) in
    absurd (omega (arith, often y ws a, k)))
    (λ a. rw (z, a, i)))

-- words with the same words in them, in whatever order
pub distinct_same : (a b : List ℕ) → ((x : ℕ) → times x a ≡ times x b) → distinct a ≡ distinct b
distinct_same a b s =
    by_test (distinct a)
    (λ t. t ∙ sym (once_distinct b (λ x h. let k = distinct_once a t x h in let e = s x in omega arith)))
    (λ t.
    by_test (distinct b)
    (λ u. no (let v = once_distinct a (λ x h. let k = distinct_once b u x h in let e = s x in omega arith) in cc))
    (λ u. t ∙ sym u))

-- ---- words can be sorted in one way alone: of two rising lists with the same words in them the first words are the same
first_same : (x y : ℕ) (a b : List ℕ) → Rising y b → times x (x ∷ a) ≡ times x (y ∷ b) → x < y → ⊥
unfolding times
first_same x y a b r e h =
    let n = never x b (absent x y b h r) in
    let d : eqb x y ≡ false = ne_eqb x y (λ q. omega arith) in
    let k = rw (eq-eqb x x refl, d, n) at e in
    omega arith

one_order : (m n : ℕ) (a b : List ℕ) → Rising m a → Rising n b → ((x : ℕ) → times x a ≡ times x b) → a ≡ b
unfolding Rising times
one_order m n [] [] r q s = refl
one_order m n [] (y ∷ b) r q s = absurd (let k = rw (eq-eqb y y refl) at (s y) in omega arith)
one_order m n (x ∷ a) [] r q s = absurd (let k = rw (eq-eqb x x refl) at (s x) in omega arith)
one_order m n (x ∷ a) (y ∷ b) r q s =
    let low = first_same x y a b q.1 (s x) in
    let high = first_same y x b a r.1 (sym (s y)) in
    let e : x ≡ y = by_test (ltb x y) (λ t. absurd (low (ltb-true x y t)))
    (λ t. by_test (ltb y x) (λ v. absurd (high (ltb-true y x v))) (λ v. omega (arith, ltb-false x y t, ltb-false y x v))) in
    let rest = one_order x y a b r.1 q.1 (λ z. let k = rw e at (s z) in omega arith) in
    cc

pub sorted_alone : (ws a b : List ℕ) → Sorts ws a → Sorts ws b → a ≡ b
sorted_alone ws a b s t = one_order 0 0 a b s.rising t.rising (λ x. s.same x ∙ sym (t.same x))

-- ---- so sorted words tell
pub told : (ws sorted : List ℕ) → Sorts ws sorted → differs 0 sorted ≡ distinct ws
unfolding distinct
told ws sorted s = neighbours 0 sorted s.rising ∙ distinct_same sorted ws s.same
