-- The model's rules on a list of pairs, by the place of the second in it: `before s qs` pairs lie before it.
use Prim.Native.Nat.{ℕ, zero, suc, ◌+◌, ◌<◌, ◌≤◌}
use native.Mathlib.Omega.{arith}
use mathlib.Core.Path.{◌≡◌, refl, ap, sym, ◌∙◌}
use mathlib.Core.Bool.{true, false, or-false}
use mathlib.Core.List.{List, [], ◌∷◌}
use lib.ListN.{length, drop, length-append, length-drop}
use lib.Seq.{length-take-le, drop-cons}
use lib.Dec.{eqb, leb, ltb}
use borrow.Author.Tests.{eq-eqb, ne_eqb, le-leb, lt-leb, lt-ltb, le-ltb, eqb-true, eqb-false, leb-true, leb-false, ltb-false}
use Rattle.runs.proofs.Cases.{by_test, no}
use Rattle.model.specs.Book.{Pair, total, listed, add_pair, lower_pair, later_pairs}
use Rattle.model.specs.BookWords.{pairs_sound}
use Rattle.model.proofs.Pairs.{rising, listed_low}
use Rattle.pairs.specs.Pairs.{before, second_at, count_at, raise_at, lower_at, insert_at, remove_at}
use Rattle.pairs.proofs.PairWords.{none, total_append, total_part, count_is}

pub before_le : (s : ℕ) (qs : List Pair) → before s qs ≤ length qs
unfolding before
before_le s [] = omega arith
before_le s (q ∷ qs) =
    by_test (leb s q.second) (λ e. simp e (omega arith)) (λ e. simp e (omega (arith, before_le s qs)))

pub second_below : (s k : ℕ) (qs : List Pair) → second_at s k qs ≡ true → k < length qs
unfolding second_at
second_below s k [] e = no (cc)
second_below s zero (q ∷ qs) e = omega arith
second_below s (suc k) (q ∷ qs) e = omega (arith, second_below s k qs e)

pub eqb_comm : (a b : ℕ) → eqb a b ≡ eqb b a
eqb_comm a b =
    by_test (eqb a b)
    (λ e. e ∙ sym (eq-eqb b a (sym (eqb-true a b e))))
    (λ e. e ∙ sym (ne_eqb b a (λ d. eqb-false a b e (sym d))))

-- ---- a draw
pub add_listed : (s : ℕ) (qs : List Pair) → second_at s (before s qs) qs ≡ true → add_pair s qs ≡ raise_at (before s qs) qs
unfolding second_at before add_pair raise_at
add_listed s [] e = no (cc)
add_listed s (q ∷ qs) e =
    by_test (eqb s q.second)
    (λ d. let l = le-leb s q.second (let k = eqb-true s q.second d in omega arith) in simp (d, l))
    (λ d. by_test (leb s q.second)
    (λ l. no (let f : eqb q.second s ≡ true = rw l at e in let g = eqb_comm s q.second in cc))
    (λ l.
    let m = le-ltb s q.second (let k = leb-false s q.second l in omega arith) in
    simp (d, l, m) (ap (λ (z : List Pair). q ∷ z) (add_listed s qs (rw l at e)))))

pub add_new : (s : ℕ) (qs : List Pair) → second_at s (before s qs) qs ≡ false → add_pair s qs ≡ insert_at (before s qs) s qs
unfolding second_at before add_pair
add_new s [] e = refl
add_new s (q ∷ qs) e =
    by_test (eqb s q.second)
    (λ d.
    let l = le-leb s q.second (let k = eqb-true s q.second d in omega arith) in
    no (let f : eqb q.second s ≡ false = rw l at e in let g = eqb_comm s q.second in cc))
    (λ d. by_test (leb s q.second)
    (λ l.
    let n = eqb-false s q.second d in
    let h = leb-true s q.second l in
    let m = by_test (ltb s q.second) (λ z. z) (λ z. absurd (n (let k = ltb-false s q.second z in omega arith))) in
    simp (d, l, m))
    (λ l.
    let m = le-ltb s q.second (let k = leb-false s q.second l in omega arith) in
    simp (d, l, m) (ap (λ (z : List Pair). q ∷ z) (add_new s qs (rw l at e)))))

pub listed_at : (least s : ℕ) (qs : List Pair) → pairs_sound least qs ≡ true → listed s qs ≡ second_at s (before s qs) qs
unfolding second_at before listed
listed_at least s [] p = refl
listed_at least s (q ∷ qs) p =
    let r = rising least q qs p in
    by_test (leb s q.second)
    (λ l.
    let low = listed_low (suc q.second) s qs r.rest (let k = leb-true s q.second l in omega arith) in
    simp (l, low) (or-false (eqb s q.second) ∙ eqb_comm s q.second))
    (λ l.
    let d = ne_eqb s q.second (λ e. let k = leb-false s q.second l in omega arith) in
    simp (l, d) (listed_at (suc q.second) s qs r.rest))

-- ---- a return
pub lower_many : (s : ℕ) (qs : List Pair) → second_at s (before s qs) qs ≡ true → 1 < count_at (before s qs) qs
    → lower_pair s qs ≡ lower_at (before s qs) qs
unfolding second_at before lower_pair lower_at count_at
lower_many s [] e c = no (cc)
lower_many s (q ∷ qs) e c =
    by_test (leb s q.second)
    (λ l.
    let f : eqb q.second s ≡ true = rw l at e in
    let d : eqb s q.second ≡ true = eqb_comm s q.second ∙ f in
    let g : 1 < q.count = rw l at c in
    simp (l, d, lt-leb q.count 1 g))
    (λ l.
    let d = ne_eqb s q.second (λ z. let k = leb-false s q.second l in omega arith) in
    simp (l, d) (ap (λ (z : List Pair). q ∷ z) (lower_many s qs (rw l at e) (rw l at c))))

pub lower_last : (s : ℕ) (qs : List Pair) → second_at s (before s qs) qs ≡ true → count_at (before s qs) qs ≤ 1
    → lower_pair s qs ≡ remove_at (before s qs) 1 qs
unfolding second_at before lower_pair count_at
lower_last s [] e c = no (cc)
lower_last s (q ∷ qs) e c =
    by_test (leb s q.second)
    (λ l.
    let f : eqb q.second s ≡ true = rw l at e in
    let d : eqb s q.second ≡ true = eqb_comm s q.second ∙ f in
    let g : q.count ≤ 1 = rw l at c in
    simp (l, d, le-leb q.count 1 g))
    (λ l.
    let d = ne_eqb s q.second (λ z. let k = leb-false s q.second l in omega arith) in
    let m : suc (before s qs) + 1 ≡ suc (before s qs + 1) = omega arith in
    simp (l, d, m) (ap (λ (z : List Pair). q ∷ z) (lower_last s qs (rw l at e) (rw l at c))))

pub lower_none : (s : ℕ) (qs : List Pair) → listed s qs ≡ false → lower_pair s qs ≡ qs
unfolding listed lower_pair
lower_none s [] e = refl
lower_none s (q ∷ qs) e =
    by_test (eqb s q.second)
    (λ d. no (let f : true ≡ false = rw d at e in cc))
    (λ d. simp d (ap (λ (z : List Pair). q ∷ z) (lower_none s qs (rw d at e))))

-- ---- an expiry
later_all : (least t : ℕ) (qs : List Pair) → t ≤ least → pairs_sound least qs ≡ true → later_pairs t qs ≡ qs
unfolding later_pairs
later_all least t [] h p = refl
later_all least t (q ∷ qs) h p =
    let r = rising least q qs p in
    let k = r.low in
    simp (le-ltb q.second t (omega arith)) (ap (λ (z : List Pair). q ∷ z) (later_all (suc q.second) t qs (omega arith) r.rest))

pub later_drop : (least t : ℕ) (qs : List Pair) → pairs_sound least qs ≡ true → later_pairs t qs ≡ drop (before t qs) qs
unfolding later_pairs before
later_drop least t [] p = refl
later_drop least t (q ∷ qs) p =
    let r = rising least q qs p in
    by_test (leb t q.second)
    (λ l.
    let k = leb-true t q.second l in
    simp (l, le-ltb q.second t k) (ap (λ (z : List Pair). q ∷ z) (later_all (suc q.second) t qs (omega arith) r.rest)))
    (λ l. simp (l, lt-ltb q.second t (leb-false t q.second l)) (later_drop (suc q.second) t qs r.rest))

-- ---- lengths and sums
pub length_raise : (k : ℕ) (qs : List Pair) → length (raise_at k qs) ≡ length qs
unfolding raise_at
length_raise k [] = refl
length_raise zero (q ∷ qs) = refl
length_raise (suc k) (q ∷ qs) = ap suc (length_raise k qs)

pub length_lower_at : (k : ℕ) (qs : List Pair) → length (lower_at k qs) ≡ length qs
unfolding lower_at
length_lower_at k [] = refl
length_lower_at zero (q ∷ qs) = refl
length_lower_at (suc k) (q ∷ qs) = ap suc (length_lower_at k qs)

pub total_raise : (k : ℕ) (qs : List Pair) → k < length qs → total (raise_at k qs) ≡ suc (total qs)
unfolding raise_at total
total_raise k [] h = absurd (omega arith)
total_raise zero (q ∷ qs) h = omega arith
total_raise (suc k) (q ∷ qs) h = omega (arith, total_raise k qs (omega arith))

pub total_lower_at : (k : ℕ) (qs : List Pair) → k < length qs → 1 ≤ count_at k qs → suc (total (lower_at k qs)) ≡ total qs
unfolding lower_at total count_at
total_lower_at k [] h c = absurd (omega arith)
total_lower_at zero (q ∷ qs) h c = omega arith
total_lower_at (suc k) (q ∷ qs) h c = omega (arith, total_lower_at k qs (omega arith) c)

pub length_insert : (k s : ℕ) (qs : List Pair) → k ≤ length qs → length (insert_at k s qs) ≡ suc (length qs)
length_insert k s qs h = rw (length-append, length-take-le k qs h, length-drop) (omega arith)

pub total_insert : (k s : ℕ) (qs : List Pair) → total (insert_at k s qs) ≡ suc (total qs)
unfolding total
total_insert k s qs = rw total_append (omega (arith, total_part k qs))

pub length_remove : (k m : ℕ) (qs : List Pair) → k + m ≤ length qs → length (remove_at k m qs) + m ≡ length qs
length_remove k m qs h = rw (length-append, length-take-le k qs (omega arith), length-drop) (omega arith)

pub total_remove : (k : ℕ) (qs : List Pair) → k < length qs → total (remove_at k 1 qs) + count_at k qs ≡ total qs
unfolding total
total_remove k qs h =
    let p = total_part k qs in
    let e : k + 1 ≡ suc k = omega arith in
    let d = ap total (drop-cons qs k none h) in
    let c = count_is k qs h in
    rw (total_append, e) (omega arith)
