-- A place's pairs as a list: what a draw, a return and an expiry make of them. No word is spoken of here.
use Prim.Native.Nat.{ℕ, suc, ◌-◌, ◌≤◌, ◌<◌}
use native.Mathlib.Omega.{arith}
use mathlib.Core.Path.{◌≡◌, refl, ap}
use mathlib.Core.Bool.{true, false, ◌&&◌}
use mathlib.Core.List.{List, [], ◌∷◌}
use lib.ListN.{length}
use lib.Dec.{leb, ltb, eqb}
use borrow.Author.Tests.{eq-eqb, ne_eqb, le-leb, lt-leb, leb-true, leb-false, ltb-true, ltb-false, eqb-false}
use Rattle.runs.proofs.Cases.{by_test, each_true, both_true, no}
use Rattle.model.specs.Numbers.{top32}
use Rattle.model.specs.Book.{Pair, total, listed, add_pair, lower_pair, later_pairs}
use Rattle.model.specs.BookWords.{pairs_sound}

-- ---- sound pairs: seconds rising and 32-bit, counts at least 1
pub record Rising (least : ℕ) (q : Pair) (qs : List Pair) : Type 0 where
  pub low : least ≤ q.second
  pub short : q.second ≤ top32
  pub some : 1 ≤ q.count
  pub rest : pairs_sound (suc q.second) qs ≡ true

pub rising : (least : ℕ) (q : Pair) (qs : List Pair) → pairs_sound least (q ∷ qs) ≡ true → Rising least q qs
unfolding pairs_sound
rising least q qs t =
    let p = both_true (leb least q.second && (leb q.second top32 && leb 1 q.count)) (pairs_sound (suc q.second) qs) t in
    let w = each_true (leb least q.second) (leb q.second top32 ∷ leb 1 q.count ∷ []) p.0 in
    record { low = leb-true _ _ w.0; short = leb-true _ _ w.1.0; some = leb-true _ _ w.1.1; rest = p.1 }

pub rises : (least : ℕ) (q : Pair) (qs : List Pair) → Rising least q qs → pairs_sound least (q ∷ qs) ≡ true
unfolding pairs_sound
rises least q qs r = rw (le-leb _ _ r.low, le-leb _ _ r.short, le-leb _ _ r.some) r.rest

sound_none : (least : ℕ) → pairs_sound least [] ≡ true
unfolding pairs_sound
sound_none least = refl

pub sound_from : (a b : ℕ) (qs : List Pair) → a ≤ b → pairs_sound b qs ≡ true → pairs_sound a qs ≡ true
unfolding pairs_sound
sound_from a b [] h t = refl
sound_from a b (q ∷ qs) h t =
    let r = rising b q qs t in
    rises a q qs (record { low = omega arith; short = r.short; some = r.some; rest = r.rest })

-- a second below the first is not listed
pub listed_low : (least s : ℕ) (qs : List Pair) → pairs_sound least qs ≡ true → s < least → listed s qs ≡ false
unfolding listed
listed_low least s [] t h = refl
listed_low least s (q ∷ qs) t h =
    let r = rising least q qs t in
    rw (ne_eqb s q.second (λ e. omega arith)) (listed_low (suc q.second) s qs r.rest (omega arith))

-- pairs that are there hold entries
pub total_some : (least : ℕ) (qs : List Pair) → pairs_sound least qs ≡ true → 1 ≤ length qs → 1 ≤ total qs
unfolding total
total_some least [] t h = absurd (omega arith)
total_some least (q ∷ qs) t h = let r = rising least q qs t in omega arith

-- ---- a draw enters its second
pub total_add : (s : ℕ) (qs : List Pair) → total (add_pair s qs) ≡ suc (total qs)
unfolding total add_pair
total_add s [] = refl
total_add s (q ∷ qs) =
    by_test (eqb s q.second)
    (λ e. simp e (omega arith))
    (λ e. by_test (ltb s q.second) (λ d. simp (e, d) (omega arith)) (λ d. simp (e, d) (omega (arith, total_add s qs))))

pub length_new : (s : ℕ) (qs : List Pair) → listed s qs ≡ false → length (add_pair s qs) ≡ suc (length qs)
unfolding listed add_pair
length_new s [] t = refl
length_new s (q ∷ qs) t =
    by_test (eqb s q.second)
    (λ e. no (let f : true ≡ false = rw e at t in cc))
    (λ e. by_test (ltb s q.second) (λ d. simp (e, d)) (λ d. simp (e, d) (ap suc (length_new s qs (rw e at t)))))

pub length_listed : (least s : ℕ) (qs : List Pair) → pairs_sound least qs ≡ true → listed s qs ≡ true → length (add_pair s qs) ≡ length qs
unfolding listed add_pair
length_listed least s [] p t = no (cc)
length_listed least s (q ∷ qs) p t =
    let r = rising least q qs p in
    by_test (eqb s q.second)
    (λ e. simp e)
    (λ e. by_test (ltb s q.second)
    (λ d. no (let f = listed_low (suc q.second) s qs r.rest (let k = ltb-true s q.second d in omega arith) in let g : listed s qs ≡ true = rw e at t in cc))
    (λ d. simp (e, d) (ap suc (length_listed (suc q.second) s qs r.rest (rw e at t)))))

pub add_some : (s : ℕ) (qs : List Pair) → 1 ≤ length (add_pair s qs)
unfolding add_pair
add_some s [] = omega arith
add_some s (q ∷ qs) =
    by_test (eqb s q.second)
    (λ e. simp e (omega arith))
    (λ e. by_test (ltb s q.second) (λ d. simp (e, d) (omega arith)) (λ d. simp (e, d) (omega arith)))

pub add_sound : (least s : ℕ) (qs : List Pair) → least ≤ s → s ≤ top32 → pairs_sound least qs ≡ true → pairs_sound least (add_pair s qs) ≡ true
unfolding add_pair
add_sound least s [] l h p = rises least (record { second = s; count = 1 }) [] (record { low = l; short = h; some = omega arith; rest = sound_none (suc s) })
add_sound least s (q ∷ qs) l h p =
    let r = rising least q qs p in
    by_test (eqb s q.second)
    (λ e. simp e (rises least (record { second = q.second; count = suc q.count }) qs (record { low = r.low; short = r.short; some = omega arith; rest = r.rest })))
    (λ e. by_test (ltb s q.second)
    (λ d.
    let k = ltb-true s q.second d in
    simp (e, d)
    (rises least (record { second = s; count = 1 }) (q ∷ qs)
    (record { low = l; short = h; some = omega arith; rest = rises (suc s) q qs (record { low = omega arith; short = r.short; some = r.some; rest = r.rest }) })))
    (λ d.
    let k = ltb-false s q.second d in
    let n = eqb-false s q.second e in
    let a : suc q.second ≤ s = by_test (leb s q.second) (λ f. absurd (n (let g = leb-true s q.second f in omega arith))) (λ f. let g = leb-false s q.second f in omega arith) in
    simp (e, d)
    (rises least q (add_pair s qs) (record { low = r.low; short = r.short; some = r.some; rest = add_sound (suc q.second) s qs a h r.rest }))))

-- ---- "A draw given back lowers its pair; a pair at 0 goes"
pub length_lower : (s : ℕ) (qs : List Pair) → length (lower_pair s qs) ≤ length qs
unfolding lower_pair
length_lower s [] = omega arith
length_lower s (q ∷ qs) =
    by_test (eqb s q.second)
    (λ e. by_test (leb q.count 1) (λ d. simp (e, d) (omega arith)) (λ d. simp (e, d) (omega arith)))
    (λ e. simp e (omega (arith, length_lower s qs)))

pub total_lower_le : (s : ℕ) (qs : List Pair) → total (lower_pair s qs) ≤ total qs
unfolding lower_pair total
total_lower_le s [] = omega arith
total_lower_le s (q ∷ qs) =
    by_test (eqb s q.second)
    (λ e. by_test (leb q.count 1) (λ d. simp (e, d) (omega arith)) (λ d. simp (e, d) (omega arith)))
    (λ e. simp e (omega (arith, total_lower_le s qs)))

pub total_lower : (least s : ℕ) (qs : List Pair) → pairs_sound least qs ≡ true → listed s qs ≡ true → suc (total (lower_pair s qs)) ≡ total qs
unfolding lower_pair total listed
total_lower least s [] p t = no (cc)
total_lower least s (q ∷ qs) p t =
    let r = rising least q qs p in
    by_test (eqb s q.second)
    (λ e. by_test (leb q.count 1)
    (λ d. let k = leb-true q.count 1 d in simp (e, d) (omega arith))
    (λ d. let k = leb-false q.count 1 d in simp (e, d) (omega arith)))
    (λ e. simp e (omega (arith, total_lower (suc q.second) s qs r.rest (rw e at t))))

pub lower_sound : (least s : ℕ) (qs : List Pair) → pairs_sound least qs ≡ true → pairs_sound least (lower_pair s qs) ≡ true
unfolding lower_pair
lower_sound least s [] p = p
lower_sound least s (q ∷ qs) p =
    let r = rising least q qs p in
    by_test (eqb s q.second)
    (λ e. by_test (leb q.count 1)
    (λ d. simp (e, d) (sound_from least (suc q.second) qs (let k = r.low in omega arith) r.rest))
    (λ d.
    let k = leb-false q.count 1 d in
    simp (e, d)
    (rises least (record { second = q.second; count = q.count - 1 }) qs (record { low = r.low; short = r.short; some = omega arith; rest = r.rest }))))
    (λ e.
    simp e
    (rises least q (lower_pair s qs) (record { low = r.low; short = r.short; some = r.some; rest = lower_sound (suc q.second) s qs r.rest })))

-- a draw given back leaves the pairs as they were
pub lower_add : (least s : ℕ) (qs : List Pair) → pairs_sound least qs ≡ true → lower_pair s (add_pair s qs) ≡ qs
unfolding lower_pair add_pair
lower_add least s [] p = simp (eq-eqb s s refl)
lower_add least s (q ∷ qs) p =
    let r = rising least q qs p in
    by_test (eqb s q.second)
    (λ e.
    let c = lt-leb (suc q.count) 1 (let k = r.some in omega arith) in
    let d : suc q.count - 1 ≡ q.count = omega arith in
    simp (e, c, d))
    (λ e. by_test (ltb s q.second)
    (λ d. simp (e, d, eq-eqb s s refl))
    (λ d. simp (e, d) (ap (λ (l : List Pair). q ∷ l) (lower_add (suc q.second) s qs r.rest))))

-- ---- "pairs with smaller seconds go"
pub length_later : (t : ℕ) (qs : List Pair) → length (later_pairs t qs) ≤ length qs
unfolding later_pairs
length_later t [] = omega arith
length_later t (q ∷ qs) =
    by_test (ltb q.second t)
    (λ e. simp e (omega (arith, length_later t qs)))
    (λ e. simp e (omega (arith, length_later t qs)))

pub total_later : (t : ℕ) (qs : List Pair) → total (later_pairs t qs) ≤ total qs
unfolding later_pairs total
total_later t [] = omega arith
total_later t (q ∷ qs) =
    by_test (ltb q.second t)
    (λ e. simp e (omega (arith, total_later t qs)))
    (λ e. simp e (omega (arith, total_later t qs)))

pub later_sound : (least t : ℕ) (qs : List Pair) → pairs_sound least qs ≡ true → pairs_sound least (later_pairs t qs) ≡ true
unfolding later_pairs
later_sound least t [] p = p
later_sound least t (q ∷ qs) p =
    let r = rising least q qs p in
    let s = later_sound (suc q.second) t qs r.rest in
    by_test (ltb q.second t)
    (λ e. simp e (sound_from least (suc q.second) (later_pairs t qs) (let k = r.low in omega arith) s))
    (λ e. simp e (rises least q (later_pairs t qs) (record { low = r.low; short = r.short; some = r.some; rest = s })))
