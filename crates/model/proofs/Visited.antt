-- What a sweep leaves at each position, without walking. Assumes nothing.
use Prim.Native.Nat.{ℕ, zero, suc, ◌+◌, ◌-◌, ◌*◌, ◌/◌, ◌%◌, ◌≤◌, ◌<◌}
use native.Mathlib.Omega.{arith}
use native.Mathlib.Nat.{mod-eq_of_lt, mod-add-div, add-mul-mod_self_left, zero-mod}
use mathlib.Core.Path.{◌≡◌, refl, sym, ◌∙◌}
use mathlib.Core.Bool.{Bool, false, cond, ◌&&◌, ◌||◌}
use lib.Dec.{leb, ltb, eqb}
use lib.ListN.{length, get_or, length-set}
use lib.Seq.{get_or-set_same, get_or-set_other}
use borrow.Author.Tests.{eqb-true, eqb-false, eq-eqb, ne_eqb, leb-true, leb-false, lt-ltb, le-ltb, ltb-true, ltb-false}
use Rattle.runs.proofs.Cases.{by_test}
use Rattle.model.specs.Generation.{Generation, empty, count, dropped}
use Rattle.model.specs.Register.{generation_at, passed, Swept, visit, visits}

-- ---- numbers with one remainder
pub shift_back : (n t c k : ℕ) → c ≤ t → k ≤ t → (t - c) % n ≡ k → (t - k) % n ≡ c % n
shift_back n t c k h l e =
    let d = mod-add-div (t - c) n in
    let q : t - k ≡ c + n * ((t - c) / n) = omega (arith, d, e) in
    rw q (add-mul-mod_self_left c n ((t - c) / n))

module _ (n : ℕ) where
  times_more : (a b d : ℕ) → a ≡ b + d → n * a ≡ n * b + n * d
  times_more a b d e = rw e (omega arith)

pub shift : (n t c k : ℕ) → c ≤ t → k ≤ t → k < n → (t - k) % n ≡ c % n → (t - c) % n ≡ k
shift n t c k h l s e =
    let x = (t - k) / n in
    let y = c / n in
    let dx = mod-add-div (t - k) n in
    let dc = mod-add-div c n in
    by_test (leb y x)
    (λ p.
    let o = leb-true y x p in
    let m = times_more n x y (x - y) (omega arith) in
    let q : t - c ≡ k + n * (x - y) = omega (arith, dx, dc, e, m) in
    rw q (add-mul-mod_self_left k n (x - y) ∙ mod-eq_of_lt s))
    (λ p.
    let o = leb-false y x p in
    let m = times_more n y x (suc (y - suc x)) (omega arith) in
    let z = times_more n (suc (y - suc x)) 1 (y - suc x) (omega arith) in
    absurd (omega (arith, dx, dc, e, m, z)))

-- two numbers less than n apart that have one remainder are one
pub same_near : (n a b : ℕ) → a ≤ b → b < a + n → a % n ≡ b % n → a ≡ b
same_near n a b h l e =
    let t : b - (b - a) ≡ a = omega arith in
    let z : (b - b) % n ≡ b - a = shift n b b (b - a) (omega arith) (omega arith) (omega arith) (rw t e) in
    let y : b - b ≡ 0 = omega arith in
    let x = rw y at z in
    let w = zero-mod n in
    omega (arith, x, w)

below_next : (m k : ℕ) → (m ≡ k → ⊥) → ltb m k ≡ ltb m (suc k)
below_next m k q =
    by_test (ltb m k) (λ a. rw (a, lt-ltb m (suc k) (omega (arith, ltb-true m k a)))) (λ a. rw (a, le-ltb m (suc k) (omega (arith, ltb-false m k a, q))))

-- ---- the positions of k buckets from b on
unfoldable pub visited : ℕ → ℕ → ℕ → ℕ → Bool
visited zero b n p = false
visited (suc k) b n p = eqb (b % n) p || visited k (suc b) n p

-- of a bucket c before the last of them, by one remainder
pub visited_is : (k b n c : ℕ) → k ≤ n → c < b + k → visited k b n (c % n) ≡ ltb ((b + k - 1 - c) % n) k
unfolding visited
visited_is zero b n c h l = sym (le-ltb ((b + 0 - 1 - c) % n) 0 (omega arith))
visited_is (suc k) b n c h l =
    let ih = visited_is k (suc b) n c (omega arith) (omega arith) in
    let e1 : suc b + k - 1 - c ≡ b + k - c = omega arith in
    let e2 : b + suc k - 1 - c ≡ b + k - c = omega arith in
    let e3 : b + k - k ≡ b = omega arith in
    let m = (b + k - c) % n in
    by_test (eqb m k)
    (λ p.
    let q = eqb-true m k p in
    let s = shift_back n (b + k) c k (omega arith) (omega arith) q in
    let t : b % n ≡ c % n = rw e3 at s in
    rw (eq-eqb (b % n) (c % n) t, e2, lt-ltb m (suc k) (omega (arith, q))))
    (λ p.
    let q = eqb-false m k p in
    let t : b % n ≡ c % n → ⊥ = λ w. q (shift n (b + k) c k (omega arith) (omega arith) (omega arith) (rw e3 w)) in
    rw (ne_eqb (b % n) (c % n) t, ih, e1, e2)
    (below_next m k q))

-- ---- what one visit, and all, leave at position p
pub dropped_stays : (through : ℕ) (g : Generation) → passed through (dropped g) ≡ false
unfolding passed dropped count
dropped_stays through g = by_test (ltb g.bucket through) (λ e. rw e refl) (λ e. rw e refl)

abbrev pub left_at : Bool → ℕ → Generation → Generation
left_at seen through g = cond (seen && passed through g) (dropped g) g

pub visit_long : (through b : ℕ) (w : Swept) → length (visit through b w).ring ≡ length w.ring
unfolding visit
visit_long through b w =
    by_test (passed through (generation_at w.ring b)) (λ e. rw e (length-set w.ring (b % length w.ring) (dropped (generation_at w.ring b)))) (λ e. rw e refl)

pub visit_at : (through b p : ℕ) (w : Swept) → p < length w.ring
    → get_or (visit through b w).ring p empty ≡ left_at (eqb (b % length w.ring) p) through (get_or w.ring p empty)
unfolding visit
visit_at through b p w h =
    let n = length w.ring in
    by_test (eqb (b % n) p)
    (λ same.
    let i = eqb-true (b % n) p same in
    by_test (passed through (get_or w.ring p empty))
    (λ e. rw (same, i, e) (get_or-set_same w.ring p (dropped (get_or w.ring p empty)) empty h))
    (λ e. rw (same, i, e) refl))
    (λ other.
    let d = eqb-false (b % n) p other in
    by_test (passed through (generation_at w.ring b))
    (λ e. rw (e, other) (get_or-set_other w.ring (b % n) p (dropped (generation_at w.ring b)) empty (λ z. d (sym z))))
    (λ e. rw (e, other) refl))

pub visits_at : (k through b p : ℕ) (w : Swept) → p < length w.ring
    → get_or (visits k through b w).ring p empty ≡ left_at (visited k b (length w.ring) p) through (get_or w.ring p empty)
unfolding visits visited
visits_at zero through b p w h = refl
visits_at (suc k) through b p w h =
    let n = length w.ring in
    let g = get_or w.ring p empty in
    let long = visit_long through b w in
    let ih = visits_at k through (suc b) p (visit through b w) (omega (arith, long)) in
    ih ∙ rw (long, visit_at through b p w h)
    (by_test (eqb (b % n) p)
    (λ same. by_test (passed through g)
    (λ e. rw (same, e, dropped_stays through g) (by_test (visited k (suc b) n p) (λ v. rw v refl) (λ v. rw v refl)))
    (λ e. rw (same, e) (by_test (visited k (suc b) n p) (λ v. rw (v, e) refl) (λ v. rw v refl))))
    (λ other. rw other refl))

pub visits_long : (k through b : ℕ) (w : Swept) → length (visits k through b w).ring ≡ length w.ring
unfolding visits
visits_long zero through b w = refl
visits_long (suc k) through b w = visits_long k through (suc b) (visit through b w) ∙ visit_long through b w
