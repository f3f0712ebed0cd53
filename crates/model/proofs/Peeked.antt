-- The floor that a sweep would leave, read off the ring as it is: no generation has to be dropped for it. Assumes nothing.
use Prim.Native.Nat.{ℕ, zero, suc, ◌%◌, ◌<◌, max}
use native.Mathlib.Omega.{arith}
use native.Mathlib.Nat.{mod-lt}
use mathlib.Core.Path.{◌≡◌, refl, sym, ◌∙◌, ap}
use mathlib.Core.Bool.{Bool, true, false, cond}
use Rattle.std.specs.Prelude.{Option, Some, None}
use lib.Dec.{eqb}
use lib.ListN.{length, get_or, set, length-set}
use lib.Seq.{get_or-set_same, get_or-set_other}
use borrow.Author.Tests.{eqb-true, eqb-false}
use Rattle.runs.proofs.Cases.{by_test, no}
use Rattle.model.specs.Numbers.{raise}
use Rattle.model.specs.Generation.{Generation, empty, dropped}
use Rattle.model.specs.Register.{Ring, generation_at, with_generation, passed, Swept, visit, visits}
use Rattle.model.proofs.Visited.{dropped_stays}

-- a floor raised by one generation, if a sweep up to `through` would drop it; and by those of k buckets from b on
abbrev pub peek : ℕ → Generation → Option ℕ → Option ℕ
peek through g f = cond (passed through g) (raise f g.newest) f

unfoldable pub peeks : ℕ → ℕ → ℕ → Ring → Option ℕ → Option ℕ
peeks zero through b ring f = f
peeks (suc k) through b ring f = peeks k through (suc b) ring (peek through (generation_at ring b) f)

-- ---- a floor that a number does not raise
high_stays : (m n : ℕ) (f : Option ℕ) → raise f m ≡ f → raise (raise f n) m ≡ raise f n
unfolding raise
high_stays m n None e = no (cc)
high_stays m n (Some a) e =
    let h : max a m ≡ a = cc in
    let z : max (max a n) m ≡ max a n = omega (arith, h) in
    ap Some z

twice_raised : (m : ℕ) (f : Option ℕ) → raise (raise f m) m ≡ raise f m
unfolding raise
twice_raised m None = let z : max m m ≡ m = omega arith in ap Some z
twice_raised m (Some a) = let z : max (max a m) m ≡ max a m = omega arith in ap Some z

peek_high : (through m : ℕ) (g : Generation) (f : Option ℕ) → raise f m ≡ f → raise (peek through g f) m ≡ peek through g f
peek_high through m g f e = by_test (passed through g) (λ p. rw p (high_stays m g.newest f e)) (λ p. rw p e)

-- ---- a generation whose newest stamp the floor has reached counts no more, so it is the same whether it was dropped
peeks_drop : (k through b i : ℕ) (ring : Ring) (f : Option ℕ) → i < length ring → passed through (get_or ring i empty) ≡ true
    → raise f (get_or ring i empty).newest ≡ f → peeks k through b (set ring i (dropped (get_or ring i empty))) f ≡ peeks k through b ring f
unfolding peeks
peeks_drop zero through b i ring f h p e = refl
peeks_drop (suc k) through b i ring f h p e =
    let n = length ring in
    let g = get_or ring i empty in
    by_test (eqb (b % n) i)
    (λ same.
    let j = eqb-true (b % n) i same in
    rw (length-set ring i (dropped g), j, get_or-set_same ring i (dropped g) empty h, dropped_stays through g, p, e)
    (peeks_drop k through (suc b) i ring f h p e))
    (λ other.
    let d = eqb-false (b % n) i other in
    let there = get_or ring (b % n) empty in
    rw (length-set ring i (dropped g), get_or-set_other ring i (b % n) (dropped g) empty d)
    (peeks_drop k through (suc b) i ring (peek through there f) h p (peek_high through g.newest there f e)))

-- ---- one visit, by its test
module _ (through b : ℕ) (w : Swept) where
  abbrev there : Generation
  there = generation_at w.ring b

  pub visit_passed : passed through there ≡ true
      → visit through b w ≡ record { floor = raise w.floor there.newest; ring = with_generation w.ring b (dropped there) }
  unfolding visit
  visit_passed e = rw e

  pub visit_left : passed through there ≡ false → visit through b w ≡ w
  unfolding visit
  visit_left e = rw e

-- ---- the floor after all visits is the one that was read
pub visits_floor : (k through b : ℕ) (w : Swept) → 0 < length w.ring → (visits k through b w).floor ≡ peeks k through b w.ring w.floor
unfolding visits peeks
visits_floor zero through b w pos = refl
visits_floor (suc k) through b w pos =
    let ring = w.ring in
    let i = b % length ring in
    let g = get_or ring i empty in
    let high = raise w.floor g.newest in
    by_test (passed through g)
    (λ p. ap (λ (x : Swept). (visits k through (suc b) x).floor) (visit_passed through b w p)
    ∙ visits_floor k through (suc b) (record { floor = high; ring = set ring i (dropped g) }) (rw (length-set ring i (dropped g)) pos)
    ∙ peeks_drop k through (suc b) i ring high (mod-lt b pos) p (twice_raised g.newest w.floor)
    ∙ ap (λ (t : Bool). peeks k through (suc b) ring (cond t high w.floor)) (sym p))
    (λ p. ap (λ (x : Swept). (visits k through (suc b) x).floor) (visit_left through b w p)
    ∙ visits_floor k through (suc b) w pos
    ∙ ap (λ (t : Bool). peeks k through (suc b) ring (cond t high w.floor)) (sym p))
