-- Clocks that never fall: where every held bucket lies within a ring's length of the swept one, no two share a position. Assumes nothing.
use Prim.Native.Nat.{ℕ, ◌+◌, ◌-◌, ◌*◌, ◌/◌, ◌%◌, ◌≤◌, ◌<◌, max, min}
use native.Mathlib.Omega.{arith}
use native.Mathlib.Nat.{mod-lt, mod-eq_of_lt, div-lt_iff_lt-mul, lt-mul-div-succ, mul-le-mul_left}
use mathlib.Core.Path.{◌≡◌, refl, sym, ◌∙◌, ap, subst}
use mathlib.Core.Bool.{Bool, true, false, ◌&&◌}
use Rattle.std.specs.Prelude.{Option}
use lib.Dec.{leb, eqb}
use lib.ListN.{length, get_or, set, replicate, length-set, length-replicate, get_or-replicate}
use lib.Seq.{get_or-set_same, get_or-set_other}
use borrow.Author.Tests.{eqb-true, eqb-false, eq-eqb, ne_eqb, leb-true, leb-false, lt-ltb}
use Rattle.runs.proofs.Cases.{by_test, split_if}
use Rattle.model.specs.declared.Usable.{Usable}
use Rattle.model.specs.declared.Window.{Window}
use Rattle.model.specs.Settings.{retained, ahead, ring_of}
use Rattle.model.specs.Generation.{Generation, empty, held, count, dropped}
use Rattle.model.specs.Register.{Ring, generation_at, with_generation, passed, Swept, sweep_ring, through_of}
use Rattle.model.specs.Numbers.{ceil, cap64, top64}
use Rattle.model.specs.Judge.{collides, bucket_of}
use Rattle.model.specs.Windows.{Holds}
use Rattle.model.proofs.Choice.{true_false}
use Rattle.model.proofs.Visited.{same_near, visited, visited_is, left_at, visits_at, visits_long}

next_times : (q d : ℕ) → (q + 1) * d ≡ q * d + d
next_times q d = omega arith

-- a held bucket is from the swept one on and below a limit, and has its position
pub record Near (n swept limit p : ℕ) (g : Generation) : Type 0 where
  pub from : swept ≤ g.bucket
  pub below : g.bucket < limit
  pub placed : g.bucket % n ≡ p

pub record Within (n swept limit : ℕ) (ring : Ring) : Type 0 where
  pub long : length ring ≡ n
  pub near : (p : ℕ) → p < n → (held (get_or ring p empty) ≡ 0 → ⊥) → Near n swept limit p (get_or ring p empty)

-- it holds from a lower one on, and below a higher limit
pub wider : (n swept limit low high : ℕ) (ring : Ring) → low ≤ swept → limit ≤ high → Within n swept limit ring → Within n low high ring
wider n swept limit low high ring l h w = record {
  long = w.long;
  near = λ p e z. let q = w.near p e z in
      let a = q.from in
      let b = q.below in
      record { from = omega arith; below = omega arith; placed = q.placed };
}

some_ring : (n : ℕ) (ring : Ring) → 0 < n → length ring ≡ n → 0 < length ring
some_ring n ring pos z = omega arith

-- ---- no clash, where the limit is at most a ring's length above the swept one
pub no_clash : (n swept limit b : ℕ) (ring : Ring) → 0 < n → limit ≤ swept + n → Within n swept limit ring → swept ≤ b → b < swept + n
    → collides b (generation_at ring b) ≡ false
unfolding collides
no_clash n swept limit b ring pos near w l h =
    let g = generation_at ring b in
    by_test (eqb (held g) 0) (λ e. by_test (eqb g.bucket b) (λ d. rw d refl) (λ d. rw (d, e) refl))
    (λ e.
    let z = w.long in
    let q = w.near (b % length ring) (omega (arith, mod-lt b (some_ring n ring pos z))) (eqb-false (held g) 0 e) in
    let same : g.bucket % n ≡ b % n = q.placed ∙ ap (λ (m : ℕ). b % m) z in
    let fr = q.from in
    let be = q.below in
    let is : g.bucket ≡ b =
    by_test (leb g.bucket b)
    (λ o. same_near n g.bucket b (leb-true g.bucket b o) (omega arith) same)
    (λ o. let u = leb-false g.bucket b o in sym (same_near n b g.bucket (omega arith) (omega arith) (sym same))) in
    rw (eq-eqb g.bucket b is) refl)

-- ---- a strike in a bucket that is near keeps it
pub struck_within : (n swept limit b : ℕ) (ring : Ring) (g : Generation) → g.bucket ≡ b → 0 < n → swept ≤ b → b < limit → Within n swept limit ring
    → Within n swept limit (with_generation ring b g)
struck_within n swept limit b ring g is pos l h w =
    let z = w.long in
    let at = b % length ring in
    record {
      long = length-set ring at g ∙ z;
      near = λ p e.
          by_test (eqb p at)
          (λ t.
          let i : p ≡ at = eqb-true p at t in
          let same : get_or (set ring at g) p empty ≡ g = ap (λ (j : ℕ). get_or (set ring at g) j empty) i ∙ get_or-set_same ring at g empty (mod-lt b (some_ring n ring pos z)) in
          let placed : g.bucket % n ≡ p = ap (λ (x : ℕ). x % n) is ∙ ap (λ (m : ℕ). b % m) (sym z) ∙ sym i in
          λ q. subst (λ (x : Generation). Near n swept limit p x) (sym same) (record { from = omega arith; below = omega arith; placed = placed }))
          (λ t. subst (λ (x : Generation). (held x ≡ 0 → ⊥) → Near n swept limit p x) (sym (get_or-set_other ring at p g empty (eqb-false p at t))) (w.near p e));
    }

-- ---- a ring that holds nothing has it
pub empty_within : (n limit : ℕ) → Within n 0 limit (replicate n empty)
unfolding count
empty_within n limit = record {
  long = length-replicate n empty;
  near = λ p h. subst (λ (x : Generation). (held x ≡ 0 → ⊥) → Near n 0 limit p x) (sym (get_or-replicate n p empty empty h)) (λ z. absurd (z refl));
}

-- ---- a sweep forward keeps it, where it starts no later than "max(swept, through − ring)" and visits no position twice
module _ (n swept limit through from : ℕ) (pos : 0 < n) (on : swept ≤ through) (early : from ≤ max swept (through - n)) (few : through - from ≤ n) where
  -- a bucket that the sweep passes is at a position that it visits
  seen : (c : ℕ) → swept ≤ c → c < through → visited (through - from) from n (c % n) ≡ true
  seen c l h =
      let k = through - from in
      let t : from + k ≡ through = omega arith in
      let i = visited_is k from n c few (omega arith) in
      i ∙ by_test (leb from c)
      (λ o.
      let u = leb-true from c o in
      let v : from + k - 1 - c < n = omega (arith, t, few) in
      rw (mod-eq_of_lt v) (lt-ltb (from + k - 1 - c) k (omega (arith, t))))
      (λ o.
      let u = leb-false from c o in
      let w : k ≡ n = omega (arith, t) in
      lt-ltb ((from + k - 1 - c) % n) k (omega (arith, w, mod-lt (from + k - 1 - c) pos)))

  near_on : (p : ℕ) (g : Generation) → Near n swept limit p g → through ≤ g.bucket → Near n through limit p g
  near_on p g q h = record { from = h; below = q.below; placed = q.placed }

  is_passed : (g : Generation) → g.bucket < through → (held g ≡ 0 → ⊥) → passed through g ≡ true
  unfolding passed
  is_passed g h e = rw (lt-ltb g.bucket through h, ne_eqb (held g) 0 e) refl

  nothing : (g : Generation) → held (dropped g) ≡ 0
  unfolding dropped count
  nothing g = refl

  -- what is left at a position
  left_near : (s : Bool) (p : ℕ) (g : Generation) → ((held g ≡ 0 → ⊥) → Near n swept limit p g)
      → (swept ≤ g.bucket → g.bucket < through → g.bucket % n ≡ p → s ≡ true)
      → (held (left_at s through g) ≡ 0 → ⊥) → Near n through limit p (left_at s through g)
  left_near s p g near all =
      split_if (λ (x : Generation). (held x ≡ 0 → ⊥) → Near n through limit p x) (s && passed through g)
      (λ e z. absurd (z (nothing g)))
      (λ e z.
      let q = near z in
      by_test (leb through g.bucket) (λ o. near_on p g q (leb-true through g.bucket o))
      (λ o.
      let u = leb-false through g.bucket o in
      let a = all q.from u q.placed in
      true_false (rw (a, is_passed g u z) refl) e))

  pub sweep_within : (f : Option ℕ) (ring : Ring) → Within n swept limit ring
      → Within n through limit (sweep_ring from through f ring).ring
  unfolding sweep_ring
  sweep_within f ring w =
      let start : Swept = record { floor = f; ring = ring } in
      record {
        long = visits_long (through - from) through from start ∙ w.long;
        near = λ p h.
            let l = w.long in
            let at = visits_at (through - from) through from p start (omega (arith, l)) in
            subst (λ (x : Generation). (held x ≡ 0 → ⊥) → Near n through limit p x) (sym at)
            (left_near (visited (through - from) from (length ring) p) p (get_or ring p empty) (w.near p h)
            (λ a b c. subst (λ (m : ℕ). visited (through - from) from m p ≡ true) (sym l)
            (subst (λ (x : ℕ). visited (through - from) from n x ≡ true) c (seen (get_or ring p empty).bucket a b))));
      }

span_times : (x d : ℕ) → 0 < d → x ≤ x * d
span_times x d pos = let m = mul-le-mul_left {m = 1} {n = d} x pos in omega (arith, m)

-- ---- rounding up
pub ceil_least : (x d q : ℕ) → 0 < d → x ≤ q * d → ceil x d ≤ q
unfolding ceil
ceil_least x d q pos h =
    let m : x + (d - 1) < (q + 1) * d = omega (arith, next_times q d) in
    let l : (x + (d - 1)) / d < q + 1 = (div-lt_iff_lt-mul pos).1 m in
    omega arith

pub ceil_covers : (x d : ℕ) → 0 < d → x ≤ ceil x d * d
unfolding ceil
ceil_covers x d pos =
    let q = (x + (d - 1)) / d in
    let l = lt-mul-div-succ (x + (d - 1)) pos in
    let m : d * (q + 1) ≡ q * d + d = omega arith in
    omega (arith, l, m)

pub ceil_mono : (x y d : ℕ) → 0 < d → x ≤ y → ceil x d ≤ ceil y d
ceil_mono x y d pos h = ceil_least x d (ceil y d) pos (omega (arith, ceil_covers y d pos))

ceil_sum : (x y d : ℕ) → 0 < d → ceil (x + y) d ≤ ceil x d + ceil y d
ceil_sum x y d pos =
    let a = ceil_covers x d pos in
    let b = ceil_covers y d pos in
    let m : (ceil x d + ceil y d) * d ≡ ceil x d * d + ceil y d * d = omega arith in
    ceil_least (x + y) d (ceil x d + ceil y d) pos (omega (arith, m))

-- ---- the buckets of a window: from the reading's own on, and fewer than the ring has positions. A reading of 64 bits is enough: the
-- cap of a bucket, at 2^64 − 1, is no less than the reading
pub record Ahead (u : Usable) (ms stamp : ℕ) : Type 0 where
  pub from : through_of u ms ≤ bucket_of u stamp
  pub below : bucket_of u stamp < through_of u ms + ring_of u

pub window_buckets : (u : Usable) (w : Window) (stamp ms : ℕ) → 0 < u.bucket → w.behind ≤ retained u → w.ahead ≤ ahead u
    → retained u + ahead u ≤ 7_200_000 → ms ≤ top64 → Holds w stamp ms → Ahead u ms stamp
unfolding through_of bucket_of ring_of cap64
window_buckets u w stamp ms pos behind front small fits h =
    let a = h.not_behind in
    let b = h.not_ahead in
    let d = u.bucket in
    let span = retained u + ahead u in
    let low = ceil_mono ms (min (stamp + retained u) top64) d pos (omega arith) in
    let high = ceil_mono (min (stamp + retained u) top64) (ms + span) d pos (omega arith) in
    let sum = ceil_sum ms span d pos in
    let capped : min span top64 ≡ span = omega arith in
    let least = ceil_least span d span pos (span_times span d pos) in
    record { from = low; below = rw capped (omega (arith, high, sum, least)) }
