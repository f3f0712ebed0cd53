-- Laws on numbers behind the leaf functions: first stamps, rounding up, and windows judged by differences.
use Prim.Native.Nat.{ℕ, suc, ◌+◌, ◌-◌, ◌*◌, ◌/◌, ◌%◌, ◌<◌, ◌≤◌, min}
use native.Mathlib.Nat.{div-zero, div-add-mod', mul-add-div_right, div-eq_of_lt, mod-lt, mul-le-mul_left, mul-zero, suc-mul}
use native.Mathlib.Omega.{arith}
use mathlib.Core.Path.{◌≡◌, refl, sym, ◌∙◌, ap}
use mathlib.Core.Bool.{false}
use lib.Dec.{leb, ltb, eqb}
use borrow.Author.Tests.{eqb-true, eqb-false, leb-true, leb-false, le-leb, ltb-true, ltb-false, lt-ltb, le-ltb}
use Rattle.runs.proofs.Cases.{by_test}
use Rattle.model.specs.declared.Usable.{Usable}
use Rattle.model.specs.declared.Window.{Window}
use Rattle.model.specs.Numbers.{top64, cap64, ceil}
use Rattle.model.specs.Settings.{retained}
use Rattle.model.specs.Judge.{in_window, front_past}
use Rattle.model.specs.Stamp.{first_stamp}

-- ---- the first stamp of a bucket, which is one for all buckets from 2^64 − 1 on
end_capped : (b w : ℕ) → cap64 (cap64 ((cap64 b - 1) * w) + 1) ≡ cap64 (cap64 ((b - 1) * w) + 1)
unfolding cap64
end_capped b w =
    by_test (leb b top64) (λ e. let h = leb-true b top64 e in let k : min b top64 ≡ b = omega arith in rw k)
    (λ e.
    let h = leb-false b top64 e in
    let k : min b top64 ≡ top64 = omega arith in
    by_test (leb w 0) (λ d. let z : w ≡ 0 = let l = leb-true w 0 d in omega arith in rw (k, z, mul-zero) refl)
    (λ d.
    let some : 1 ≤ w = leb-false w 0 d in
    let far = mul-le-mul_left (b - 1) some in
    rw k (omega (arith, far))))

pub first_is : (u : Usable) (b : ℕ) → min (min ((min b top64 - 1) * u.bucket) top64 + 1) top64 - retained u ≡ first_stamp u b
unfolding first_stamp cap64
first_is u b = let e = end_capped b u.bucket in rw e

-- ---- rounded up
pub ceil_by_zero : (n d : ℕ) → d ≡ 0 → 0 ≡ ceil n d
unfolding ceil
ceil_by_zero n d e = rw e (sym (div-zero (n + (0 - 1))))

module _ (n d : ℕ) (h : (d ≡ 0) → ⊥) where
  d_positive : 0 < d
  d_positive = by_test (leb 1 d) (λ t. leb-true 1 d t) (λ t. absurd (h (let k = leb-false 1 d t in omega arith)))

  pub ceil_even : n % d ≡ 0 → n / d ≡ ceil n d
  unfolding ceil
  ceil_even e =
      let p = d_positive in
      let k : n + (d - 1) ≡ n / d * d + (d - 1) = let q = div-add-mod' n d in omega arith in
      let z : (d - 1) / d ≡ 0 = div-eq_of_lt (omega arith) in
      sym (ap (λ (m : ℕ). m / d) k ∙ mul-add-div_right p (n / d) (d - 1) ∙ rw z (omega arith))

  pub ceil_odd : (n % d ≡ 0 → ⊥) → n / d + 1 ≡ ceil n d
  unfolding ceil
  ceil_odd e =
      let p = d_positive in
      let l = mod-lt n {m = d} p in
      let r : 0 < n % d = by_test (leb 1 (n % d)) (λ t. leb-true 1 (n % d) t) (λ t. absurd (e (let k = leb-false 1 (n % d) t in omega arith))) in
      let s = suc-mul (n / d) d in
      let k : n + (d - 1) ≡ suc (n / d) * d + (n % d - 1) = let q = div-add-mod' n d in omega arith in
      let z : (n % d - 1) / d ≡ 0 = div-eq_of_lt (omega arith) in
      sym (ap (λ (m : ℕ). m / d) k ∙ mul-add-div_right p (suc (n / d)) (n % d - 1) ∙ rw z (omega arith))

  pub ceil_is : n / d + min 1 (n % d) ≡ ceil n d
  ceil_is =
      by_test (eqb (n % d) 0) (λ t. let e = eqb-true (n % d) 0 t in rw e (let k = ceil_even e in omega arith))
      (λ t. let e = eqb-false (n % d) 0 t in let k = ceil_odd e in omega arith)

-- ---- two tests that hold together
same_test : (a b c d : ℕ) → (a ≤ b → c ≤ d) → (c ≤ d → a ≤ b) → leb a b ≡ leb c d
same_test a b c d f g =
    by_test (leb a b) (λ t. t ∙ sym (le-leb c d (f (leb-true a b t))))
    (λ t. by_test (leb c d) (λ u. absurd (let k = leb-false a b t in let l = g (leb-true c d u) in omega arith)) (λ u. t ∙ sym u))

module _ (w : Window) (stamp ms : ℕ) where
  pub window_behind : stamp ≤ ms → leb (ms - stamp) w.behind ≡ in_window w stamp ms
  unfolding in_window
  window_behind h =
      let a = le-leb stamp (ms + w.ahead) (omega arith) in
      let b = same_test (ms - stamp) w.behind ms (stamp + w.behind) (λ k. omega arith) (λ k. omega arith) in
      rw (a, b) (by_test (leb ms (stamp + w.behind)) (λ t. rw t) (λ t. rw t))

  pub window_ahead : ms < stamp → leb (stamp - ms) w.ahead ≡ in_window w stamp ms
  unfolding in_window
  window_ahead h =
      let a = le-leb ms (stamp + w.behind) (omega arith) in
      let b = same_test (stamp - ms) w.ahead stamp (ms + w.ahead) (λ k. omega arith) (λ k. omega arith) in
      rw (a, b)

  pub front_not : stamp ≤ ms → false ≡ front_past w stamp ms
  unfolding front_past
  front_not h = sym (le-ltb (ms + w.ahead) stamp (omega arith))

  pub front_by : ms < stamp → ltb w.ahead (stamp - ms) ≡ front_past w stamp ms
  unfolding front_past
  front_by h =
      by_test (ltb w.ahead (stamp - ms)) (λ t. t ∙ sym (lt-ltb (ms + w.ahead) stamp (let k = ltb-true w.ahead (stamp - ms) t in omega arith)))
      (λ t. t ∙ sym (le-ltb (ms + w.ahead) stamp (let k = ltb-false w.ahead (stamp - ms) t in omega arith)))
