-- The bucket of a stamp changes at the first stamp of a bucket alone (`first_stamp`, specs/Stamp). Assumes nothing.
use Prim.Native.Nat.{ℕ, ◌+◌, ◌-◌, ◌*◌, ◌≤◌, ◌<◌, min}
use native.Mathlib.Omega.{arith}
use native.Mathlib.Nat.{mul-le-mul_right}
use mathlib.Core.Path.{◌≡◌, sym, ◌∙◌}
use lib.Dec.{leb}
use borrow.Author.Tests.{leb-true, leb-false, le-leb, lt-leb}
use Rattle.runs.proofs.Cases.{by_test}
use Rattle.model.specs.declared.Usable.{Usable}
use Rattle.model.specs.Settings.{retained}
use Rattle.model.specs.Numbers.{ceil, cap64, top64}
use Rattle.model.specs.Judge.{bucket_of}
use Rattle.model.specs.Stamp.{first_stamp}
use Rattle.model.proofs.Steady.{ceil_least, ceil_covers}

-- b ≤ ceil x d exactly if (b - 1) * d < x
reaches : (b x d : ℕ) → 0 < d → (b - 1) * d < x → b ≤ ceil x d
reaches b x d pos h =
    by_test (leb b (ceil x d)) (λ e. leb-true b (ceil x d) e)
    (λ e.
    let l = leb-false b (ceil x d) e in
    let low : ceil x d ≤ b - 1 = omega arith in
    let m = mul-le-mul_right d low in
    absurd (omega (arith, m, ceil_covers x d pos)))

stays_below : (b x d : ℕ) → 0 < d → x ≤ (b - 1) * d → 0 < b → ceil x d < b
stays_below b x d pos h l = omega (arith, ceil_least x d (b - 1) pos h)

-- a sum with a cap that has not passed m at x has not passed it at y, where no first stamp lies between the two
capped_still : (m k x y : ℕ) → x ≤ y → y ≤ top64 → min (x + k) top64 ≤ m
    → (x < min (min m top64 + 1) top64 - k → y < min (min m top64 + 1) top64 - k) → min (y + k) top64 ≤ m
capped_still m k x y h top v q =
    by_test (leb top64 m) (λ e. let o = leb-true top64 m e in omega arith)
    (λ e. let o = leb-false top64 m e in let a : x < min (min m top64 + 1) top64 - k = omega arith in let z = q a in omega (arith, z, o))

-- where no stamp after x up to y is the first of bucket b, both have reached b or neither has
pub no_break : (u : Usable) (b x y : ℕ) → 0 < u.bucket → x ≤ y → y ≤ top64 → (x < first_stamp u b → y < first_stamp u b)
    → leb b (bucket_of u x) ≡ leb b (bucket_of u y)
unfolding first_stamp bucket_of cap64
no_break u b x y pos h top q =
    let d = u.bucket in
    let at_x = min (x + retained u) top64 in
    let at_y = min (y + retained u) top64 in
    let m = (b - 1) * d in
    by_test (leb b 0)
    (λ z. let o = leb-true b 0 z in le-leb b (ceil at_x d) (omega arith) ∙ sym (le-leb b (ceil at_y d) (omega arith)))
    (λ z.
    let o = leb-false b 0 z in
    by_test (leb at_x m)
    (λ p.
    let v = leb-true at_x m p in
    let w = capped_still m (retained u) x y h top v q in
    lt-leb b (ceil at_x d) (stays_below b at_x d pos v o) ∙ sym (lt-leb b (ceil at_y d) (stays_below b at_y d pos w o)))
    (λ p.
    let v = leb-false at_x m p in
    le-leb b (ceil at_x d) (reaches b at_x d pos v) ∙ sym (le-leb b (ceil at_y d) (reaches b at_y d pos (omega arith)))))
