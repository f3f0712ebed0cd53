-- Probing by ranges of slots: from where it starts up to the last, and then from slot 0 on.
use Prim.Native.Nat.{ℕ, zero, suc, ◌+◌, ◌-◌, ◌%◌, ◌<◌, ◌≤◌}
use native.Mathlib.Omega.{arith}
use native.Mathlib.Nat.{mod-lt}
use mathlib.Core.Path.{◌≡◌, refl, sym, ◌∙◌}
use mathlib.Core.List.{List}
use lib.ListN.{length, get_or}
use lib.Dec.{eqb}
use borrow.Author.Tests.{eqb-true, eqb-false}
use Rattle.runs.proofs.Cases.{by_test}
use Rattle.model.specs.declared.Probe.{Probe}
use Rattle.model.specs.declared.Probe.TheVariants.{Held, Free, Nowhere}
use Rattle.model.specs.Generation.{probe, probe_from}
use Rattle.model.proofs.Probing.{probe_held, probe_free, probe_on, probe_out}

module _ (s : List ℕ) (fp : ℕ) where
  -- on at the next slot of a range
  pub range_on : (e i : ℕ) → e ≤ length s → i < e → (get_or s i 0 ≡ fp → ⊥) → (get_or s i 0 ≡ 0 → ⊥)
      → probe_from s fp (e - i) i ≡ probe_from s fp (e - (i + 1)) (i + 1)
  range_on e i within h other some =
      let one : e - i - 1 ≡ e - (i + 1) = omega arith in
      let p = probe_on s fp (e - i) i (omega arith) other some in
      by_test (eqb (i + 1) (length s))
      (λ q.
      let last = eqb-true (i + 1) (length s) q in
      p ∙ probe_out s fp (e - i - 1) _ (omega arith) ∙ sym (probe_out s fp (e - (i + 1)) (i + 1) (omega arith)))
      (λ q. rw (q, one) at p)

  -- where nothing ends it up to the last slot it goes on at slot 0
  abbrev after : Probe → Probe → Probe
  after (Held i) p = Held i
  after (Free i) p = Free i
  after Nowhere p = p

  after_end : (p q : Probe) → (p ≡ Nowhere → ⊥) → after p q ≡ p
  after_end (Held i) q n = refl
  after_end (Free i) q n = refl
  after_end Nowhere q n = absurd (n refl)

  goes_round : (k m i : ℕ) → 0 < k → i + k ≡ length s → probe_from s fp (k + m) i ≡ after (probe_from s fp k i) (probe_from s fp m 0)
  goes_round zero m i h e = absurd (omega arith)
  goes_round (suc k) m i h e =
      let one : suc k + m - 1 ≡ k + m = omega arith in
      let less : suc k - 1 ≡ k = omega arith in
      by_test (eqb (get_or s i 0) fp)
      (λ a.
      let same = eqb-true (get_or s i 0) fp a in
      rw (probe_held s fp (suc k + m) i (omega arith) same, probe_held s fp (suc k) i (omega arith) same))
      (λ a. by_test (eqb (get_or s i 0) 0)
      (λ b.
      let other = eqb-false (get_or s i 0) fp a in
      let none = eqb-true (get_or s i 0) 0 b in
      rw (probe_free s fp (suc k + m) i (omega arith) other none, probe_free s fp (suc k) i (omega arith) other none))
      (λ b.
      let other = eqb-false (get_or s i 0) fp a in
      let some = eqb-false (get_or s i 0) 0 b in
      by_test (eqb (i + 1) (length s))
      (λ q.
      let last = eqb-true (i + 1) (length s) q in
      let z : k ≡ 0 = omega arith in
      let m' : k + m ≡ m = omega arith in
      rw (
        probe_on s fp (suc k + m) i (omega arith) other some,
        probe_on s fp (suc k) i (omega arith) other some,
        one,
        less,
        q,
        m',
        probe_out s fp k 0 (omega arith),
      ))
      (λ q.
      let far = eqb-false (i + 1) (length s) q in
      rw (probe_on s fp (suc k + m) i (omega arith) other some, probe_on s fp (suc k) i (omega arith) other some, one, less, q)
      (goes_round k m (i + 1) (omega arith) (omega arith)))))

  module _ (some : length s ≡ 0 → ⊥) (first : ℕ) (f : first ≡ fp % length s) (p : Probe)
      (found : p ≡ probe_from s fp (length s - first) first) where
    round : probe s fp ≡ after p (probe_from s fp first 0)
    unfolding probe
    round =
        let h = mod-lt fp {m = length s} (omega arith) in
        let k : length s - first + first ≡ length s = omega arith in
        let g = goes_round (length s - first) first first (omega arith) (omega arith) in
        rw (← f) (rw (k, ← found) at g)

    pub ends_before : (p ≡ Nowhere → ⊥) → p ≡ probe s fp
    ends_before n = sym (round ∙ after_end p _ n)

    pub ends_after : p ≡ Nowhere → (q : Probe) → q ≡ probe_from s fp (first - 0) 0 → q ≡ probe s fp
    ends_after e q r =
        let z : first - 0 ≡ first = omega arith in
        rw z at r ∙ sym (rw e at round)
