-- What fit settings say of one register and of the book. Assumes nothing.
use Prim.Native.Nat.{ℕ, zero, suc, ◌+◌, ◌≤◌, ◌<◌}
use native.Mathlib.Omega.{arith}
use mathlib.Core.Path.{◌≡◌}
use mathlib.Core.Bool.{Bool, true, false}
use mathlib.Core.List.{List, [], ◌∷◌}
use lib.Dec.{leb}
use borrow.Author.Tests.{leb-true, leb-false, ne_eqb, lt-leb}
use Rattle.model.specs.declared.Usable.{Usable}
use Rattle.model.specs.declared.Shares.{Shares}
use Rattle.model.specs.declared.Settings.{Settings}
use Rattle.runs.proofs.Cases.{by_test, both_true, each_true, no}
use Rattle.model.specs.Numbers.{between, cap64}
use Rattle.model.specs.Settings.{retained, ahead, ring_of, power_of_two, window_fit, usable_fit, shares_fit, usable_at, fit_at, settings_fit}
use Rattle.model.proofs.Choice.{or_cases, true_false}
use Rattle.model.proofs.Words.{registers≤4}

-- a ring has positions
pub ring_positive : (u : Usable) → 0 < ring_of u
unfolding ring_of cap64
ring_positive u = omega arith

pub power_small : (n : ℕ) → power_of_two n ≡ true → n ≤ 1_024
unfolding power_of_two
power_small n t =
    by_test (leb n 1_024) (λ e. leb-true n 1_024 e)
    (λ e.
    let h = leb-false n 1_024 e in
    let z : false ≡ true =
    rw (
      ne_eqb n 2 (λ q. omega arith),
      ne_eqb n 4 (λ q. omega arith),
      ne_eqb n 8 (λ q. omega arith),
      ne_eqb n 16 (λ q. omega arith),
      ne_eqb n 32 (λ q. omega arith),
      ne_eqb n 64 (λ q. omega arith),
      ne_eqb n 128 (λ q. omega arith),
      ne_eqb n 256 (λ q. omega arith),
      ne_eqb n 512 (λ q. omega arith),
      ne_eqb n 1_024 (λ q. omega arith),
    ) at t in
    no (cc))

-- the bounds of one register's settings, and of the shares
pub record UsableBounds (u : Usable) : Type 0 where
  pub slots : u.slots ≤ 1_024
  pub ring : ring_of u ≤ 256
  pub some_bucket : 0 < u.bucket
  pub short : retained u + ahead u ≤ 7_200_000

pub usable_bounds : (u : Usable) → usable_fit u ≡ true → UsableBounds u
unfolding usable_fit window_fit retained ahead
usable_bounds u t =
    let p = each_true (window_fit u.origin) (window_fit u.copy ∷ between 1 60_000 u.bucket ∷ power_of_two u.slots ∷ leb (ring_of u) 256 ∷ []) t in
    let o = both_true (leb u.origin.behind 3_600_000) (leb u.origin.ahead 3_600_000) p.0 in
    let c = both_true (leb u.copy.behind 3_600_000) (leb u.copy.ahead 3_600_000) p.1.0 in
    let ob = leb-true u.origin.behind 3_600_000 o.0 in
    let oa = leb-true u.origin.ahead 3_600_000 o.1 in
    let cb = leb-true u.copy.behind 3_600_000 c.0 in
    let ca = leb-true u.copy.ahead 3_600_000 c.1 in
    record {
      slots = power_small u.slots p.1.1.1.0;
      ring = leb-true (ring_of u) 256 p.1.1.1.1;
      some_bucket = leb-true 1 u.bucket (both_true (leb 1 u.bucket) (leb u.bucket 60_000) p.1.1.0).0;
      short = omega (arith, ob, oa, cb, ca);
    }

pub slots_small : (u : Usable) → usable_fit u ≡ true → u.slots ≤ 1_024
slots_small u t = (usable_bounds u t).slots

pub record SharesBounds (b : Shares) : Type 0 where
  pub places : b.places ≤ 64
  pub some_pairs : 2 ≤ b.pairs
  pub pairs : b.pairs ≤ 512
  pub feeder : b.feeder ≤ 4_096
  pub peer : b.peer ≤ 4_096

pub shares_bounds : (b : Shares) → shares_fit b ≡ true → SharesBounds b
unfolding shares_fit
shares_bounds b t =
    let p = each_true (between 1 64 b.places) (between 2 512 b.pairs ∷ leb b.feeder 4_096 ∷ leb b.peer 4_096 ∷ []) t in
    let q = both_true (leb 1 b.places) (leb b.places 64) p.0 in
    let r = both_true (leb 2 b.pairs) (leb b.pairs 512) p.1.0 in
    record {
      places = leb-true b.places 64 q.1;
      some_pairs = leb-true 2 b.pairs r.0;
      pairs = leb-true b.pairs 512 r.1;
      feeder = leb-true b.feeder 4_096 p.1.1.0;
      peer = leb-true b.peer 4_096 p.1.1.1;
    }

abbrev fits : Settings → List Bool
fits s = shares_fit s.shares ∷ fit_at s 0 ∷ fit_at s 1 ∷ fit_at s 2 ∷ fit_at s 3 ∷ []

pub fit_shares : (s : Settings) → settings_fit s ≡ true → shares_fit s.shares ≡ true
unfolding settings_fit
fit_shares s t = (each_true (between 1 4 s.registers) (fits s) t).1.0

from_fit : (s : Settings) (r : ℕ) → fit_at s r ≡ true → r < s.registers → usable_fit (usable_at s r) ≡ true
from_fit s r t h =
    or_cases (leb s.registers r) (usable_fit (usable_at s r)) t (λ e. true_false e (lt-leb s.registers r h)) (λ e. e)

-- the settings of every register that there is
pub fit_usable : (s : Settings) (r : ℕ) → settings_fit s ≡ true → r < s.registers → usable_fit (usable_at s r) ≡ true
unfolding settings_fit
fit_usable s zero t h = from_fit s 0 (each_true (between 1 4 s.registers) (fits s) t).1.1.0 h
fit_usable s (suc zero) t h = from_fit s 1 (each_true (between 1 4 s.registers) (fits s) t).1.1.1.0 h
fit_usable s (suc (suc zero)) t h = from_fit s 2 (each_true (between 1 4 s.registers) (fits s) t).1.1.1.1.0 h
fit_usable s (suc (suc (suc zero))) t h = from_fit s 3 (each_true (between 1 4 s.registers) (fits s) t).1.1.1.1.1 h
fit_usable s (suc (suc (suc (suc r)))) t h = absurd (omega (arith, registers≤4 s t))
