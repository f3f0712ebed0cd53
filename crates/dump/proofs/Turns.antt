-- Runs of one width one after the other, as a loop goes over them: the generations of a ring or of a register, and a register's rings.
use Prim.Native.Nat.{ℕ, zero, suc, ◌+◌, ◌/◌, ◌<◌, ◌≤◌}
use native.Mathlib.Nat.{add-div_left, div-eq_of_lt}
use native.Mathlib.Omega.{arith}
use mathlib.Core.Path.{◌≡◌, ◌∙◌}
use mathlib.Core.List.{List, [], ◌++◌}
use lib.Dec.{eqb}
use lib.ListN.{length, get_or, take, drop, length-append}
use lib.Seq.{take_at, drop_at}
use Rattle.runs.proofs.Cases.{by_test}
use Rattle.dump.specs.Parts.{one_held, parts, parts_total, AllParts, Each, shown, total}

-- ---- what a loop over them knows: what is so of each is so of those that are left
pub record Rest (P : List ℕ → Type 0) (k s : ℕ) (r : List ℕ) : Type 0 where
  pub size : s ≡ k
  pub some : 0 < k
  pub each : Each P k r

pub rest_start : {P : List ℕ → Type 0} {k size : ℕ} {r : List ℕ} → size ≡ k → 0 < k → Each P k r → Rest P k size r
rest_start e h l = record { size = e; some = h; each = l }

-- the next of them is x, and q is left
module _ {P : List ℕ → Type 0} {k size : ℕ} {r : List ℕ} (x q : List ℕ) (split : (r ≡ x ++ q) × (length x ≡ size)) (rest : Rest P k size r) where
  long : length x ≡ k
  long = split.1 ∙ rest.size

  one_more : length (x ++ q) / k ≡ suc (length q / k)
  one_more =
      let d : (k + length q) / k ≡ length q / k + 1 = add-div_left (length q) rest.some in
      rw (length-append, long) (omega arith)

  front : take k (x ++ q) ≡ x
  front = take_at x q k long

  behind : drop k (x ++ q) ≡ q
  behind = drop_at x q k long

  pub count_step : length r / k ≡ length q / k + 1
  count_step = let d = one_more in rw split.0 (omega arith)

  all_parts : P x × Each P k q
  unfolding AllParts
  all_parts = let b = rw (split.0, one_more, front, behind) at rest.each in (b.0, b.1)

  pub rest_here : P x
  rest_here = all_parts.0

  pub rest_on : {s : ℕ} → s ≡ size → Rest P k s q
  rest_on e = record { size = e ∙ rest.size; some = rest.some; each = all_parts.1 }

  pub parts_step : (f : List ℕ → List ℕ) → shown f k r ≡ f x ++ shown f k q
  unfolding parts
  parts_step f = rw (split.0, one_more, front, behind)

  pub total_step : (c : List ℕ → ℕ) → total c k r ≡ c x + total c k q
  unfolding parts_total
  total_step c = rw (split.0, one_more, front, behind)

-- none is left
module _ {P : List ℕ → Type 0} {k size : ℕ} {r : List ℕ} (short : length r < size) (rest : Rest P k size r) where
  none : length r / k ≡ 0
  none = let e = rest.size in div-eq_of_lt (omega arith)

  pub parts_none : (f : List ℕ → List ℕ) → shown f k r ≡ []
  unfolding parts
  parts_none f = rw none

  pub total_none : (c : List ℕ → ℕ) → total c k r ≡ 0
  unfolding parts_total
  total_none c = rw none

-- ---- no more generations are held than there are
pub held_few : (k n : ℕ) (ws : List ℕ) → parts_total one_held k n ws ≤ n
unfolding parts_total one_held
held_few k zero ws = omega arith
held_few k (suc n) ws =
    let r = held_few k n (drop k ws) in
    by_test (eqb (get_or (take k ws) 1 0) 0) (λ e. rw e (omega arith)) (λ e. rw e (omega arith))
