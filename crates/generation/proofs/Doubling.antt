-- The loop of doubled_slots: doubling goes on while there are too few slots, and its steps never run out.
use Prim.Native.Nat.{ℕ, zero, suc, ◌+◌, ◌*◌, ◌/◌, ◌<◌, ◌≤◌, max}
use native.Mathlib.Omega.{arith}
use mathlib.Core.Path.{◌≡◌, refl, ◌∙◌}
use mathlib.Core.Bool.{Bool, true, false}
use mathlib.Core.List.{List}
use lib.ListN.{length}
use lib.Dec.{leb}
use borrow.Author.Tests.{le-leb, lt-leb, leb-true, leb-false}
use Rattle.runs.proofs.Cases.{by_test}
use Rattle.model.specs.Generation.{count, doubled, slots_for}
use Rattle.model.proofs.Probing.{count≤}
use Rattle.model.proofs.Growth.{held_stays, slots_law}
use Rattle.generation.specs.Slots.{slots_after}

-- steps that are enough give what more of them give
same : (f f' m n : ℕ) → 0 < n → 4 * m ≤ 3 * n + f → 4 * m ≤ 3 * n + f' → doubled f m n ≡ doubled f' m n
unfolding doubled
same zero zero m n p h k = refl
same zero (suc f') m n p h k = let e : leb (4 * m) (3 * n) ≡ _ = le-leb (4 * m) (3 * n) (omega arith) in rw e
same (suc f) zero m n p h k = let e : leb (4 * m) (3 * n) ≡ _ = le-leb (4 * m) (3 * n) (omega arith) in rw e
same (suc f) (suc f') m n p h k =
    by_test (leb (4 * m) (3 * n)) (λ e. rw e)
    (λ e. let l = leb-false (4 * m) (3 * n) e in rw e (same f f' m (2 * n) (omega arith) (omega arith) (omega arith)))

module _ (m n : ℕ) (p : 0 < n) where
  pub doubled_on : 3 * n < 4 * m → doubled (4 * m) m n ≡ doubled (4 * m) m (2 * n)
  unfolding doubled
  doubled_on l =
      let e = lt-leb (4 * m) (3 * n) l in
      let one : doubled (suc (4 * m)) m n ≡ doubled (4 * m) m (2 * n) = rw e in
      same (4 * m) (suc (4 * m)) m n p (omega arith) (omega arith) ∙ one

  pub doubled_end : 4 * m ≤ 3 * n → doubled (4 * m) m n ≡ n
  unfolding doubled
  doubled_end l = same (4 * m) 0 m n p (omega arith) (omega arith)

-- by the numbers that lead a generation, and by its slots
pub slots_are : (known : Bool) (s : List ℕ) → slots_for known s ≡ slots_after known (length s) (count s)
unfolding slots_for slots_after
slots_are true s = refl
slots_are false s = refl

-- there are slots for all that is held
pub slots_hold : (known : Bool) (s : List ℕ) → count s ≤ slots_for known s
slots_hold true s = rw (held_stays s) (count≤ s)
slots_hold false s = let enough = (slots_law s).enough in omega arith

-- slots are never fewer after it
doubled_more : (f m n : ℕ) → n ≤ doubled f m n
unfolding doubled
doubled_more zero m n = omega arith
doubled_more (suc f) m n =
    by_test (leb (4 * m) (3 * n)) (λ e. rw e (omega arith)) (λ e. let k = doubled_more f m (2 * n) in rw e (omega arith))

pub slots_more : (known : Bool) (slots held : ℕ) → slots ≤ slots_after known slots held
unfolding slots_after
slots_more true slots held = omega arith
slots_more false slots held = let k = doubled_more (4 * suc held) (suc held) (max slots 1) in omega arith

-- three quarters without a product of what may be any number
pub three_quarters : (held slots : ℕ) → leb held (3 * slots / 4) ≡ leb (4 * held) (3 * slots)
three_quarters held slots =
    by_test (leb (4 * held) (3 * slots))
    (λ e. let h = leb-true (4 * held) (3 * slots) e in rw e (le-leb held (3 * slots / 4) (omega arith)))
    (λ e. let h = leb-false (4 * held) (3 * slots) e in rw e (lt-leb held (3 * slots / 4) (omega arith)))
