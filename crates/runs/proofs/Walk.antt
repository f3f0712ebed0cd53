-- Loops over the parts of a row, which test each in turn. The loop knows where it is: `&words[a..e]` with e = a + the width of
-- part i, and then a = e. In `many` a is i times the width.
use Prim.Native.Nat.{ℕ, suc, ◌+◌, ◌-◌, ◌*◌, ◌<◌, ◌≤◌}
use native.Mathlib.Nat.{zero-mul, suc-mul, mul-le-mul_right}
use native.Mathlib.Numerals.{add-one}
use native.Mathlib.Omega.{arith}
use mathlib.Core.Path.{◌≡◌, ap, sym, ◌∙◌}
use mathlib.Core.Bool.{Bool, true, ◌&&◌, and_assoc, and-true}
use mathlib.Core.List.{List}
use lib.ListN.{drop}
use lib.Seq.{drop-drop}
use borrow.Rule.Slice.PartMut.{mid_of}
use Rattle.runs.specs.Form.{Form}
use Rattle.runs.specs.Combine.{wide_row, test_row, FormAt, form_at}

-- place i of n lies within n places
pub inside : (n i k : ℕ) → i < n → i * k + k ≤ n * k
inside n i k h = omega (arith, mul-le-mul_right k h, suc-mul i k)

-- of what is left at i, one is there
one_left : (n i : ℕ) → i < n → n - i ≡ suc (n - (i + 1))
one_left n i h = omega arith

-- The loop is at part i, which starts at word a, and `all` is the test of those before it.
pub record Passed {A : Type 0} (F : ℕ → Form A) (n : ℕ) (ws : List ℕ) (i a : ℕ) (all : Bool) : Type 0 where
  pub within : i ≤ n
  pub left : a + wide_row F i (n - i) ≡ wide_row F 0 n
  pub passed : (all && test_row F i (n - i) (drop a ws)) ≡ test_row F 0 n ws

module _ {A : Type 0} (F : ℕ → Form A) (n : ℕ) (ws : List ℕ) where
  pub pass_start : Passed F n ws 0 0 true
  pass_start = let e : n - 0 ≡ n = omega arith in record { within = omega arith; left = rw e (omega arith); passed = rw e }

  module _ (i a : ℕ) (all : Bool) (w : Passed F n ws i a all) where
    pub pass_end : n ≤ i → all ≡ test_row F 0 n ws
    unfolding test_row
    pass_end h = let e : n - i ≡ 0 = omega arith in sym (and-true all) ∙ (rw e at w.passed)

    module _ (e : ℕ) (he : e ≡ a + (F i).wide) (h : i < n) where
      -- part i lies within the row
      pub pass_within : e ≤ wide_row F 0 n
      unfolding wide_row
      pass_within = let k = rw (one_left n i h) at w.left in omega arith

      step : (all && ((F i).test (mid_of a (e - a) ws) && test_row F (i + 1) (n - (i + 1)) (drop e ws))) ≡ test_row F 0 n ws
      unfolding test_row
      step =
          let k : e - a ≡ (F i).wide = omega arith in
          let here : Bool = (F i).test (mid_of a (e - a) ws) in
          let rest : Bool = test_row F (i + 1) (n - (i + 1)) (drop e ws) in
          let s : test_row F i (n - i) (drop a ws) ≡ (here && rest) = rw (one_left n i h, k, he, ← drop-drop, add-one) in
          sym (ap (λ (z : Bool). all && z) s) ∙ w.passed

      pub pass_on : (b : Bool) → b ≡ (F i).test (mid_of a (e - a) ws) → Passed F n ws (i + 1) e (all && b)
      unfolding wide_row
      pass_on b t =
          let k = rw (one_left n i h, add-one) at w.left in
          record { within = omega arith; left = rw (add-one, he) (omega arith); passed = rw (and_assoc, t) step }

-- the same over places of one width
module _ {A : Type 0} (P : FormAt A) (n : ℕ) (ws : List ℕ) where
  pub walk_start : Passed (form_at P) n ws 0 (0 * P.wide) true
  walk_start = rw zero-mul (pass_start (form_at P) n ws)

  module _ (i : ℕ) (all : Bool) (w : Passed (form_at P) n ws i (i * P.wide) all)
      (a e : ℕ) (ha : a ≡ i * P.wide) (he : e ≡ a + P.wide) (h : i < n) where
    pub walk_on : (b : Bool) → b ≡ P.test_at i (mid_of a (e - a) ws) → Passed (form_at P) n ws (i + 1) ((i + 1) * P.wide) (all && b)
    walk_on b t =
        let m : (i + 1) * P.wide ≡ e = rw (add-one, suc-mul) (omega arith) in
        rw m (pass_on (form_at P) n ws i a all (rw ha w) e he h b t)
