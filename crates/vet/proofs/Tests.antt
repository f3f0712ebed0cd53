-- The test of words part by part, as the code takes it: `&ws[0..a]`, then `&ws[a..]`.
use Prim.Native.Nat.{ℕ, zero, suc, ◌+◌, ◌-◌, ◌*◌, ◌≤◌}
use native.Mathlib.Omega.{arith}
use mathlib.Core.Path.{◌≡◌, refl, sym, ◌∙◌}
use mathlib.Core.Bool.{Bool, true, false, ◌&&◌, and-true}
use mathlib.Core.List.{List}
use lib.ListN.{length, take, drop, length-drop}
use lib.Seq.{take_all, take-length, take-take, drop-drop}
use borrow.Rule.Slice.PartMut.{mid_of, mid_len}
use Rattle.runs.specs.Form.{Form}
use Rattle.runs.specs.Combine.{both, wide_row, test_row, row, free}
use Rattle.runs.proofs.Words.{drop_take}
use Rattle.model.specs.declared.Class.{Class}
use Rattle.model.specs.declared.Class.TheVariants.{Feeders, Peers, Own}
use Rattle.model.specs.RegisterWords.{each_form}

-- ---- a head, and what lies behind it
module _ {A B : Type 0} (F : Form A) (G : Form B) (n : ℕ) (ws : List ℕ) (a : ℕ) (ha : a ≡ F.wide) (h : a ≤ n) where
  head_is : F.test (take F.wide (take n ws)) ≡ F.test (mid_of 0 (a - 0) ws)
  head_is =
      let k : a - 0 ≡ F.wide = omega arith in
      let t = take-take F.wide n ws (omega arith) in
      rw (k, t)

  -- the head fails, and so does the whole
  pub head_not : false ≡ F.test (mid_of 0 (a - 0) ws) → false ≡ (both F G).test (take n ws)
  head_not t = let e = t ∙ sym head_is in rw (← e)

  -- the head passes, and what lies behind it decides
  pub head_on : true ≡ F.test (mid_of 0 (a - 0) ws) → (r : Bool) → r ≡ G.test (mid_of a (n - a) ws) → r ≡ (both F G).test (take n ws)
  head_on t r b =
      let e = t ∙ sym head_is in
      let d = drop_take a n ws h in
      rw (← e, ← ha, d) b

-- the same of all words that are lent
module _ {A B : Type 0} (F : Form A) (G : Form B) (ws : List ℕ) (a : ℕ) (ha : a ≡ F.wide) (h : a ≤ length ws) where
  pub first_not : false ≡ F.test (mid_of 0 (a - 0) ws) → false ≡ (both F G).test ws
  first_not t = rw (take-length ws) at (head_not F G (length ws) ws a ha h t)

  pub first_on : true ≡ F.test (mid_of 0 (a - 0) ws) → (r : Bool) → r ≡ G.test (mid_of a (length ws - a) ws) → r ≡ (both F G).test ws
  first_on t r b = rw (take-length ws) at (head_on F G (length ws) ws a ha h t r b)

-- ---- three of one width, one for each class
module _ {A : Type 0} (F : Class → Form A) (k : ℕ) (wide : (c : Class) → (F c).wide ≡ k) (ws : List ℕ) (long : length ws ≡ 3 * k)
    (a b : ℕ) (ha : a ≡ k) (hb : b ≡ 2 * a) where
  pub each_test : (x y z : Bool) → x ≡ (F Feeders).test (mid_of 0 (a - 0) ws) → y ≡ (F Peers).test (mid_of a (b - a) ws)
      → z ≡ (F Own).test (mid_of b (length ws - b) ws) → (x && (y && z)) ≡ (each_form F).test ws
  each_test x y z ex ey ez =
      let k0 : a - 0 ≡ k = omega arith in
      let k1 : b - a ≡ k = omega arith in
      let kb : b ≡ k + k = omega arith in
      let l : take (length ws - b) (drop b ws) ≡ drop b ws = take_all (length ws - b) (drop b ws) (rw length-drop (omega arith)) in
      rw (wide Feeders, wide Peers, drop-drop k k ws, ex, ey, ez, l, k0, k1, ha, kb)

  -- each part is as long
  pub first_long : length (mid_of 0 (a - 0) ws) ≡ k
  first_long = mid_len 0 a ws (omega arith) ∙ omega arith

  pub second_long : length (mid_of a (b - a) ws) ≡ k
  second_long = mid_len a b ws (omega arith) ∙ omega arith

  pub third_long : length (mid_of b (length ws - b) ws) ≡ k
  third_long = mid_len b (length ws) ws (omega arith) ∙ omega arith

-- ---- a row, and words behind it
module _ {A : Type 0} (F : ℕ → Form A) where
  row_first : (i n : ℕ) (ws : List ℕ) → test_row F i n (take (wide_row F i n) ws) ≡ test_row F i n ws
  unfolding wide_row test_row
  row_first i zero ws = refl
  row_first i (suc n) ws =
      let w = (F i).wide in
      let m = wide_row F (suc i) n in
      let t = take-take w (w + m) ws (omega arith) in
      let e : w + m - w ≡ m = omega arith in
      let d = drop_take w (w + m) ws (omega arith) in
      rw (t, d, e, row_first (suc i) n (drop w ws))

  pub row_then : (n k : ℕ) (ws : List ℕ) (all : Bool) → all ≡ test_row F 0 n ws → all ≡ (both (row F n) (free k)).test ws
  row_then n k ws all e = e ∙ sym (row_first 0 n ws) ∙ sym (and-true _)
