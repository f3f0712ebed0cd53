-- A loop over three parts of one width, which `chunks_exact` lends one after the other, and tests each.
use Prim.Native.Nat.{ℕ, zero, suc, ◌+◌, ◌*◌, ◌/◌, ◌<◌}
use native.Mathlib.Nat.{add-div_left, div-eq_of_lt}
use native.Mathlib.Omega.{arith}
use mathlib.Core.Path.{◌≡◌, sym, ◌∙◌}
use mathlib.Core.Bool.{Bool, true, ◌&&◌, and_assoc, and-true}
use mathlib.Core.List.{List, ◌++◌}
use lib.ListN.{length, take, drop, length-append, length-drop}
use lib.Seq.{take_all, take_at, drop_at}
use Rattle.std.proofs.lemmas.Nat.{div-mul-add}
use Rattle.runs.specs.Form.{Form}
use Rattle.model.specs.RegisterWords.{each_form}

-- the test of n parts of one form
unfoldable pub tests : {A : Type 0} → Form A → ℕ → List ℕ → Bool
tests F zero ws = true
tests F (suc n) ws = F.test (take F.wide ws) && tests F n (drop F.wide ws)

-- The loop has `rest` still to test, in parts of k words, and `all` is the answer for those before it.
pub record Left {A : Type 0} (F : Form A) (ws : List ℕ) (k : ℕ) (rest : List ℕ) (all : Bool) : Type 0 where
  pub size : k ≡ F.wide
  pub some : 0 < F.wide
  pub tested : (all && tests F (length rest / F.wide) rest) ≡ (each_form (λ c. F)).test ws

module _ {A : Type 0} (F : Form A) (ws : List ℕ) where
  three : 0 < F.wide → length ws ≡ 3 * F.wide → tests F 3 ws ≡ (each_form (λ c. F)).test ws
  unfolding tests
  three some long =
      let k = F.wide in
      let d = length-drop k (drop k ws) in
      let e = length-drop k ws in
      let l : take k (drop k (drop k ws)) ≡ drop k (drop k ws) = take_all k (drop k (drop k ws)) (omega arith) in
      rw (l, and-true)

  count : (k m : ℕ) → 0 < k → m ≡ 3 * k → m / k ≡ 3
  count k m some e = let z : m ≡ 3 * k + 0 = omega arith in rw z (div-mul-add 3 k 0 some)

  pub left_start : (size : ℕ) → size ≡ F.wide → 0 < F.wide → length ws ≡ 3 * F.wide → Left F ws size ws true
  left_start size e some long = record { size = e; some = some; tested = rw (count F.wide (length ws) some long) (three some long) }

  module _ {k : ℕ} {rest : List ℕ} {all : Bool} (w : Left F ws k rest all) where
    module _ (x q : List ℕ) (split : (rest ≡ x ++ q) × (length x ≡ k)) where
      pub wide : length x ≡ F.wide
      wide = split.1 ∙ w.size

      one_more : length (x ++ q) / F.wide ≡ suc (length q / F.wide)
      one_more =
          let d : (F.wide + length q) / F.wide ≡ length q / F.wide + 1 = add-div_left (length q) w.some in
          rw (length-append, wide) (omega arith)

      pub left_on : (after : ℕ) → after ≡ k → (b : Bool) → b ≡ F.test x → Left F ws after q (all && b)
      unfolding tests
      left_on after e b t = record {
        size = e ∙ w.size;
        some = w.some;
        tested = rw (and_assoc, t) (rw (split.0, one_more, take_at x q F.wide wide, drop_at x q F.wide wide) at w.tested);
      }

    pub left_end : length rest < k → all ≡ (each_form (λ c. F)).test ws
    unfolding tests
    left_end short =
        let s = w.size in
        let z : length rest / F.wide ≡ 0 = div-eq_of_lt (omega arith) in
        sym (and-true all) ∙ (rw z at w.tested)
