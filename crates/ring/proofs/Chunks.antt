-- Loops over the positions of a ring, whose words `chunks_exact` lends one after the other.
use Prim.Native.Nat.{ℕ, ◌+◌, ◌-◌, ◌*◌, ◌<◌, ◌≤◌}
use native.Mathlib.Nat.{zero-mul, suc-mul, mul-le-mul_right}
use native.Mathlib.Numerals.{add-one}
use native.Mathlib.Omega.{arith}
use mathlib.Core.Path.{◌≡◌, refl, sym, ap, ◌∙◌}
use mathlib.Core.List.{List, ◌++◌}
use lib.Dec.{ltb}
use lib.ListN.{length, get_or, drop, length-append, length-drop}
use lib.Seq.{take_at, drop_at, drop-drop}
use borrow.Author.Tests.{ltb-true, ltb-false}
use borrow.Rule.Slice.PartMut.{mid_of}
use Rattle.runs.proofs.Cases.{by_test}
use Rattle.runs.proofs.Walk.{inside}
use Rattle.runs.specs.Turns.{Reads}
use Rattle.model.specs.Widths.{generation_width}
use Rattle.model.specs.Generation.{Generation, empty}
use Rattle.model.specs.GenerationWords.{encode_generation, GenerationOk}
use Rattle.generation.specs.Words.{Bounded}
use Rattle.ring.specs.Ring.{RingReads, RingWords}
use Rattle.ring.proofs.Positions.{starts_at, place_bounded, place_reads}

-- The loop is at position i of n: `rest` is left, and is lent in parts of k words.
pub record From (S n : ℕ) (ws : List ℕ) (i k : ℕ) (rest : List ℕ) : Type 0 where
  pub size : k ≡ generation_width S
  pub left : rest ≡ drop (i * generation_width S) ws
  pub long : length ws ≡ n * generation_width S

module _ (S n : ℕ) (ws : List ℕ) where
  pub from_start : (size : ℕ) → size ≡ generation_width S → length ws ≡ n * generation_width S → From S n ws 0 size ws
  from_start size e long = record { size = e; left = rw zero-mul; long = long }

  module _ (i size : ℕ) (rest : List ℕ) (f : From S n ws i size rest) where
    abbrev w : ℕ
    w = generation_width S

    -- the next part is x, and q is left
    module _ (x q : List ℕ) (split : (rest ≡ x ++ q) × (length x ≡ size)) where
      wide : length x ≡ w
      wide = split.1 ∙ f.size

      behind : drop (i * w) ws ≡ x ++ q
      behind = sym f.left ∙ split.0

      pub part_is : mid_of (i * w) ((i * w + w) - i * w) ws ≡ x
      part_is = let k : (i * w + w) - i * w ≡ w = omega arith in rw (k, behind) (take_at x q w wide)

      pub below : i < n
      below =
          let some = length-drop (i * w) ws in
          let both = ap length behind ∙ length-append x q in
          by_test (ltb i n) (λ e. ltb-true i n e)
          (λ e. let m = mul-le-mul_right w (ltb-false i n e) in let l = f.long in absurd (omega arith))

      pub chunk_bounded : S ≤ 1_024 → RingWords S n ws → Bounded x
      chunk_bounded small good = rw part_is at (place_bounded S n i below (i * w) (i * w + w) (starts_at S n i below) refl small ws good)

      pub chunk_reads : {R : Type 0} {out : Generation → R} {r : R} → Reads (encode_generation S) (GenerationOk S n i) out x r
          → RingReads S n (λ ring. out (get_or ring i empty)) ws r
      chunk_reads {out = out} t = place_reads S n i below (i * w) (i * w + w) (starts_at S n i below) refl {out = out} {ws = ws} (rw part_is t)

      pub from_next : (after : ℕ) → after ≡ size → From S n ws (i + 1) after q
      from_next after e =
          let m : (i + 1) * w ≡ i * w + w = rw add-one (suc-mul i w) in
          record { size = e ∙ f.size; left = rw (m, ← drop-drop, behind) (sym (drop_at x q w wide)); long = f.long }

    pub from_end : length rest < size → n ≤ i
    from_end short =
        by_test (ltb i n)
        (λ e.
        let m = inside n i w (ltb-true i n e) in
        let some = ap length f.left ∙ length-drop (i * w) ws in
        let l = f.long in let s = f.size in absurd (omega arith))
        (λ e. ltb-false i n e)
