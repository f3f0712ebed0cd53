-- The test of a place's pairs, a turn of its loop at a time. What is left of the entries is counted down.
use Prim.Native.Nat.{ℕ, suc, ◌+◌, ◌-◌, ◌*◌, ◌≤◌, ◌<◌}
use native.Mathlib.Numerals.{add-one}
use native.Mathlib.Omega.{arith}
use mathlib.Core.Path.{◌≡◌, sym, ◌∙◌}
use mathlib.Core.Bool.{Bool, true, false, ◌&&◌, and-true, and-false}
use mathlib.Core.List.{List, [], ◌∷◌, map}
use lib.ListN.{length, get_or, drop, drop_of_length-le}
use lib.Seq.{drop-cons}
use lib.Dec.{leb, eqb}
use borrow.Author.Tests.{eq-eqb, ne_eqb, eqb-true, eqb-false, leb-true, leb-false}
use Rattle.runs.proofs.Cases.{by_test, each_true}
use Rattle.model.specs.Numbers.{top32}
use Rattle.model.specs.Book.{Pair, total}
use Rattle.model.specs.BookWords.{read_pairs, pairs_sound}
use Rattle.pairs.proofs.PairWords.{pair_of, chunks_of, parts_read}

-- the test
abbrev pub counted : List ℕ → ℕ → ℕ → Bool
counted ws n entries = pairs_sound 0 (read_pairs n ws) && eqb (total (read_pairs n ws)) entries

-- one pair is sound after a second below `least`, and counts no more than is left
abbrev risen : ℕ → ℕ → ℕ → Bool
risen least second count = leb least second && (leb second top32 && leb 1 count)

abbrev pub pair_ok : ℕ → ℕ → ℕ → ℕ → Bool
pair_ok least left second count = leb least second && (leb second top32 && (leb 1 count && leb count left))

-- the loop is at chunk i of `parts`
pub record Left (parts : List (List ℕ)) (ws : List ℕ) (n entries least left i : ℕ) : Type 0 where
  pub low : least ≤ 4_294_967_296
  pub goes : counted ws n entries ≡ (pairs_sound least (map pair_of (drop i parts)) && eqb (total (map pair_of (drop i parts))) left)

-- a part taken off both sides
less : (count rest left : ℕ) → count ≤ left → eqb (count + rest) left ≡ eqb rest (left - count)
less count rest left h =
    by_test (eqb rest (left - count))
    (λ e. let k = eqb-true rest (left - count) e in rw e (eq-eqb (count + rest) left (omega arith)))
    (λ e. rw e (ne_eqb (count + rest) left (λ z. eqb-false rest (left - count) e (omega arith))))

turned : (n : ℕ) → eqb n 0 ≡ eqb 0 n
turned n =
    by_test (eqb 0 n)
    (λ e. rw e (eq-eqb n 0 (sym (eqb-true 0 n e))))
    (λ e. rw e (ne_eqb n 0 (λ z. eqb-false 0 n e (sym z))))

module _ (parts : List (List ℕ)) (ws : List ℕ) (n entries : ℕ) where
  pub left_all : 2 * n ≤ length ws → parts ≡ chunks_of n ws → Left parts ws n entries 0 entries 0
  left_all h is = let e = parts_read n ws parts h is in record { low = omega arith; goes = rw e }

  module _ (least left i : ℕ) (l : Left parts ws n entries least left i) where
    pub left_none : length parts ≤ i → eqb left 0 ≡ counted ws n entries
    unfolding pairs_sound total
    left_none h = let e = drop_of_length-le parts {i = i} h in turned left ∙ sym (rw e at l.goes)

    module _ (h : i < length parts) where
      abbrev this : List ℕ
      this = get_or parts i []

      next : drop i parts ≡ this ∷ drop (suc i) parts
      next = drop-cons parts i [] h

      -- a pair that does not rise, and a count above what is left
      unrisen : risen least (get_or this 0 0) (get_or this 1 0) ≡ false → false ≡ counted ws n entries
      unfolding pairs_sound
      unrisen b = rw (l.goes, next, b)

      over : left < get_or this 1 0 → false ≡ counted ws n entries
      unfolding total
      over o =
          let rest : List Pair = map pair_of (drop (suc i) parts) in
          let d : eqb (get_or this 1 0 + total rest) left ≡ false = ne_eqb (get_or this 1 0 + total rest) left (λ z. omega arith) in
          rw (l.goes, next, d) (sym (and-false (pairs_sound least (pair_of this ∷ rest))))

      pub left_bad : pair_ok least left (get_or this 0 0) (get_or this 1 0) ≡ false → false ≡ counted ws n entries
      left_bad b =
          by_test (leb (get_or this 1 0) left)
          (λ t. unrisen (rw (t, and-true) at b))
          (λ t. over (leb-false (get_or this 1 0) left t))

      pub left_on : pair_ok least left (get_or this 0 0) (get_or this 1 0) ≡ true
          → (get_or this 1 0 ≤ left) × Left parts ws n entries (get_or this 0 0 + 1) (left - get_or this 1 0) (i + 1)
      unfolding pairs_sound total
      left_on t =
          let p = each_true (leb least (get_or this 0 0)) (leb (get_or this 0 0) top32 ∷ leb 1 (get_or this 1 0) ∷ leb (get_or this 1 0) left ∷ []) t in
          let r : risen least (get_or this 0 0) (get_or this 1 0) ≡ true = rw (p.0, p.1.0, p.1.1.0) in
          let a = leb-true (get_or this 0 0) top32 p.1.0 in
          let o = leb-true (get_or this 1 0) left p.1.1.1 in
          let rest : List Pair = map pair_of (drop (suc i) parts) in (
            o,
            record {
              low = omega arith;
              goes = rw (add-one i, add-one (get_or this 0 0)) (l.goes ∙ rw (next, r, less (get_or this 1 0) (total rest) left o));
            },
          )
