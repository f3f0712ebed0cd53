-- The least of a list that meets a test (`least_from`, specs/Stamp), and the last of a list up to a number. Assumes nothing.
use Prim.Native.Nat.{ℕ, ◌≤◌, ◌<◌}
use native.Mathlib.Omega.{arith}
use mathlib.Core.Path.{◌≡◌, refl}
use mathlib.Core.Bool.{Bool, true, false, ◌&&◌}
use mathlib.Core.List.{List, [], ◌∷◌, ◌++◌}
use Rattle.std.specs.Prelude.{Option, Some, None}
use lib.Dec.{leb}
use borrow.Author.Tests.{leb-true, leb-false, ltb-true, ltb-false}
use Rattle.runs.proofs.Cases.{by_test, split_if, both_true}
use Rattle.model.specs.Dump.{OneOf, first, further}
use Rattle.model.specs.Stamp.{below, better, least_from}
use Rattle.model.proofs.Choice.{and_false, true_false}

-- ---- one of two lists
pub in_left : {x : ℕ} {xs : List ℕ} (ys : List ℕ) → OneOf x xs → OneOf x (xs ++ ys)
in_left ys first = first
in_left ys (further o) = further (in_left ys o)

pub in_right : {x : ℕ} (xs : List ℕ) {ys : List ℕ} → OneOf x ys → OneOf x (xs ++ ys)
in_right [] o = o
in_right (x ∷ xs) o = further (in_right xs o)

-- ---- all of a list
unfoldable pub All : (ℕ → Type 0) → List ℕ → Type 0
All P [] = Unit {0}
All P (c ∷ cs) = P c × All P cs

pub all_at : (P : ℕ → Type 0) {c : ℕ} {cs : List ℕ} → OneOf c cs → All P cs → P c
unfolding All
all_at P first h = h.0
all_at P (further o) h = all_at P o h.1

pub all_of : (P : ℕ → Type 0) (cs : List ℕ) → ((c : ℕ) → OneOf c cs → P c) → All P cs
unfolding All
all_of P [] f = tt
all_of P (c ∷ cs) f = (f c first, all_of P cs (λ x o. f x (further o)))

pub all_append : (P : ℕ → Type 0) (xs ys : List ℕ) → All P xs → All P ys → All P (xs ++ ys)
unfolding All
all_append P [] ys h k = k
all_append P (x ∷ xs) ys h k = (h.0, all_append P xs ys h.1 k)

-- ---- what was found is no more than c
abbrev pub UpTo : ℕ → Option ℕ → Type 0
UpTo c None = ⊥
UpTo c (Some x) = x ≤ c

module _ (meets : ℕ → Bool) where
  -- one more stamp raises nothing, and is reached itself where it meets the test
  not_below : (x : ℕ) (best : Option ℕ) → below x best ≡ false → UpTo x best
  not_below x None e = true_false refl e
  not_below x (Some b) e = ltb-false x b e

  lower : (c x : ℕ) (best : Option ℕ) → below x best ≡ true → UpTo c best → x ≤ c
  lower c x None e h = absurd h
  lower c x (Some b) e h = omega (arith, ltb-true x b e)

  better_keeps : (c x : ℕ) (best : Option ℕ) → UpTo c best → UpTo c (better meets x best)
  unfolding better
  better_keeps c x best h =
      split_if (λ (o : Option ℕ). UpTo c o) (below x best && meets x) (λ e. lower c x best (both_true (below x best) (meets x) e).0 h) (λ e. h)

  better_reaches : (x : ℕ) (best : Option ℕ) → meets x ≡ true → UpTo x (better meets x best)
  unfolding better
  better_reaches x best m =
      split_if (λ (o : Option ℕ). UpTo x o) (below x best && meets x) (λ e. omega arith)
      (λ e. and_false (below x best) (meets x) e (λ d. not_below x best d) (λ d. true_false m d))

  least_keeps : (c : ℕ) (xs : List ℕ) (best : Option ℕ) → UpTo c best → UpTo c (least_from meets xs best)
  unfolding least_from
  least_keeps c [] best h = h
  least_keeps c (x ∷ xs) best h = least_keeps c xs (better meets x best) (better_keeps c x best h)

  -- no number of the list that meets the test is less than what was found
  pub least_reaches : (c : ℕ) (xs : List ℕ) (best : Option ℕ) → OneOf c xs → meets c ≡ true → UpTo c (least_from meets xs best)
  unfolding least_from
  least_reaches c [] best one m = elim one [ ]
  least_reaches c (x ∷ xs) best first m = least_keeps c xs (better meets x best) (better_reaches x best m)
  least_reaches c (x ∷ xs) best (further o) m = least_reaches c xs (better meets x best) o m

  -- and what was found is one of them
  module _ (P : ℕ → Type 0) where
    abbrev pub HasIt : Option ℕ → Type 0
    HasIt None = Unit {0}
    HasIt (Some x) = P x

    better_has : (x : ℕ) (best : Option ℕ) → (meets x ≡ true → P x) → HasIt best → HasIt (better meets x best)
    unfolding better
    better_has x best f h = split_if HasIt (below x best && meets x) (λ e. f (both_true (below x best) (meets x) e).1) (λ e. h)

    pub least_has : (xs : List ℕ) (best : Option ℕ) → ((c : ℕ) → OneOf c xs → meets c ≡ true → P c) → HasIt best → HasIt (least_from meets xs best)
    unfolding least_from
    least_has [] best f h = h
    least_has (x ∷ xs) best f h = least_has xs (better meets x best) (λ c o. f c (further o)) (better_has x best (f x first) h)

-- ---- no number of a list lies after p and up to y
abbrev pub Apart : ℕ → ℕ → ℕ → Type 0
Apart p y c = p < c → y < c

abbrev pub Still : List ℕ → ℕ → ℕ → Type 0
Still cs p y = All (Apart p y) cs

-- the last of a list up to y, or p, which comes before
pub record Last (P : ℕ → Type 0) (cs : List ℕ) (p y : ℕ) : Type 0 where
  pub last : ℕ
  pub its : P last
  pub from : p ≤ last
  pub on : last ≤ y
  pub still : Still cs last y

one_more : (P : ℕ → Type 0) (c : ℕ) (cs : List ℕ) (p q y : ℕ) → p ≤ q → (c ≤ y → c ≤ q) → Last P cs q y → Last P (c ∷ cs) p y
unfolding All
one_more P c cs p q y h low l =
    let f = l.from in
    record {
      last = l.last;
      its = l.its;
      from = omega arith;
      on = l.on;
      still = (λ past. by_test (leb c y) (λ e. let k = low (leb-true c y e) in absurd (omega arith)) (λ e. leb-false c y e), l.still);
    }

pub last_before : (P : ℕ → Type 0) (cs : List ℕ) (p y : ℕ) → P p → p ≤ y → ((c : ℕ) → OneOf c cs → P c) → Last P cs p y
unfolding All
last_before P [] p y its h all = record { last = p; its = its; from = omega arith; on = h; still = tt }
last_before P (c ∷ cs) p y its h all =
    let rest : (x : ℕ) → OneOf x cs → P x = λ x o. all x (further o) in
    by_test (leb c y)
    (λ e. by_test (leb p c)
    (λ d. one_more P c cs p c y (leb-true p c d) (λ k. omega arith) (last_before P cs c y (all c first) (leb-true c y e) rest))
    (λ d. let l = leb-false p c d in one_more P c cs p p y (omega arith) (λ k. omega arith) (last_before P cs p y its h rest)))
    (λ e. let l = leb-false c y e in one_more P c cs p p y (omega arith) (λ k. absurd (omega arith)) (last_before P cs p y its h rest))
