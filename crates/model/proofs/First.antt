-- The first rule that is met (specs/First): what the walk answers is what the two conditions say, in both directions. Assumes nothing.
use mathlib.Core.Path.{◌≡◌, refl, sym, ◌∙◌, subst}
use mathlib.Core.Bool.{false}
use mathlib.Core.List.{List, [], ◌∷◌, ◌++◌}
use mathlib.Core.Logic.{◌⊎◌, inl, inr}
use Rattle.runs.proofs.Cases.{by_test}
use Rattle.model.specs.First.{Rule, first_of, First, here, later, NoneMet, nothing, not_this, Named, by_first, by_none}

module _ {A : Type 0} where
  pub first_is : (other n : A) (xs : List (Rule A)) → First n xs → first_of other xs ≡ n
  unfolding first_of
  first_is other n [] first = elim first [ ]
  first_is other n (x ∷ xs) (here met is) = rw met is
  first_is other n (x ∷ xs) (later not_met first) = rw not_met (first_is other n xs first)

  pub none_is : (other : A) (xs : List (Rule A)) → NoneMet xs → first_of other xs ≡ other
  unfolding first_of
  none_is other [] nothing = refl
  none_is other (x ∷ xs) (not_this not_met none) = rw not_met (none_is other xs none)

  pub met_or_none : (xs : List (Rule A)) → ((n : A) × First n xs) ⊎ NoneMet xs
  met_or_none [] = inr nothing
  met_or_none (x ∷ xs) = by_test x.met (λ t. inl (x.names, here t refl)) (λ t. next (met_or_none xs) t)
    where
      next : ((n : A) × First n xs) ⊎ NoneMet xs → x.met ≡ false → ((n : A) × First n (x ∷ xs)) ⊎ NoneMet (x ∷ xs)
      next (inl (n, f)) t = inl (n, later t f)
      next (inr rest) t = inr (not_this t rest)

  -- both directions
  pub named_is : (other n : A) (xs : List (Rule A)) → Named other n xs → first_of other xs ≡ n
  named_is other n xs (by_first f) = first_is other n xs f
  named_is other n xs (by_none none is) = none_is other xs none ∙ is

  pub is_named : (other n : A) (xs : List (Rule A)) → first_of other xs ≡ n → Named other n xs
  is_named other n xs e = by_cases (met_or_none xs)
    where
      by_cases : ((m : A) × First m xs) ⊎ NoneMet xs → Named other n xs
      by_cases (inl (m, f)) = by_first (subst (λ (k : A). First k xs) (sym (first_is other m xs f) ∙ e) f)
      by_cases (inr none) = by_none none (sym (none_is other xs none) ∙ e)

  -- of two lists one after the other: the second is tried where none of the first is met
  pub first_after : (other : A) (xs ys : List (Rule A)) → first_of other (xs ++ ys) ≡ first_of (first_of other ys) xs
  unfolding first_of
  first_after other [] ys = refl
  first_after other (x ∷ xs) ys = by_test x.met (λ t. rw t) (λ t. rw t (first_after other xs ys))
