-- Reading a number digit by digit. Assumes nothing.
use Rattle.std.proofs.Common.{ℕ, ◌≡◌, ◌<◌, ◌==◌, List, [], ◌∷◌, length, get_or, take, true, false, Some, None, refl, ◌∙◌, arith}
use Rattle.std.proofs.lemmas.Bool.Decides.{nat_tests}
use Rattle.std.proofs.lemmas.List.Folds.{fold_stuck}
use Rattle.decimals.specs.Texts.{with_digit, with_digits, number_of}

pub number_none : (text : List ℕ) → (length text == 0) ≡ true → None ≡ number_of text
unfolding number_of
number_none [] e = refl
number_none (b ∷ text) e = absurd (grind (arith, nat_tests))

pub number_some : (text : List ℕ) → (length text == 0) ≡ false → with_digits (Some 0) text ≡ number_of text
unfolding number_of
number_some [] e = absurd (grind (arith, nat_tests))
number_some (b ∷ text) e = refl

-- a byte that ends the reading: the rest of the text does not matter
pub read_short : (text : List ℕ) (i : ℕ) → (length text == 0) ≡ false → i < length text
    → with_digit (with_digits (Some 0) (take i text)) (get_or text i 0) ≡ None → None ≡ number_of text
read_short text i e h stop = fold_stuck with_digit None (λ x. refl) (Some 0) text i 0 h stop ∙ number_some text e
