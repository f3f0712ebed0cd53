-- "Tried in the order 1, 2, 3, 4, 6, 5, 7. Each returns its number alone, alters nothing, and comes only in its condition."
-- "Numbers that requests add join demand 1's seven": 8 is tried after 4, and no call has both 8 and one of the others' own.
use Rattle.std.specs.Prelude.{ℕ, ◌≡◌, Bool, true, false, cond, List, [], ◌∷◌, ◌⊎◌, eqb}
use Rattle.model.specs.Answer.{Refused}
use Rattle.model.specs.First.{First, NoneMet}
use Rattle.model.specs.Calls.{Call, Refusal, refusals, reply, after, output_of, output_after}

-- the numbers are some of those listed, in their order
unfoldable pub in_order : List ℕ → List Refusal → Bool
in_order ns [] = true
in_order [] (x ∷ xs) = false
in_order (n ∷ ns) (x ∷ xs) = cond (eqb x.names n) (in_order ns xs) (in_order ns (x ∷ xs))

-- of a call's own refusals, and of all
abbrev pub own_order : List ℕ
own_order = 8 ∷ 6 ∷ 5 ∷ 7 ∷ []

abbrev pub order : List ℕ
order = 1 ∷ 2 ∷ 3 ∷ 4 ∷ own_order

-- for settings, words and a call of any content
pub record Refuses (st ws : List ℕ) (call : Call) : Type 0 where
  pub ordered : in_order order (refusals st ws call) ≡ true
  -- a reply is the refusal n exactly when n's condition is met and none earlier is
  pub only_first : (n : ℕ) → reply st ws call ≡ Refused n → First n (refusals st ws call)
  pub first_told : (n : ℕ) → First n (refusals st ws call) → reply st ws call ≡ Refused n
  -- one or the other: a condition is met, or none
  pub told_or_through : ((n : ℕ) × First n (refusals st ws call)) ⊎ NoneMet (refusals st ws call)
  -- a refusal leaves all words and bytes
  pub words_kept : (n : ℕ) → reply st ws call ≡ Refused n → after st ws call ≡ ws
  pub bytes_kept : (n : ℕ) → reply st ws call ≡ Refused n → output_after st ws call ≡ output_of call
