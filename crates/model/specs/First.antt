-- Rules that are tried in an order: the first whose condition is met is named.
use Rattle.std.specs.Prelude.{◌≡◌, Bool, true, false, cond, List, [], ◌∷◌}

-- what it names, and whether its condition is met
pub record Rule (A : Type 0) : Type 0 where
  pub names : A
  pub met : Bool

abbrev pub rule : {A : Type 0} → A → Bool → Rule A
rule n b = record { names = n; met = b }

-- what the first that is met names; `other` where none is met
unfoldable pub first_of : {A : Type 0} → A → List (Rule A) → A
first_of other [] = other
first_of other (x ∷ xs) = cond x.met x.names (first_of other xs)

-- n is named by one whose condition is met, and no earlier one's is
pub data First {A : Type 0} (n : A) : List (Rule A) → Type 0 where
  here : {x : Rule A} {xs : List (Rule A)} → x.met ≡ true → x.names ≡ n → First n (x ∷ xs)
  later : {x : Rule A} {xs : List (Rule A)} → x.met ≡ false → First n xs → First n (x ∷ xs)

-- no condition is met
pub data NoneMet {A : Type 0} : List (Rule A) → Type 0 where
  nothing : NoneMet []
  not_this : {x : Rule A} {xs : List (Rule A)} → x.met ≡ false → NoneMet xs → NoneMet (x ∷ xs)

-- n is what the first that is met names, or `other` where none is met
pub data Named {A : Type 0} (other n : A) (xs : List (Rule A)) : Type 0 where
  by_first : First n xs → Named other n xs
  by_none : NoneMet xs → other ≡ n → Named other n xs
