-- The shape of a contract on words: what a function does to the words of a value, said of every value that they may be.
-- So a contract names no value that the code does not have, and a caller instantiates it.
use Rattle.std.specs.Prelude.{ℕ, ◌≡◌, List}

-- ws are the words of some well-formed value
pub record Is {A : Type 0} (enc : A → List ℕ) (Ok : A → Type 0) (ws : List ℕ) : Type 0 where
  pub value : A
  pub ok : Ok value
  pub words : ws ≡ enc value

-- a function that writes: the words of x become those of `f x`, and the result is `out x`
pub record Turns {A R : Type 0} (enc : A → List ℕ) (Ok : A → Type 0) (f : A → A) (out : A → R) (before after : List ℕ) (r : R) : Type 0 where
  pub does : (x : A) → Ok x → before ≡ enc x → (after ≡ enc (f x)) × (r ≡ out x)

-- a function that reads: of the words of x the result is `out x`
pub record Reads {A R : Type 0} (enc : A → List ℕ) (Ok : A → Type 0) (out : A → R) (ws : List ℕ) (r : R) : Type 0 where
  pub says : (x : A) → Ok x → ws ≡ enc x → r ≡ out x

-- what a function that answers nothing says
abbrev pub silent : {A : Type 0} → A → Unit {0}
silent x = tt
