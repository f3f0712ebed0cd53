-- A form of words says how a value lies in words: how many words it takes, how it is written, how words are read, which
-- values are well formed and which words are sound. The test is a Bool on words, in the order in which code tests them, so
-- that a function that tests has one equation as its contract, `r ≡ F.test (now part)`.
use Rattle.std.specs.Prelude.{ℕ, ◌≡◌, Bool, true, List, length}

pub record Form (A : Type 0) : Type 1 where
  pub wide : ℕ
  pub enc : A → List ℕ
  pub read : List ℕ → A
  pub Ok : A → Type 0
  pub test : List ℕ → Bool

-- What makes the five fit together: sound words are exactly those of a well-formed value, and each such value has words
-- of its own.
pub record Exact {A : Type 0} (F : Form A) : Type 0 where
  pub width : (x : A) → F.Ok x → length (F.enc x) ≡ F.wide
  pub back : (ws : List ℕ) → length ws ≡ F.wide → F.test ws ≡ true → F.Ok (F.read ws) × (ws ≡ F.enc (F.read ws))
  pub forth : (x : A) → F.Ok x → (F.test (F.enc x) ≡ true) × (F.read (F.enc x) ≡ x)
