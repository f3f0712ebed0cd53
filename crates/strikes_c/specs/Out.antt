-- What an entry point lets out: the number that it returns, the out numbers, and the words.
use Rattle.std.specs.Prelude.{ℕ, suc, ◌≡◌, true, cond, MatchResult, Result, Ok, Err, List, [], ◌∷◌, get_or}
use Rattle.model.specs.declared.Refusal.{Refusal}
use Rattle.model.specs.Answer.{Answer}
use Rattle.model.specs.Settings.{settings_of, words_needed}
use Rattle.model.specs.Codes.{answer_number, answer_values}
use Rattle.model.specs.Calls.{Call, settings_words_fit, reply, after, output_after}
use Rattle.vet.specs.Vetted.{unfit_alone}
use Rattle.vet.specs.Entries.{Refuses}
use Rattle.strikes.specs.declared.Restored.{Restored}
use Rattle.strikes.specs.declared.Restored.TheVariants.{Whole as AllIn, Partly as PartIn}

-- an out number: the answer's value at place k, or what it held before where the answer has none there; a refusal has no values
unfoldable pub value_out : ℕ → Answer → ℕ → ℕ
value_out k a old = get_or (answer_values a) k old

-- the out numbers of a call, in the order of the answer's values, from place k on
abbrev pub values_out : ℕ → Answer → List ℕ → List ℕ
values_out k a [] = []
values_out k a (old ∷ olds) = value_out k a old ∷ values_out (suc k) a olds

-- a call that may change words: what it returns, every word that it leaves, and its out numbers before and after
pub record Returned (st ws : List ℕ) (call : Call) (n : ℕ) (left olds news : List ℕ) : Type 0 where
  pub number : n ≡ answer_number (reply st ws call)
  pub words : left ≡ after st ws call
  pub values : news ≡ values_out 0 (reply st ws call) olds

-- a call that only reads words
pub record Read (st ws : List ℕ) (call : Call) (n : ℕ) (olds news : List ℕ) : Type 0 where
  pub number : n ≡ answer_number (reply st ws call)
  pub values : news ≡ values_out 0 (reply st ws call) olds

-- a call that only reads words, and writes an output: every byte or word of it
pub record Written (st ws : List ℕ) (call : Call) (n : ℕ) (left olds news : List ℕ) : Type 0 where
  pub number : n ≡ answer_number (reply st ws call)
  pub output : left ≡ output_after st ws call
  pub values : news ≡ values_out 0 (reply st ws call) olds

-- ---- how many words settings need, or the refusal of unfit ones
abbrev pub NeedsWords : List ℕ → Result ℕ Refusal → Type 0
NeedsWords st told = MatchResult told (λ n. (settings_words_fit st ≡ true) × (n ≡ words_needed (settings_of st))) (Refuses (unfit_alone st))

-- ---- the words that settings need: 1 where they are unfit, and then the out number keeps what it held
abbrev pub needed_status : List ℕ → ℕ
needed_status st = cond (settings_words_fit st) 0 1

abbrev pub needed_out : List ℕ → ℕ → ℕ
needed_out st old = cond (settings_words_fit st) (words_needed (settings_of st)) old

-- ---- an out number by what a function returns: what `f` makes of its value, or what it held before where the call is refused
abbrev pub told_out : {A : Type 0} → (A → ℕ) → Result A Refusal → ℕ → ℕ
told_out f (Ok x) old = f x
told_out f (Err e) old = old

-- whether all bytes of a dump came in, and how many it has
abbrev pub whole_flag : Restored → ℕ
whole_flag (AllIn n) = 1
whole_flag (PartIn n) = 0

abbrev pub bytes_read : Restored → ℕ
bytes_read (AllIn n) = n
bytes_read (PartIn n) = n
