-- "No ticket is accepted twice", for every list of calls on the same words, whatever the clock reads: in the numbers that a C host sees,
-- which are those that an entry point returns and those that it writes to its out numbers.
--
-- After a call of strikes_take or strikes_take_batch that returned 0 and wrote verdict 0 for a ticket (a register, a fingerprint as read
-- and a stamp), no later call of strikes_judge, strikes_judge_batch, strikes_take or strikes_take_batch for that ticket returns 0 and
-- writes verdict 0. Two things end this, and nothing else: an opening that returned 0, and a resume on that register that returned 0. A
-- restore ends nothing, whatever it returned and wrote for `whole`. The words at the start are any words, and calls that are refused
-- stand in the list like the others.
use Rattle.std.specs.Prelude.{ℕ, ◌≡◌, Bool, false, ◌&&◌, ◌||◌, Some, List, [], ◌∷◌, ◌++◌, eqb}
use Rattle.model.specs.Calls.{Call, Sort, Asks, Takes, Restores, Resumes, Plain, Kind, Opens, OnOne, Sets, Other, kind}
use Rattle.model.specs.Once.{Strike, asks_about, takes}
use Rattle.strikes_c.specs.Out.{Returned}

-- ---- lists of calls: a call of an entry point, and what came of it
pub record Served : Type 0 where
  pub settings : List ℕ
  pub call : Call
  pub returned : ℕ
  -- the words that it left
  pub left : List ℕ
  -- its out numbers, before and after
  pub olds : List ℕ
  pub news : List ℕ

-- each kept its contract, on the words that the one before it left; specs/Readers has those that only read
abbrev pub AllKept : List ℕ → List Served → Type 0
AllKept ws [] = Unit {0}
AllKept ws (x ∷ xs) = Returned x.settings ws x.call x.returned x.left x.olds x.news × AllKept x.left xs

-- ---- the promise
-- it returned 0 and wrote verdict 0
pub record SaysNew (x : Served) : Type 0 where
  pub returned : x.returned ≡ 0
  pub verdict : x.news ≡ 0 ∷ []

-- what ends the promise, by its numbers
unfoldable pub sort_ends : Sort → Served → Bool
sort_ends (Asks a) x = false
sort_ends (Takes a) x = false
sort_ends Restores x = false
sort_ends Resumes x = eqb x.returned 0
sort_ends Plain x = false

unfoldable pub kind_ends : ℕ → Kind → Served → Bool
unfolding sort_ends
kind_ends r (Opens limits starts) x = eqb x.returned 0
kind_ends r (OnOne q d) x = eqb r q && sort_ends d x
kind_ends r (Sets limits) x = false
kind_ends r Other x = false

unfoldable pub ended_among : ℕ → List Served → Bool
unfolding kind_ends
ended_among r [] = false
ended_among r (x ∷ xs) = kind_ends r (kind x.call) x || ended_among r xs

-- `first` is a take or a take_batch, `later` any of the four: no ticket is New twice
abbrev pub OnceInNumbers : Type 0
OnceInNumbers =
    (ws : List ℕ) (t : Strike) (first : Served) (between : List Served) (later : Served) → AllKept ws (first ∷ (between ++ (later ∷ [])))
    → takes (kind first.call) ≡ Some t → SaysNew first → ended_among t.register between ≡ false → asks_about (kind later.call) ≡ Some t
    → SaysNew later → ⊥
