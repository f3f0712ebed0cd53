-- A place's pairs in its cells, as lists (how a pair lies in words is said in model's BookWords), and where a second stands among them.
use Rattle.std.specs.Prelude.{ℕ, zero, suc, ◌+◌, ◌-◌, ◌*◌, ◌≤◌, ◌<◌, ◌≡◌, Bool, false, cond, List, [], ◌∷◌, ◌++◌, length, take, drop, replicate, eqb, leb}
use Rattle.runs.specs.Chunks.{flat}
use Rattle.model.specs.Book.{Pair, total}
use Rattle.model.specs.BookWords.{pair_words}
use Rattle.pairs.specs.declared.Passed.{Passed}

-- pairs and the words after them
pub record Cells : Type 0 where
  pub pairs : List Pair
  pub past : List ℕ

abbrev pub cells_words : Cells → List ℕ
cells_words x = flat pair_words x.pairs ++ x.past

-- ---- where a second stands: after so many pairs with smaller seconds
unfoldable pub before : ℕ → List Pair → ℕ
before s [] = 0
before s (q ∷ qs) = cond (leb s q.second) 0 (suc (before s qs))

-- those pairs, and their entries
abbrev pub passed_in : ℕ → List Pair → Passed
passed_in s qs = record { pairs = before s qs; entries = total (take (before s qs) qs) }

-- pair k has that second
unfoldable pub second_at : ℕ → ℕ → List Pair → Bool
second_at s k [] = false
second_at s zero (q ∷ qs) = eqb q.second s
second_at s (suc k) (q ∷ qs) = second_at s k qs

-- ---- pair k with one entry more, and with one less
unfoldable pub raise_at : ℕ → List Pair → List Pair
raise_at k [] = []
raise_at zero (q ∷ qs) = record { second = q.second; count = suc q.count } ∷ qs
raise_at (suc k) (q ∷ qs) = q ∷ raise_at k qs

unfoldable pub lower_at : ℕ → List Pair → List Pair
lower_at k [] = []
lower_at zero (q ∷ qs) = record { second = q.second; count = q.count - 1 } ∷ qs
lower_at (suc k) (q ∷ qs) = q ∷ lower_at k qs

-- the count of pair k
unfoldable pub count_at : ℕ → List Pair → ℕ
count_at k [] = 0
count_at zero (q ∷ qs) = q.count
count_at (suc k) (q ∷ qs) = count_at k qs

-- a new pair before pair k, and m pairs less from pair k on
abbrev pub insert_at : ℕ → ℕ → List Pair → List Pair
insert_at k s qs = take k qs ++ (record { second = s; count = 1 } ∷ drop k qs)

abbrev pub remove_at : ℕ → ℕ → List Pair → List Pair
remove_at k m qs = take k qs ++ drop (k + m) qs

-- ---- cells so changed
abbrev pub raised : ℕ → Cells → Cells
raised k x = record { pairs = raise_at k x.pairs; past = x.past }

abbrev pub lowered : ℕ → Cells → Cells
lowered k x = record { pairs = lower_at k x.pairs; past = x.past }

abbrev pub inserted : ℕ → ℕ → Cells → Cells
inserted k s x = record { pairs = insert_at k s x.pairs; past = drop 2 x.past }

abbrev pub removed : ℕ → ℕ → Cells → Cells
removed k m x = record { pairs = remove_at k m x.pairs; past = replicate (2 * m) 0 ++ x.past }

-- n pairs, of which k is one
pub record Holds (n k : ℕ) (x : Cells) : Type 0 where
  pub many : length x.pairs ≡ n
  pub below : k < n

-- n pairs, and two words after them for one more
pub record Takes (n k : ℕ) (x : Cells) : Type 0 where
  pub many : length x.pairs ≡ n
  pub below : k ≤ n
  pub room : 2 ≤ length x.past

-- n pairs, of which m go from k on
pub record Loses (n k m : ℕ) (x : Cells) : Type 0 where
  pub many : length x.pairs ≡ n
  pub within : k + m ≤ n
