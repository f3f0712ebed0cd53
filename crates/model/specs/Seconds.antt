-- "A draw's second is ceil(bucket × width, capped, / 1,000), at most 2^32 − 1."
-- The draw of a take or a take_batch that answers New enters the second in which its ticket's bucket ends, rounded up.
use Rattle.std.specs.Prelude.{ℕ, ◌+◌, ◌*◌, ◌≤◌, ◌<◌, min, ◌≡◌, ◌⊎◌}
use Rattle.model.specs.declared.Verdict.TheVariants.{New}
use Rattle.model.specs.declared.Usable.{Usable}
use Rattle.model.specs.declared.Shares.{Shares}
use Rattle.model.specs.Numbers.{top64, top32}
use Rattle.model.specs.Book.{Book, drawn}
use Rattle.model.specs.Register.{Register}
use Rattle.model.specs.Judge.{Ask, bucket_of, Taken, take, take_batch}

-- so many ms in whole seconds: not less, unless capped, and less than one second more
pub record RoundedUp (ms second : ℕ) : Type 0 where
  pub enough : (ms ≤ 1_000 * second) ⊎ (second ≡ top32)
  pub no_more : 1_000 * second < ms + 1_000
  pub capped : second ≤ top32

-- where a take's outcome is New, the book is as the draw of such a second leaves it
pub record Enters (u : Usable) (b : Shares) (book : Book) (a : Ask) (outcome : Taken) : Type 0 where
  pub second : ℕ
  pub rounded : RoundedUp (min (bucket_of u a.stamp * u.bucket) top64) second
  pub entered : outcome.says ≡ New → outcome.book ≡ drawn b a.who second book

pub record DrawsRoundedUp (u : Usable) (b : Shares) (reg : Register) (book : Book) (a : Ask) : Type 0 where
  pub of_take : Enters u b book a (take u b reg book a)
  pub of_batch : Enters u b book a (take_batch u b reg book a)

abbrev pub SecondsRoundedUp : Type 0
SecondsRoundedUp = (u : Usable) (b : Shares) (reg : Register) (book : Book) (a : Ask) → DrawsRoundedUp u b reg book a
