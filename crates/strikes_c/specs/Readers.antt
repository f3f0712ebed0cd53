-- The entry points that only read words have contracts of their own, Read and Written (specs/Out). They keep the contract of the others
-- too, Returned, and leave the words as they were: so lists of calls are all of one contract.
use Rattle.std.specs.Prelude.{ℕ, ◌≡◌, true, List}
use Rattle.model.specs.Calls.{Call, only_reads}
use Rattle.strikes_c.specs.Out.{Returned, Read, Written}

pub record ReadersKeep (st ws : List ℕ) (call : Call) (n : ℕ) (olds news : List ℕ) : Type 0 where
  pub by_read : Read st ws call n olds news → Returned st ws call n ws olds news
  pub by_written : (out : List ℕ) → Written st ws call n out olds news → Returned st ws call n ws olds news

-- which calls only read, their meaning says (the model's specs/Calls)
abbrev pub ReadersKept : Type 0
ReadersKept = (st ws : List ℕ) (call : Call) (n : ℕ) (olds news : List ℕ) → only_reads call ≡ true → ReadersKeep st ws call n olds news
