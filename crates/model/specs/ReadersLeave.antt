-- "May a function's contract leave anything open? No: result and every lent word and byte follow from the arguments, for refusals too."
-- A call that only reads leaves every word as it was: of any words and any settings, whether it is refused or goes through.
use Rattle.std.specs.Prelude.{ℕ, ◌≡◌, true, List}
use Rattle.model.specs.Calls.{Call, only_reads, after}

-- the promise; which calls only read, their meaning says (specs/Calls), and `they_read` lists them (proofs/StatementCases)
abbrev pub ReadersLeave : Type 0
ReadersLeave = (st ws : List ℕ) (call : Call) → only_reads call ≡ true → after st ws call ≡ ws
