-- The number of the bytes that have been read, of which there is one so far.
use Rattle.std.proofs.Common.{◌≡◌, take, Some}
use Rattle.decimals.specs.Texts.{with_digits}
use Rattle.decimals.proofs.read.Given as goal

abbrev pub invariant-loop-b : goal.invariant-loop-b
invariant-loop-b l = Some l.n ≡ with_digits (Some 0) (take l.b-index l.text)
