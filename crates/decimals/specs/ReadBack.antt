-- What is written can be read, and how much room it takes: of every number below 2^64.
use Rattle.std.specs.Prelude.{ℕ, ◌<◌, ◌≤◌, ◌≡◌, length, Some}
use Rattle.decimals.specs.Texts.{number_of, text_of}

-- a number that is written is read back as itself
abbrev pub ReadBack : Type 0
ReadBack = (n : ℕ) → n < 18446744073709551616 → number_of (text_of n) ≡ Some n

-- a number takes 20 bytes at most
abbrev pub TwentyAtMost : Type 0
TwentyAtMost = (n : ℕ) → n < 18446744073709551616 → length (text_of n) ≤ 20
