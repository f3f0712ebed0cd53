-- What a call answers, and the number of each refusal.
use Rattle.std.specs.Prelude.{ℕ}
use Rattle.model.specs.declared.Verdict.{Verdict}
use Rattle.model.specs.declared.Reason.{Reason}
use Rattle.model.specs.declared.Refusal.{Refusal}
use Rattle.model.specs.declared.Refusal.TheVariants.{Unfit, TooFewWords, UnsoundWords, NoSuchRegister, OutputTooShort, Pending, CutShort, ViewTooShort}

pub data Answer : Type 0 where
  -- the refusal number alone
  Refused : ℕ → Answer
  Done : Answer
  Said : Verdict → Answer
  Yes No Begun Already : Answer
  -- the bytes that a dump wrote
  Dumped : ℕ → Answer
  -- the words that a view wrote
  Viewed : ℕ → Answer
  -- the bytes that a restore read
  Whole Partly : ℕ → Answer
  NoFloor : Answer
  FloorAt : ℕ → Answer
  -- the swept bucket, and the published sweep in milliseconds
  SweptTo : ℕ → ℕ → Answer
  -- a deliverer's entries
  Entries : ℕ → Answer
  -- a class's entries, holders, units and `expired`
  Totals : ℕ → ℕ → ℕ → ℕ → Answer
  -- the rule that gives a take's verdict
  Because : Reason → Answer
  -- the smallest stamp with a wanted verdict, if any stamp has it
  NoStamp : Answer
  StampAt : ℕ → Answer

-- the number that a host is told
abbrev pub refusal_number : Refusal → ℕ
refusal_number Unfit = 1
refusal_number TooFewWords = 2
refusal_number UnsoundWords = 3
refusal_number NoSuchRegister = 4
refusal_number OutputTooShort = 5
refusal_number Pending = 6
refusal_number CutShort = 7
refusal_number ViewTooShort = 8
