-- The calls as the functions hand them on.
use Rattle.std.specs.Prelude.{ℕ, ◌≡◌, Bool, true, false, cond, List, Result, Ok, Err}
use Rattle.model.specs.declared.Manner.{Manner}
use Rattle.model.specs.declared.Refusal.{Refusal}
use Rattle.model.specs.Answer.{Answer, Refused, Done, Begun, Already, Whole, Partly, SweptTo, Totals, refusal_number}
use Rattle.book.specs.declared.totals.Totals.{Totals as Read}
use Rattle.register.specs.declared.heading.SweptTo.{SweptTo as Swept}
use Rattle.strikes.specs.declared.Asking.{Asking as Handed}
use Rattle.strikes.specs.declared.Restored.{Restored}
use Rattle.strikes.specs.declared.Restored.TheVariants.{Whole as AllIn, Partly as PartIn}
use Rattle.model.specs.Calls.{Asking, Ticket, Explain, StampFor, Call, On, reply, after, output_after}

-- a ticket as a host asks about it, in the rules
abbrev pub handed : Handed → Asking
handed a = record { fp = a.fp; stamp = a.stamp; ms = a.reading; flag = a.flag; kind = a.who.kind; number = a.who.number }

-- a ticket on a register, with every number as the host passes it
abbrev pub asking : Manner → ℕ → ℕ → ℕ → ℕ → ℕ → ℕ → ℕ → Call
asking m register fp stamp reading flag kind number =
    On register (Ticket m (record { fp = fp; stamp = stamp; ms = reading; flag = flag; kind = kind; number = number }))

-- the question about the rule behind its verdict
abbrev pub explaining : ℕ → ℕ → ℕ → ℕ → ℕ → ℕ → ℕ → Call
explaining register fp stamp reading flag kind number =
    On register (Explain (record { fp = fp; stamp = stamp; ms = reading; flag = flag; kind = kind; number = number }))

-- and about the smallest stamp with a wanted verdict
abbrev pub seeking : ℕ → ℕ → ℕ → ℕ → ℕ → ℕ → ℕ → Call
seeking register fp reading flag kind number wanted =
    On register (StampFor (record { fp = fp; ms = reading; flag = flag; kind = kind; number = number; wanted = wanted }))

-- ---- what a call returns, as the answer of the rules: `f` says what a value answers
abbrev pub heard : {A : Type 0} → (A → Answer) → Result A Refusal → Answer
heard f (Ok x) = f x
heard f (Err e) = Refused (refusal_number e)

abbrev pub done : Unit {0} → Answer
done x = Done

abbrev pub begun_or_already : Bool → Answer
begun_or_already true = Begun
begun_or_already false = Already

abbrev pub swept_heard : Swept → Answer
swept_heard s = SweptTo s.bucket.0 s.published.0

abbrev pub totals_heard : Read → Answer
totals_heard t = Totals t.entries t.holders t.units t.expired

abbrev pub restored_heard : Restored → Answer
restored_heard (AllIn n) = Whole n
restored_heard (PartIn n) = Partly n

-- what a restore that read so many bytes answers
abbrev pub restore_answer : ℕ → Bool → Answer
restore_answer read whole = cond whole (Whole read) (Partly read)

-- what a call tells and leaves: the reply, and every lent word, are those of the rules, refusals included
pub record Told (st ws : List ℕ) (call : Call) (a : Answer) (left : List ℕ) : Type 0 where
  pub answer : a ≡ reply st ws call
  pub words : left ≡ after st ws call

-- what a call with an output tells and writes: the reply, and every byte or word of the output, are those of the rules, refusals included
pub record ToldOutput (st ws : List ℕ) (call : Call) (a : Answer) (left : List ℕ) : Type 0 where
  pub answer : a ≡ reply st ws call
  pub output : left ≡ output_after st ws call
