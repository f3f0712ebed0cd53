-- The model's rules on one register, as the functions of this crate name them.
use Rattle.std.specs.Prelude.{ℕ, Bool, Option, None, []}
use Rattle.model.specs.declared.Class.{Class}
use Rattle.model.specs.declared.Verdict.{Verdict}
use Rattle.model.specs.declared.Usable.{Usable}
use Rattle.model.specs.Class.{pick}
use Rattle.model.specs.Register.{Register, with_floor, in_ring, published}
use Rattle.model.specs.Judge.{judge, judge_batch}
use Rattle.model.specs.Dump.{failed}
use Rattle.model.specs.Judge.{Ask as Asked}
use Rattle.ring.specs.Sweep.{swept_ring, swept_says, raised_by}
use Rattle.register.specs.declared.heading.SweptTo.{SweptTo}
use Rattle.register.specs.declared.judging.Ask.{Ask}

-- the floor raised by what went
abbrev pub raised_with : Option ℕ → Register → Register
raised_with d reg = with_floor (raised_by d reg.floor) reg

-- one class of a sweep
abbrev pub swept_class : Class → ℕ → ℕ → Register → Register
swept_class c from through reg =
    raised_with (swept_says from through (pick c reg.rings)) (in_ring c (swept_ring from through) reg)

abbrev pub begin_says : Register → Bool
begin_says reg = reg.pending

abbrev pub swept_answer : Usable → Register → SweptTo
swept_answer u reg = record { bucket = record { 0 = reg.swept }; published = record { 0 = published u reg.swept } }

-- a generation that failed, by its bucket and its newest stamp; and no floor
abbrev pub failed_at : Class → ℕ → ℕ → Register → Register
failed_at c b newest reg = failed c (record { bucket = b; newest = newest; prints = [] }) reg

abbrev pub floor_gone : Register → Register
floor_gone reg = with_floor None reg

-- a question as the rules have it
abbrev pub asked_by : Ask → Asked
asked_by a = record { fp = a.fp; stamp = a.stamp; ms = a.now.0; judging = a.judging; who = a.who }

-- what judge and its batch form leave of a register, and what they say
abbrev pub judged_register : Usable → Asked → Register → Register
judged_register u a reg = (judge u reg a).register

abbrev pub judge_says : Usable → Asked → Register → Verdict
judge_says u a reg = (judge u reg a).says

abbrev pub batch_register : Usable → Asked → Register → Register
batch_register u a reg = (judge_batch u reg a).register

abbrev pub batch_says : Usable → Asked → Register → Verdict
batch_says u a reg = (judge_batch u reg a).says
