use mathlib.Core.Path.{refl}
use Rattle.model.specs.Answer.{Dumped}
use Rattle.strikes.proofs.OnRegister.{words_there}
use Rattle.strikes.proofs.OnOutput.{dump_shut, dump_turned_down, output_holds, dump_told}
use Rattle.strikes.proofs.dump.Goals as goal

pub returns-in_err-at : goal.returns-in_err-at
returns-in_err-at c = dump_shut _ _ _ _ Dumped _ _ c.from_residual.ensures.1 c.in_err-at.ensures

pub may_dump-requires : goal.may_dump-requires
may_dump-requires c = let w = c.words.ensures in rw (w.start, w.end) (words_there c.in_ok-at.ensures)

pub returns-in_err-may_dump : goal.returns-in_err-may_dump
returns-in_err-may_dump c =
    let w = c.words.ensures in
    dump_turned_down _ _ _ _ c.in_ok-at.ensures (rw (w.start, w.end) at c.in_err-may_dump.ensures) Dumped _ _ c.from_residual-in_err-may_dump.ensures.1 refl

pub dump-requires : goal.dump-requires
dump-requires c =
    let w = c.words.ensures in
    (rw (w.start, w.end) (words_there c.in_ok-at.ensures), output_holds _ c.in_ok-may_dump.ensures refl)

pub returns : goal.returns
returns c =
    let w = c.words.ensures in
    dump_told _ _ _ _ c.in_ok-at.ensures (rw (w.start, w.end) at c.in_ok-may_dump.ensures) refl (rw (w.start, w.end) at c.dump.ensures)
