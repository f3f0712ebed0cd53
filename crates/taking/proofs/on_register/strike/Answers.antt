use Rattle.taking.proofs.AtRegister.{strike_asks, strike_turns}
use Rattle.taking.proofs.InRun.{register_asks}
use Rattle.taking.proofs.on_register.strike.Goals as goal

pub strike-requires : goal.strike-requires
strike-requires c =
    let on = c.args.on.now in
    let w = c.words.ensures in (
      rw (w.start, w.end) (register_asks on.s on.r on.at.below _ on.at c.args.run.now c.requires.0),
      rw (w.start, w.end) (strike_asks on.s on.r on.at.below _ on.at c.args.run.now c.args.ticket _ c.class.ensures _ c.requires.0 c.requires.1),
    )

pub returns : goal.returns
returns c =
    let on = c.args.on.now in
    let w = c.words.ensures in
    rw (w.start, w.end) (strike_turns on.s on.r on.at.below _ on.at c.args.run.now c.args.ticket _ c.class.ensures _ (rw (w.start, w.end) at c.strike.ensures))
