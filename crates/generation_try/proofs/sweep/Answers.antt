use native.Mathlib.Omega.{arith}
use Rattle.generation.proofs.Looking.{sound_bounded}
use Rattle.generation_try.proofs.sweep.Goals as goal

pub sweep_one-requires : goal.sweep_one-requires
sweep_one-requires c =
    let is = c.is_generation.ensures c.if-not-is_generation.false in
    sound_bounded 8 24 0 (omega arith) c.args.part.now is.0 is.1
