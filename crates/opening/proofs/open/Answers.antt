-- Zeros, the front over the first of them, and the registers over theirs: that is the opened state in words (proofs/Laid).
use Rattle.opening.proofs.Laid.{opened_run}
use Rattle.opening.proofs.open.Goals as goal

pub returns : goal.returns
returns c =
    opened_run c.args.s c.args.limits c.args.starts.now c.args.run.now _ _ _ c.requires.0 c.requires.1
    (c.fill.ensures.after (λ word e. e))
    c.write_front.ensures
    c.write_registers.ensures
