use Prim.Native.Nat.{◌+◌}
use native.Mathlib.Omega.{arith}
use mathlib.Core.Path.{refl}
use Rattle.runs.specs.Over.{itself}
use Rattle.runs.proofs.Over.{puts_one}
use Rattle.dump.proofs.Writing.{set_one}
use Rattle.dump.proofs.output.U64Element.put.Goals as goal

pub returns : goal.returns
returns c =
    let room = c.requires.room in
    puts_one itself 1 (set_one c.args.at c.args.word c.args.out.now (omega arith)) (c.args.at + 1) refl
