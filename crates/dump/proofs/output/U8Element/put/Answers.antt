use Prim.Native.Nat.{◌+◌}
use mathlib.Core.Path.{refl}
use Rattle.model.specs.Dump.{word_bytes}
use Rattle.runs.proofs.Over.{puts_one}
use Rattle.dump.proofs.output.U8Element.put.Goals as goal

pub returns : goal.returns
returns c = puts_one word_bytes 8 c.put_word.ensures (c.args.at + 8) refl
