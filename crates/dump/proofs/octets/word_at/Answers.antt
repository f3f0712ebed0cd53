use mathlib.Core.Path.{◌∙◌}
use Rattle.dump.proofs.Bytes.{number_at}
use Rattle.dump.proofs.octets.word_at.Goals as goal

pub returns : goal.returns
returns c = c.from_le_bytes.ensures ∙ number_at c.args.at c.args.bytes.now c.requires
