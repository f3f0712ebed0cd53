use Rattle.dump.proofs.Bytes.{put_over}
use Rattle.dump.proofs.octets.put_word.Goals as goal

pub returns : goal.returns
returns c = rw (c.copy_from_slice.ensures.after, c.to_le_bytes.ensures) (put_over c.args.at c.args.n c.args.out.now c.requires)
