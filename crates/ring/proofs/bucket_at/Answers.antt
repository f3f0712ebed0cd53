use Rattle.ring.proofs.Finding.{bucket_told}
use Rattle.ring.proofs.bucket_at.Goals as goal

pub returns : goal.returns
returns c = search bucket_told
