use Rattle.ring.proofs.Foreseen.{goes_not_held, goes_not_passed, goes_by_bucket}
use Rattle.ring.proofs.peeking.goes_at.Goals as goal
use Rattle.ring.proofs.peeking.goes_at.Goals.{then-head-ne0, else-head-ne0}

pub returns-then-head-buckets : goal.returns-then-head-buckets
returns-then-head-buckets c = search goes_by_bucket

pub returns-else-head-buckets : goal.returns-else-head-buckets
returns-else-head-buckets c =
    let e = c.if-head-buckets.either in
    elim c.if-head-ne0.branch [
      | then-head-ne0 w ↦ let some = w.if-head-ne0.true in let is = w.t-19-is in search goes_not_passed
      | else-head-ne0 w ↦ search goes_not_held
    ]
