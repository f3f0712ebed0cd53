use Rattle.model.proofs.BookKept.{second_short}
use Rattle.model.specs.Book.{second_of}
use Prim.Native.Nat.{ℕ}
use mathlib.Core.Path.{refl, ◌∙◌, ap}
use Rattle.taking.proofs.tickets.Ticket.of.Goals as goal

pub invariant_of-result : goal.invariant_of-result
invariant_of-result c = record { short = rw c.second_of.ensures (second_short _ _) }

pub returns : goal.returns
returns c = record {
  who = refl;
  fp = c.from.ensures;
  stamp = refl;
  bucket = c.bucket_of-bucket.ensures;
  second = c.second_of.ensures ∙ ap (λ (n : ℕ). second_of n c.args.u.bucket) c.bucket_of-bucket.ensures;
}
