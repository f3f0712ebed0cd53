use Rattle.std.proofs.Common.{rules}
use Rattle.std.proofs.lemmas.Iterator.{YieldsList-from_slice}
use Rattle.std.proofs.lemmas.Iterator.Consumers.{YieldsList-from_copied}
use Rattle.std.proofs.lemmas.Iterator.Search.{find_from_yields_List}
use Rattle.model.specs.Class.{classes}
use Rattle.register.specs.Seen.{class_holds}
use Rattle.register.specs.Words.{RegisterReads}
use Rattle.register.proofs.Foreseen.{holder_reads}
use Rattle.register.proofs.peeking.holder_after.Goals as goal

pub returns : goal.returns
returns c =
    let a = c.args in
    holder_reads a.u a.seen a.bucket.0 a.fp.word a.part.now c.find.result (λ reg ok is.
    find_from_yields_List (λ class. class_holds a.seen class a.bucket.0 a.fp.word reg) _ _ _ c.find.ensures.ran (YieldsList-from_copied (YieldsList-from_slice classes (search rules)))
    (λ x r q k.
    let t : RegisterReads c.of-rings.result.u (class_holds a.seen x c.position_of-position.result.bucket.0 a.fp.word) a.part.now r = search rules in
    (search rules, (rw (c.of-rings.ensures, c.position_of-position.ensures.bucket) at t).says reg ok is)))
