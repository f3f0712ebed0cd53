use Rattle.std.proofs.Common.{rules}
use Rattle.std.proofs.lemmas.Iterator.{YieldsList-from_slice}
use Rattle.std.proofs.lemmas.Iterator.Search.{any_from_yields_List}
use Rattle.model.specs.Class.{pick, classes}
use Rattle.model.specs.Register.{holds}
use Rattle.register.specs.Words.{RegisterReads}
use Rattle.register.proofs.Verdicts.{any_reads}
use Rattle.register.proofs.rings.holds_any_class.Goals as goal

pub returns : goal.returns
returns c =
    let f = holds c.args.bucket.0 c.args.fp.word in
    any_reads c.args.u f c.args.part.now c.any.result (λ reg ok is.
    any_from_yields_List (λ class. f (pick class reg.rings)) _ _ _ c.any.ensures.ran (YieldsList-from_slice classes (search rules))
    (λ x r q k.
    let t : RegisterReads c.of-rings.result.u (λ reg. holds c.position_of-position.result.bucket.0 c.args.fp.word (pick x.now reg.rings)) c.args.part.now r = search rules in
    (search rules, (rw (c.of-rings.ensures, c.position_of-position.ensures.bucket) at t).says reg ok is)))
