-- "For any answer that is an enum, a definition gives this paper's number and values for each case. The promises use that definition."
-- No two verdicts have one number.
use Rattle.std.specs.Prelude.{◌≡◌}
use Rattle.model.specs.declared.Verdict.{Verdict}
use Rattle.model.specs.Codes.{verdict_number}

abbrev pub VerdictsApart : Type 0
VerdictsApart = (v w : Verdict) → verdict_number v ≡ verdict_number w → v ≡ w
