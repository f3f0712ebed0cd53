-- "For any answer that is an enum, a definition gives this paper's number and values for each case. The promises use that definition."
-- No two rules have one number and one class.
use Rattle.std.specs.Prelude.{◌≡◌}
use Rattle.model.specs.declared.Reason.{Reason}
use Rattle.model.specs.Codes.{reason_number, reason_class}

abbrev pub ReasonsApart : Type 0
ReasonsApart = (x y : Reason) → reason_number x ≡ reason_number y → reason_class x ≡ reason_class y → x ≡ y
