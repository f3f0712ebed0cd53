-- "Each returns its number alone": where a judge, a take or a batch form returns no refusal's number, it answers a verdict.
-- Of any words and settings. That 0 is no refusal's number: specs/ZeroIsThrough.
use Rattle.std.specs.Prelude.{ℕ, ◌≡◌, Some, List}
use Rattle.model.specs.declared.Verdict.{Verdict}
use Rattle.model.specs.Answer.{Answer}
use Rattle.model.specs.Answer.{Said}
use Rattle.model.specs.Codes.{answer_number}
use Rattle.model.specs.Calls.{Call, kind, reply}
use Rattle.model.specs.Once.{Strike, asks_about}

-- an answer that is a verdict
pub record Verdicts (a : Answer) : Type 0 where
  pub verdict : Verdict
  pub said : a ≡ Said verdict

abbrev pub TicketsGetVerdicts : Type 0
TicketsGetVerdicts =
    (st ws : List ℕ) (call : Call) (t : Strike) → asks_about (kind call) ≡ Some t → answer_number (reply st ws call) ≡ 0 → Verdicts (reply st ws call)
