-- "Each returns its number alone": a refusal returns its number, and no refusal has number 0.
-- Of any words and settings: a call returns 0 exactly when it went through.
use Rattle.std.specs.Prelude.{ℕ, ◌≡◌, List, eqb}
use Rattle.model.specs.Codes.{answer_number, went_through}
use Rattle.model.specs.Calls.{Call, reply}

abbrev pub ZeroIsThrough : Type 0
ZeroIsThrough = (st ws : List ℕ) (call : Call) → eqb (answer_number (reply st ws call)) 0 ≡ went_through (reply st ws call)
