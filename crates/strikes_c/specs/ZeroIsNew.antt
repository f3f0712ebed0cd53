-- What a C host may read from the numbers of strikes_judge, strikes_judge_batch, strikes_take and strikes_take_batch: a returned 0 with
-- verdict 0 is exactly the answer New, and so of every verdict and its number. A refusal returns another number than 0, and leaves the out
-- number as it was, also where that is a verdict's number: so the number returned counts first. The customer's sentence:
--
-- "For any answer that is an enum, a definition gives this paper's number and values for each case. The promises use that definition."
use Rattle.std.specs.Prelude.{ℕ, ◌≡◌, List, [], ◌∷◌}
use Rattle.model.specs.declared.Manner.{Manner}
use Rattle.model.specs.declared.Verdict.{Verdict}
use Rattle.model.specs.declared.Verdict.TheVariants.{New}
use Rattle.model.specs.Answer.{Said}
use Rattle.model.specs.Codes.{verdict_number}
use Rattle.model.specs.Calls.{Call, reply}
use Rattle.strikes.specs.Calls.{asking}
use Rattle.strikes_c.specs.Out.{Returned}

-- one call, with its arguments as its contract has them; `old` is what the out number held before, `new` what it holds after
abbrev pub OfEachTicketCall : (List ℕ → List ℕ → Call → ℕ → ℕ → Type 0) → Type 0
OfEachTicketCall Says =
    (st ws : List ℕ) (m : Manner) (register fp stamp reading flag kind number : ℕ) (n : ℕ) (left : List ℕ) (old new : ℕ)
    → Returned st ws (asking m register fp stamp reading flag kind number) n left (old ∷ []) (new ∷ [])
    → Says st ws (asking m register fp stamp reading flag kind number) n new

-- a returned 0 with verdict 0 is exactly the answer New
pub record NewExactly (st ws : List ℕ) (call : Call) (n new : ℕ) : Type 0 where
  pub only : n ≡ 0 → new ≡ 0 → reply st ws call ≡ Said New
  pub always : reply st ws call ≡ Said New → (n ≡ 0) × (new ≡ 0)

abbrev pub ZeroIsNew : Type 0
ZeroIsNew = OfEachTicketCall NewExactly

-- and so of every verdict and its number
pub record VerdictExactly (st ws : List ℕ) (call : Call) (n new : ℕ) : Type 0 where
  pub only : (v : Verdict) → n ≡ 0 → new ≡ verdict_number v → reply st ws call ≡ Said v
  pub always : (v : Verdict) → reply st ws call ≡ Said v → (n ≡ 0) × (new ≡ verdict_number v)

abbrev pub VerdictsInNumbers : Type 0
VerdictsInNumbers = OfEachTicketCall VerdictExactly
