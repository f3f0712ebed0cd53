-- "The clock or host: Unjudged (pending, or flag off; nothing altered)."
-- A judge, a take or one of their batch forms that answers Unjudged leaves every word as it was: of any words, settings and register.
use Rattle.std.specs.Prelude.{ℕ, ◌≡◌, List}
use Rattle.model.specs.declared.Manner.{Manner}
use Rattle.model.specs.declared.Verdict.TheVariants.{Unjudged}
use Rattle.model.specs.Answer.{Said}
use Rattle.model.specs.Calls.{Asking, Ticket, On, reply, after}

-- in all four manners
abbrev pub UnjudgedLeaves : Type 0
UnjudgedLeaves =
    (st ws : List ℕ) (r : ℕ) (m : Manner) (a : Asking) → reply st ws (On r (Ticket m a)) ≡ Said Unjudged → after st ws (On r (Ticket m a)) ≡ ws
