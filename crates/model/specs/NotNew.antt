-- "A take that is not New leaves the words as judge leaves them."
-- Of any words, settings and register: a refused take is not New either, and then judge is refused too and neither alters anything.
use Rattle.std.specs.Prelude.{ℕ, ◌≡◌, List}
use Rattle.model.specs.declared.Manner.{Manner}
use Rattle.model.specs.declared.Manner.TheVariants.{Judged, JudgedBatch, Taken, TakenBatch}
use Rattle.model.specs.declared.Verdict.TheVariants.{New}
use Rattle.model.specs.Answer.{Said}
use Rattle.model.specs.Calls.{Asking, Ticket, On, reply, after}

-- the take of one manner answers other than New: then the judge of the other leaves the same words
abbrev pub LeavesAs : Manner → Manner → Type 0
LeavesAs take judge =
    (st ws : List ℕ) (r : ℕ) (a : Asking) → (reply st ws (On r (Ticket take a)) ≡ Said New → ⊥)
    → after st ws (On r (Ticket take a)) ≡ after st ws (On r (Ticket judge a))

-- the promise, for take and for take_batch
abbrev pub NotNewLeavesWords : Type 0
NotNewLeavesWords = LeavesAs Taken Judged × LeavesAs TakenBatch JudgedBatch
