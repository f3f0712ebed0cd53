-- Stamps for wanted verdicts (specs/Stamp), by computing: after P1 alone, on the settings of the worked cases. Assumes nothing.
use Prim.Native.Nat.{ℕ}
use mathlib.Core.Path.{◌≡◌, refl}
use mathlib.Core.List.{List, [], ◌∷◌, ◌++◌, map}
use Rattle.model.specs.Answer.{Answer}
use Rattle.model.specs.Answer.{Refused, Done, Said, NoStamp, StampAt}
use Rattle.model.specs.declared.Verdict.TheVariants.{New}
use Rattle.model.specs.Calls.{Call, On, Close, StampFor, compute_rules}
use Rattle.model.specs.SameAnswers.{served, answers_from}
use Rattle.model.specs.Worked.{settings, before, P1}

-- what is asked: kind and number of the deliverer, reading, flag, fingerprint, and the verdict that is wanted
abbrev seek : ℕ → ℕ → ℕ → ℕ → ℕ → ℕ → Call
seek kind number ms flag fp wanted = On 0 (StampFor (record { fp = fp; ms = ms; flag = flag; kind = kind; number = number; wanted = wanted }))

abbrev after_P1 : List Call → List Answer
after_P1 calls = answers_from settings before (P1 ++ calls)

-- New, Duplicate, Late, Ahead, Full, Unjudged, and a number that is no verdict's
abbrev wanted : List ℕ
wanted = 0 ∷ 1 ∷ 2 ∷ 3 ∷ 4 ∷ 5 ∷ 6 ∷ []

-- ---- at 100,000, Feeder 1. New from the window's first stamp on; Duplicate from the first stamp of bucket 120, where 7 is held; Ahead past
-- the front
pub each_verdict : after_P1 (map (seek 0 1 100_000 1 7) wanted)
    ≡ Done ∷ Said New ∷ StampAt 90_000 ∷ StampAt 99_001 ∷ StampAt 0 ∷ StampAt 102_001 ∷ NoStamp ∷ NoStamp ∷ Refused 1 ∷ []
unfolding compute_rules served answers_from
each_verdict = refl

-- the book is closed: Full where it was New
pub closed : after_P1 (Close ∷ seek 0 1 100_000 1 7 0 ∷ seek 0 1 100_000 1 7 4 ∷ []) ≡ Done ∷ Said New ∷ Done ∷ NoStamp ∷ StampAt 90_000 ∷ []
unfolding compute_rules served answers_from
closed = refl

-- with the flag off every stamp is Unjudged
pub flag_off : after_P1 (map (seek 0 1 100_000 0 7) wanted)
    ≡ Done ∷ Said New ∷ NoStamp ∷ NoStamp ∷ NoStamp ∷ NoStamp ∷ NoStamp ∷ StampAt 0 ∷ Refused 1 ∷ []
unfolding compute_rules served answers_from
flag_off = refl

-- ---- at 5,000 nothing lies behind the window and there is no floor. For a Feeder bucket 24 has the position of bucket 120: Late from its
-- first stamp on. A Peer's ring is empty: no stamp is Late. Both are Ahead past the front
pub clash : after_P1 (seek 0 1 5_000 1 9 2 ∷ seek 1 9 5_000 1 9 2 ∷ seek 0 1 5_000 1 9 3 ∷ seek 1 9 5_000 1 9 3 ∷ [])
    ≡ Done ∷ Said New ∷ StampAt 3_001 ∷ NoStamp ∷ StampAt 7_001 ∷ StampAt 7_001 ∷ []
unfolding compute_rules served answers_from
clash = refl

-- ---- at 120,001 what bucket 120 held would be swept away; the sweep is not made, and at 100,000 it is held
pub swept_in_thought : after_P1 (seek 0 1 120_001 1 7 1 ∷ seek 0 1 100_000 1 7 1 ∷ []) ≡ Done ∷ Said New ∷ NoStamp ∷ StampAt 99_001 ∷ []
unfolding compute_rules served answers_from
swept_in_thought = refl
