-- "Reason behind a verdict" (request Q-5): "name the rule that gave the verdict take would give: pending, flag, held in which class (the
-- lowest), floor, window behind, window ahead, closed, own share, class limit, equal part, twice the limit, places, pairs, position
-- taken, slots, or accepted".
use Rattle.std.specs.Prelude.{ℕ, ◌+◌, ◌*◌, ◌/◌, not, ◌&&◌, List, [], ◌∷◌, ◌++◌, ltb}
use Rattle.model.specs.declared.Class.TheVariants.{Feeders, Peers, Own}
use Rattle.model.specs.declared.Deliverer.{Deliverer}
use Rattle.model.specs.declared.Reason.{Reason}
use Rattle.model.specs.declared.Reason.TheVariants.{Accepted, Pending, Flag, Held, Floor, Behind, Ahead, Closed, OwnShare}
use Rattle.model.specs.declared.Reason.TheVariants.{ClassLimit, EqualPart, TwiceLimit, Places, Pairs, Position, Slots}
use Rattle.model.specs.declared.Shares.{Shares}
use Rattle.model.specs.declared.Usable.{Usable}
use Rattle.model.specs.declared.Verdict.{Verdict}
use Rattle.model.specs.First.{Rule, rule, first_of}
use Rattle.model.specs.Numbers.{under}
use Rattle.model.specs.Class.{class_of, pick}
use Rattle.model.specs.Generation.{among, as_read, slots_for}
use Rattle.model.specs.Book.{Book, entries_of, places_of, second_of, together, below_share, fair, holders_with, own_after, units_after, place_free, pair_free}
use Rattle.model.specs.Register.{Ring, Register, generation_at, holds, sweep}
use Rattle.model.specs.Judge.{Ask, bucket_of, window_for, front_past, ahead_for, collides}
use Rattle.model.specs.Codes.{reason_verdict}

-- ---- each condition by itself, whatever comes before it; first those of the register, which is as judge's sweep leaves it
abbrev pub judge_rules : Usable → Register → Ask → List (Rule Reason)
judge_rules u reg a =
    let bucket = bucket_of u a.stamp in
    let fp = as_read a.fp in
    let window = window_for u a.who in
    rule Pending reg.pending
    ∷ rule Flag (not a.judging)
    ∷ rule (Held Feeders) (holds bucket fp reg.rings.of_feeders)
    ∷ rule (Held Peers) (holds bucket fp reg.rings.of_peers)
    ∷ rule (Held Own) (holds bucket fp reg.rings.of_own)
    ∷ rule Floor (under a.stamp reg.floor)
    ∷ rule Behind (ltb (a.stamp + window.behind) a.ms)
    ∷ rule Ahead (front_past window a.stamp a.ms)
    ∷ []

-- then those of the book. "Class limit is named for Relay and Restored only. Equal part means above T and own units above T / n; twice the limit
-- means above 2 × T."
abbrev pub share_rules : Shares → Deliverer → ℕ → Book → List (Rule Reason)
share_rules b who second k =
    let ps = places_of (class_of who) k in
    let t = together k.limits (class_of who) in
    let units = units_after b who ps in
    rule Closed k.closed
    ∷ rule OwnShare (not (below_share k.limits who (entries_of who ps)))
    ∷ rule ClassLimit (not (fair who) && ltb t units)
    ∷ rule EqualPart (ltb t units && ltb (t / holders_with who ps) (own_after b who ps))
    ∷ rule TwiceLimit (ltb (2 * t) units)
    ∷ rule Places (not (place_free b who ps))
    ∷ rule Pairs (not (pair_free b who second ps))
    ∷ []

-- and those of the generation at the bucket's position, whatever bucket it is of
abbrev pub room_rules : ℕ → ℕ → ℕ → Ring → List (Rule Reason)
room_rules most bucket fp ring =
    let g = generation_at ring bucket in
    rule Position (collides bucket g)
    ∷ rule Slots (ltb most (slots_for (among fp g.slots) g.slots))
    ∷ []

-- ---- all of them, in their order
unfoldable pub rules : Usable → Shares → Register → Book → Ask → List (Rule Reason)
rules u b reg k a =
    let bucket = bucket_of u a.stamp in
    judge_rules u reg a
    ++ (share_rules b a.who (second_of bucket u.bucket) k
    ++ room_rules u.slots bucket (as_read a.fp) (pick (class_of a.who) reg.rings))

-- the first that is met, or accepted
unfoldable pub first_rule : List (Rule Reason) → Reason
unfolding first_of
first_rule xs = first_of Accepted xs

-- "Shown, after judge's sweep"
unfoldable pub reason : Usable → Shares → Register → Book → Ask → Reason
reason u b reg k a = first_rule (rules u b (sweep u a.ms reg) k a)

-- what take_batch says by a rule that gives take's verdict
unfoldable pub batch_verdict : Usable → Ask → Reason → Verdict
batch_verdict u a x = ahead_for (front_past (window_for u a.who) a.stamp a.ms) (reason_verdict x)

-- the rules of this file, for a theorem that computes
unfoldable pub compute_reason : ℕ
unfolding first_of rules first_rule reason batch_verdict
compute_reason = 0
