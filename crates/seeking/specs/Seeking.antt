-- The model's rules of a sought stamp, as the functions of this crate name them.
use Rattle.std.specs.Prelude.{ℕ, ◌+◌, Bool, List, [], ◌∷◌, Option, None}
use Rattle.model.specs.declared.Class.{Class}
use Rattle.model.specs.declared.Settings.{Settings}
use Rattle.model.specs.declared.Usable.{Usable}
use Rattle.model.specs.declared.Verdict.{Verdict}
use Rattle.model.specs.Settings.{usable_at}
use Rattle.model.specs.Class.{pick}
use Rattle.model.specs.Codes.{same_verdict}
use Rattle.model.specs.Judge.{Ask, window_for}
use Rattle.model.specs.Reason.{batch_verdict}
use Rattle.model.specs.Stamp.{with_stamp, first_stamp, edge_stamps, ring_stamps, better, least_from, stamp_for}
use Rattle.model.specs.Words.{State}
use Rattle.model.specs.Calls.{register_at}
use Rattle.ring.specs.Ring.{bucket_in}
use Rattle.register.specs.Rules.{asked_by}
use Rattle.taking.specs.Reasons.{reason_seen}
use Rattle.seeking.specs.declared.quest.Quest.{Quest}

-- ---- what is asked about
abbrev pub usable_for : Quest → Usable
usable_for q = usable_at q.on.s q.on.r

-- ---- the verdict at a stamp, after the sweep that was seen
abbrev pub asked_at : Quest → ℕ → Ask
asked_at q x = with_stamp x (asked_by q.ask)

unfoldable pub verdict_seen : Quest → ℕ → State → Verdict
verdict_seen q x t = batch_verdict (usable_for q) (asked_at q x) (reason_seen q.on.s q.on.r q.seen (asked_at q x) t)

abbrev pub gives : Quest → State → ℕ → Bool
gives q t x = same_verdict q.wanted (verdict_seen q x t)

-- ---- the least stamp that gives it
unfoldable pub better_seen : Quest → ℕ → Option ℕ → State → Option ℕ
better_seen q x best t = better (gives q t) x best

unfoldable pub least_seen : Quest → List ℕ → Option ℕ → State → Option ℕ
least_seen q xs best t = least_from (gives q t) xs best

unfoldable pub edges_seen : Quest → State → Option ℕ
edges_seen q t = least_from (gives q t) (edge_stamps (window_for (usable_for q) q.ask.who) q.ask.now.0 q.seen.floor) None

abbrev pub around_bucket : Usable → ℕ → List ℕ
around_bucket u b = first_stamp u b ∷ first_stamp u (b + 1) ∷ []

unfoldable pub bucket_seen : Quest → Class → ℕ → State → ℕ
bucket_seen q c i t = bucket_in i (pick c (register_at q.on.r t).rings)

unfoldable pub ring_seen : Quest → Class → Option ℕ → State → Option ℕ
ring_seen q c best t = least_from (gives q t) (ring_stamps (usable_for q) (pick c (register_at q.on.r t).rings)) best

-- ---- the whole
unfoldable pub sought_by : Settings → ℕ → Ask → Verdict → State → Option ℕ
sought_by s r a wanted t = stamp_for (usable_at s r) s.shares (register_at r t) t.book a wanted
