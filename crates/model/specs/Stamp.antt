-- Request Q-13: "the smallest 64-bit stamp for which `take_batch` would answer the wanted verdict, or none". Every test in `take_batch`
-- changes its outcome at stamps of a short list alone, so the smallest stamp with a verdict is in that list. No other stamp is tried.
use Rattle.std.specs.Prelude.{ℕ, zero, suc, ◌+◌, ◌-◌, ◌*◌, Bool, true, ◌&&◌, Option, Some, None, List, [], ◌∷◌, ◌++◌, ltb, if◌then◌else◌}
use Rattle.model.specs.declared.Usable.{Usable}
use Rattle.model.specs.declared.Verdict.{Verdict}
use Rattle.model.specs.declared.Shares.{Shares}
use Rattle.model.specs.declared.Window.{Window}
use Rattle.model.specs.Numbers.{cap64}
use Rattle.model.specs.Settings.{retained, ring_of}
use Rattle.model.specs.Codes.{same_verdict}
use Rattle.model.specs.Book.{Book}
use Rattle.model.specs.Register.{Ring, Register, through_of, sweep}
use Rattle.model.specs.Judge.{Ask, window_for, take_batch}

-- the question about another stamp, and what `take_batch` answers to it
abbrev pub with_stamp : ℕ → Ask → Ask
with_stamp x a = record { fp = a.fp; stamp = x; ms = a.ms; judging = a.judging; who = a.who }

unfoldable pub batch_at : Usable → Shares → Register → Book → Ask → ℕ → Verdict
batch_at u b reg book a x = (take_batch u b reg book (with_stamp x a)).says

-- ---- the stamps that are tried
-- the smallest stamp whose bucket is b or a later one, if any stamp's is
unfoldable pub first_stamp : Usable → ℕ → ℕ
first_stamp u b = cap64 (cap64 ((b - 1) * u.bucket) + 1) - retained u

unfoldable pub floor_stamps : Option ℕ → List ℕ
floor_stamps None = []
floor_stamps (Some f) = cap64 (f + 1) ∷ []

-- 0, the window's first, the first past its front, and the first above the floor, if there is one
unfoldable pub edge_stamps : Window → ℕ → Option ℕ → List ℕ
edge_stamps w ms floor = 0 ∷ (ms - w.behind) ∷ cap64 (ms + w.ahead + 1) ∷ floor_stamps floor

-- the first of each of n buckets from b on
unfoldable pub bucket_stamps : Usable → ℕ → ℕ → List ℕ
bucket_stamps u b zero = []
bucket_stamps u b (suc n) = first_stamp u b ∷ bucket_stamps u (suc b) n

-- of the buckets that a window at this reading can have
unfoldable pub window_stamps : Usable → ℕ → List ℕ
window_stamps u ms = bucket_stamps u (through_of u ms) (ring_of u)

-- the first of every generation's bucket and of the one after it, whether it holds anything or not
unfoldable pub ring_stamps : Usable → Ring → List ℕ
ring_stamps u [] = []
ring_stamps u (g ∷ gs) = first_stamp u g.bucket ∷ first_stamp u (g.bucket + 1) ∷ ring_stamps u gs

-- of a register after its sweep
unfoldable pub stamps : Usable → Register → Ask → List ℕ
stamps u reg a =
    edge_stamps (window_for u a.who) a.ms reg.floor
    ++ (window_stamps u a.ms
    ++ (ring_stamps u reg.rings.of_feeders ++ (ring_stamps u reg.rings.of_peers ++ ring_stamps u reg.rings.of_own)))

-- ---- the least of them that meets a test
abbrev pub below : ℕ → Option ℕ → Bool
below x None = true
below x (Some best) = ltb x best

unfoldable pub better : (ℕ → Bool) → ℕ → Option ℕ → Option ℕ
better meets x best = if below x best && meets x then Some x else best

unfoldable pub least_from : (ℕ → Bool) → List ℕ → Option ℕ → Option ℕ
least_from meets [] best = best
least_from meets (x ∷ xs) best = least_from meets xs (better meets x best)

-- ---- the call: the stamp of the question is not read
unfoldable pub stamp_for : Usable → Shares → Register → Book → Ask → Verdict → Option ℕ
stamp_for u b reg book a wanted =
    least_from (λ x. same_verdict wanted (batch_at u b reg book a x)) (stamps u (sweep u a.ms reg) a) None

-- the rules of this file, for a theorem that computes
unfoldable pub compute_stamp : ℕ
unfolding batch_at first_stamp floor_stamps edge_stamps bucket_stamps window_stamps ring_stamps stamps better least_from stamp_for
compute_stamp = 0
