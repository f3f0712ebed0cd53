-- What an expire keeps, and the second that it stores (specs/Expiry). Assumes nothing.
use Prim.Native.Nat.{ℕ, ◌+◌, ◌≤◌, ◌<◌}
use native.Mathlib.Omega.{arith}
use mathlib.Core.Path.{◌≡◌, refl}
use mathlib.Core.Bool.{true}
use mathlib.Core.List.{List, [], ◌∷◌}
use lib.Dec.{leb, ltb}
use borrow.Author.Tests.{ltb-true, ltb-false, leb-false}
use Rattle.model.specs.declared.Class.TheVariants.{Feeders, Peers, Own}
use Rattle.runs.proofs.Cases.{split_if}
use Rattle.model.specs.Numbers.{top32, ceil, cap32}
use Rattle.model.specs.Book.{Pair, Place, Held, with_pairs, keep_place, later_pairs, later_places, expire_class, expire}
use Rattle.model.specs.Calls.{least_published, step}
use Rattle.model.specs.Expiry.{KeptPairs, no_pair, pair_goes, pair_stays, KeptPlaces, no_place, place_goes, place_stays, Expires, ExpireKeeps}
use Rattle.model.proofs.Seconds.{rounded_up}

-- ---- pairs, and places
pairs_kept : (t : ℕ) (qs : List Pair) → KeptPairs t qs (later_pairs t qs)
unfolding later_pairs
pairs_kept t [] = no_pair
pairs_kept t (q ∷ qs) =
    split_if (λ (kept : List Pair). KeptPairs t (q ∷ qs) kept) (ltb q.second t)
    (λ e. pair_goes (ltb-true q.second t e) (pairs_kept t qs)) (λ e. pair_stays (ltb-false q.second t e) (pairs_kept t qs))

place_kept : (t : ℕ) (p : Place) (ps kept : List Place) (qs : List Pair) → KeptPairs t p.pairs qs → KeptPlaces t ps kept
    → KeptPlaces t (p ∷ ps) (keep_place qs p kept)
unfolding keep_place with_pairs
place_kept t p ps kept [] k ks = place_goes k ks
place_kept t p ps kept (q ∷ qs) k ks = place_stays refl k (omega arith) ks

places_kept : (t : ℕ) (ps : List Place) → KeptPlaces t ps (later_places t ps)
unfolding later_places
places_kept t [] = no_place
places_kept t (p ∷ ps) = place_kept t p ps (later_places t ps) (later_pairs t p.pairs) (pairs_kept t p.pairs) (places_kept t ps)

-- ---- a class
-- a second that is below `expired` by more than 2 does not raise it
not_risen : (t expired : ℕ) → t ≤ top32 → ltb (cap32 (t + 2)) expired ≡ true → expired < t → ⊥
unfolding cap32
not_risen t expired h e l = let k = ltb-true (cap32 (t + 2)) expired e in omega arith

class_expires : (ms : ℕ) (h : Held) → Expires ms h (expire_class (cap32 (ceil ms 1_000)) h)
unfolding expire_class
class_expires ms h =
    let t = cap32 (ceil ms 1_000) in
    let up = rounded_up ms in
    split_if (λ (after : Held). Expires ms h after) (ltb (cap32 (t + 2)) h.expired)
    (λ e. record { freed = λ l. absurd (not_risen t h.expired up.capped e l); second = λ l. up; otherwise = λ l. refl })
    (λ e. split_if (λ (after : Held). Expires ms h after) (leb t h.expired)
    (λ d. record { freed = λ l. absurd (omega arith); second = λ l. absurd (omega arith); otherwise = λ l. refl })
    (λ d. let n = leb-false t h.expired d in
    record { freed = λ l. places_kept t h.places; second = λ l. up; otherwise = λ l. absurd (omega arith) }))

pub expire_keeps : ExpireKeeps
unfolding step expire
expire_keeps s t ms Feeders = class_expires (least_published s 0 t.registers ms) t.book.classes.of_feeders
expire_keeps s t ms Peers = class_expires (least_published s 0 t.registers ms) t.book.classes.of_peers
expire_keeps s t ms Own = class_expires (least_published s 0 t.registers ms) t.book.classes.of_own
