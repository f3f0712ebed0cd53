-- What holds instead of each misreading.
use Prim.Native.Nat.{ℕ, zero, suc, ◌+◌, ◌-◌, ◌<◌, max}
use native.Mathlib.Nat.{zero-mul}
use native.Mathlib.Omega.{arith}
use mathlib.Core.Path.{◌≡◌, refl}
use mathlib.Core.List.{List, [], ◌∷◌}
use Rattle.std.specs.Prelude.{Option, Some}
use lib.Dec.{leb, ltb}
use lib.ListN.{length, get_or}
use borrow.Author.Tests.{le-leb}
use Rattle.model.specs.declared.Class.{Class}
use Rattle.model.specs.declared.Class.TheVariants.{Feeders, Peers, Own}
use Rattle.model.specs.declared.Settings.{Settings}
use Rattle.runs.proofs.Cases.{by_test}
use Rattle.model.specs.Numbers.{raise, cap64, ceil, cap32}
use Rattle.model.specs.Settings.{usable_at, ring_of}
use Rattle.model.specs.Book.{Held, places_of, expire_class, expire}
use Rattle.model.specs.Register.{Ring, Register, Swept, generation_at, passed, visit, visits, sweep_ring, sweep_rings, through_of, sweep, published}
use Rattle.model.specs.Judge.{verdict}
use Rattle.model.specs.Calls.{step, no_register, least_published, compute_rules}
use Rattle.model.specs.SameAnswers.{served, state_after}
use Rattle.model.specs.Misreadings.{HeldIsDuplicate, NoLower, FloorStands, dumped_first, dumped_again, SlotOrderMayDiffer, UnsweptKeeps}

pub held_is_duplicate : HeldIsDuplicate
unfolding verdict
held_is_duplicate u reg a h = rw h

-- ---- the floor stands
pub same : (f : ℕ) (floor : Option ℕ) → floor ≡ Some f → NoLower f floor
same f floor e = record { level = f; there = e; no_lower = omega arith }

pub raised : (f n : ℕ) (floor : Option ℕ) → NoLower f floor → NoLower f (raise floor n)
unfolding raise
raised f n floor l = rw l.there (record { level = max l.level n; there = refl; no_lower = let k = l.no_lower in omega arith })

visit_stands : (f through b : ℕ) (w : Swept) → NoLower f w.floor → NoLower f (visit through b w).floor
unfolding visit
visit_stands f through b w l =
    by_test (passed through (generation_at w.ring b)) (λ e. rw e (raised f (generation_at w.ring b).newest w.floor l)) (λ e. rw e l)

visits_stand : (f n through b : ℕ) (w : Swept) → NoLower f w.floor → NoLower f (visits n through b w).floor
unfolding visits
visits_stand f zero through b w l = l
visits_stand f (suc n) through b w l = visits_stand f n through (suc b) (visit through b w) (visit_stands f through b w l)

ring_stands : (f from through : ℕ) (floor : Option ℕ) (ring : Ring) → NoLower f floor → NoLower f (sweep_ring from through floor ring).floor
unfolding sweep_ring
ring_stands f from through floor ring l = visits_stand f (through - from) through from (record { floor = floor; ring = ring }) l

rings_stand : (f from through : ℕ) (reg : Register) → NoLower f reg.floor → NoLower f (sweep_rings from through reg).floor
unfolding sweep_rings
rings_stand f from through reg l =
    ring_stands f from through _ reg.rings.of_own
    (ring_stands f from through _ reg.rings.of_peers (ring_stands f from through reg.floor reg.rings.of_feeders l))

pub floor_stands : FloorStands
unfolding sweep sweep_rings
floor_stands u ms reg f e =
    by_test reg.pending (λ p. rw p (same f reg.floor e))
    (λ p. by_test (leb (through_of u ms) reg.swept) (λ q. rw (p, q) (same f reg.floor e))
    (λ q. rw (p, q) (rings_stand f (max reg.swept (through_of u ms - ring_of u)) (through_of u ms) reg (same f reg.floor e))))

-- ---- slot order may differ
pub slot_order_may_differ : SlotOrderMayDiffer
unfolding compute_rules served state_after dumped_first dumped_again
slot_order_may_differ = record { first = refl; again = refl }

-- ---- an unswept register keeps every entry
least_zero : (s : Settings) (r : ℕ) (regs : List Register) (ms : ℕ) → ms ≡ 0 → least_published s r regs ms ≡ 0
unfolding least_published
least_zero s r [] ms e = e
least_zero s r (reg ∷ regs) ms e = least_zero s (suc r) regs _ (omega arith)

unswept_least : (s : Settings) (from : ℕ) (regs : List Register) (r ms : ℕ) → r < length regs → (get_or regs r no_register).swept ≡ 0
    → least_published s from regs ms ≡ 0
unfolding least_published published cap64
unswept_least s from [] r ms h e = absurd (omega arith)
unswept_least s from (reg ∷ regs) zero ms h e =
    least_zero s (suc from) regs _ (let z = zero-mul (usable_at s from).bucket in rw (e, z) (omega arith))
unswept_least s from (reg ∷ regs) (suc r) ms h e = unswept_least s (suc from) regs r _ (omega arith) e

nothing_goes : (h : Held) → (expire_class 0 h).places ≡ h.places
unfolding expire_class
nothing_goes h = by_test (ltb (cap32 (0 + 2)) h.expired) (λ a. rw a) (λ a. rw (a, le-leb 0 h.expired (omega arith)))

pub unswept_keeps : UnsweptKeeps
unfolding step expire cap32 ceil
unswept_keeps s t r h e ms c =
    let z = unswept_least s 0 t.registers r ms h e in
    rw z (kept c)
  where
    kept : (c : Class) → places_of c (expire 0 t.book) ≡ places_of c t.book
    kept Feeders = nothing_goes t.book.classes.of_feeders
    kept Peers = nothing_goes t.book.classes.of_peers
    kept Own = nothing_goes t.book.classes.of_own
