-- The laws of proofs/Probing and proofs/Growth as the page specs/Growing states them. Assumes nothing.
use Prim.Native.Nat.{ℕ, ◌<◌}
use native.Mathlib.Omega.{arith}
use mathlib.Core.Path.{◌≡◌, refl}
use mathlib.Core.Bool.{Bool, true, false, ◌&&◌, ◌||◌}
use lib.Dec.{eqb}
use lib.ListN.{length}
use borrow.Author.Tests.{ne_eqb, le-leb}
use Rattle.runs.proofs.Cases.{by_test, both_true, no}
use Rattle.model.specs.declared.Class.{Class}
use Rattle.model.specs.declared.Class.TheVariants.{Feeders, Peers, Own}
use Rattle.model.specs.declared.Probe.{Probe}
use Rattle.model.specs.declared.Probe.TheVariants.{Held, Free, Nowhere}
use Rattle.model.specs.declared.Usable.{Usable}
use Rattle.model.specs.declared.Verdict.TheVariants.{New, Duplicate}
use Rattle.model.specs.Class.{Each, pick}
use Rattle.model.specs.Generation.{Generation, count, among, as_read, probe, insert}
use Rattle.model.specs.Register.{Ring, Register, generation_at, holds, any_class}
use Rattle.model.specs.Judge.{Ask, bucket_of, verdict, collides, make_room}
use Rattle.model.specs.Growing.{GrowthRule, HeldStays, HeldIsKept, HeldHasRoom, NewIsNotHeld, finds, ProbeFinds, InsertionHolds}
use Rattle.model.proofs.Choice.{or_false, and_false}
use Rattle.model.proofs.Probing.{found, probe_finds}
use Rattle.model.proofs.Growth.{slots_law, held_stays, held_kept, inserted, among_count, ok_found, insert_ok}
use Rattle.model.proofs.Judging.{read_positive}

pub growth_rule : GrowthRule
growth_rule s = let d = slots_law s in record { times = d.times; doubled = d.is; stops = d.enough; goes_on = d.least }

pub held_leaves_slots : HeldStays
held_leaves_slots s = held_stays s

pub held_is_kept : HeldIsKept
unfolding insert
held_is_kept S n i g ok b fp stamp pos t = held_kept g.slots fp pos (ok_found S n i g ok) t

pub held_has_room : HeldHasRoom
unfolding holds make_room collides
held_has_room S n i ring b fp ok h =
    let g = generation_at ring b in
    let t = both_true (eqb g.bucket b) (among fp g.slots) h in
    rw (t.0, t.1, held_stays g.slots, le-leb (length g.slots) S ok.fits)

-- ---- judged New: no class holds it
none_holds : (u : Usable) (reg : Register) (a : Ask) → verdict u reg a ≡ New → any_class (holds (bucket_of u a.stamp) (as_read a.fp)) reg.rings ≡ false
unfolding verdict
none_holds u reg a v =
    by_test (any_class (holds (bucket_of u a.stamp) (as_read a.fp)) reg.rings) (λ t. no (let z : Duplicate ≡ New = rw t at v in cc)) (λ t. t)

no_class : (f : Ring → Bool) (e : Each Ring) (c : Class) → any_class f e ≡ false → f (pick c e) ≡ false
no_class f e Feeders t = (or_false (f e.of_feeders) (f e.of_peers || f e.of_own) t).0
no_class f e Peers t = (or_false (f e.of_peers) (f e.of_own) (or_false (f e.of_feeders) (f e.of_peers || f e.of_own) t).1).0
no_class f e Own t = (or_false (f e.of_peers) (f e.of_own) (or_false (f e.of_feeders) (f e.of_peers || f e.of_own) t).1).1

-- where no other bucket is in its way, the generation is of its bucket, or holds nothing
not_among : (b fp : ℕ) (g : Generation) → 0 < fp → (eqb g.bucket b && among fp g.slots) ≡ false → collides b g ≡ false → among fp g.slots ≡ false
unfolding collides
not_among b fp g pos h free =
    and_false (eqb g.bucket b) (among fp g.slots) h
    (λ other. by_test (among fp g.slots)
    (λ t. let some = among_count fp g.slots pos t in
    let held_some = ne_eqb (count g.slots) 0 (λ z. omega arith) in
    no (let z : true ≡ false = rw (other, held_some) at free in cc)) (λ t. t))
    (λ t. t)

pub new_is_not_held : NewIsNotHeld
unfolding holds
new_is_not_held u reg a c v free =
    let b = bucket_of u a.stamp in
    let fp = as_read a.fp in
    not_among b fp (generation_at (pick c reg.rings) b) (read_positive a.fp) (no_class (holds b fp) reg.rings c (none_holds u reg a v)) free

finds_is : (p : Probe) → finds p ≡ found p
finds_is (Held i) = refl
finds_is (Free i) = refl
finds_is Nowhere = refl

pub probe_finds_held : ProbeFinds
probe_finds_held S n i g ok fp pos = rw (finds_is (probe g.slots fp)) (probe_finds g.slots fp (ok_found S n i g ok) pos)

pub insertion_holds : InsertionHolds
insertion_holds S n i g ok b fp stamp small pos fit =
    let ins = inserted b fp stamp g pos (ok_found S n i g ok) in
    record { ok = insert_ok S n i g ok b fp stamp small pos fit; slots = ins.slots; holds = ins.holds }
