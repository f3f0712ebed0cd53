-- A dump that is restored onto what holds it already (specs/SameDump). Assumes nothing.
use Prim.Native.Nat.{ℕ, suc, ◌%◌, ◌<◌}
use native.Mathlib.Omega.{arith}
use native.Mathlib.Nat.{mod-lt}
use mathlib.Core.Path.{◌≡◌, refl, ap, ap₂, sym, ◌∙◌, subst}
use mathlib.Core.Bool.{Bool, true, false, not}
use mathlib.Core.List.{List, [], ◌∷◌, map}
use lib.Dec.{eqb}
use lib.ListN.{length, get_or, length-set}
use lib.Seq.{get_or-set_same, get_or-set_other}
use borrow.Author.Tests.{eqb-true, eqb-false}
use Rattle.model.specs.declared.Class.{Class}
use Rattle.model.specs.declared.Class.TheVariants.{Feeders, Peers, Own}
use Rattle.model.specs.declared.Deliverer.TheVariants.{Restored}
use Rattle.model.specs.declared.Room.{Room}
use Rattle.model.specs.declared.Room.TheVariants.{At, Collides, Full as NoSlots}
use Rattle.model.specs.declared.Usable.{Usable}
use Rattle.model.specs.declared.Shares.{Shares}
use Rattle.runs.proofs.Cases.{by_test, split_if, both_true, no}
use Rattle.model.specs.Settings.{ring_of}
use Rattle.model.specs.Class.{pick}
use Rattle.model.specs.Generation.{Generation, empty, among, as_read, insert}
use Rattle.model.specs.Book.{Book, second_of, granted, draw_says, drawn}
use Rattle.model.specs.Register.{Ring, Register, generation_at, with_generation, holds, strike}
use Rattle.model.specs.Dump.{Dumped, Holding, hold_room, hold_one, hold_all, Restoring, begun, settled, restore_class, raised_to_dumped, restore}
use Rattle.model.specs.SameDump.{slots_in, all_held, SameDumpAgain, HeldAsksAShare, each_held, WholeDumpAgain}
use Rattle.model.proofs.Choice.{swap_cases}
use Rattle.model.proofs.Probing.{Found}
use Rattle.model.proofs.Growth.{held_kept, ok_found}
use Rattle.model.proofs.Bounds.{ring_positive}
use Rattle.model.proofs.RingsKept.{RegisterOk, from_form, ring_some, at_ok}
use Rattle.model.proofs.Growing.{held_has_room}
use Rattle.model.proofs.Judging.{read_positive}

-- ---- rings of which no bucket and no slot has moved
record StillRing (from to : Ring) : Type 0 where
  long : length to ≡ length from
  bucket : (j : ℕ) → (get_or to j empty).bucket ≡ (get_or from j empty).bucket
  slots : (j : ℕ) → (get_or to j empty).slots ≡ (get_or from j empty).slots

record Still (from to : Register) : Type 0 where
  rings : (c : Class) → StillRing (pick c from.rings) (pick c to.rings)

same_ring : (ring : Ring) → StillRing ring ring
same_ring ring = record { long = refl; bucket = λ j. refl; slots = λ j. refl }

same_all : (reg : Register) → Still reg reg
same_all reg = record { rings = λ c. same_ring (pick c reg.rings) }

then_ring : (a b c : Ring) → StillRing a b → StillRing b c → StillRing a c
then_ring a b c p q = record { long = q.long ∙ p.long; bucket = λ j. q.bucket j ∙ p.bucket j; slots = λ j. q.slots j ∙ p.slots j }

then_all : (a b c : Register) → Still a b → Still b c → Still a c
then_all a b c p q = record { rings = λ k. then_ring (pick k a.rings) (pick k b.rings) (pick k c.rings) (p.rings k) (q.rings k) }

-- slots by position are all slots
ring_slots : (from to : Ring) → length to ≡ length from → ((j : ℕ) → (get_or to j empty).slots ≡ (get_or from j empty).slots)
    → map (λ (g : Generation). g.slots) to ≡ map (λ (g : Generation). g.slots) from
ring_slots [] [] l same = refl
ring_slots [] (h ∷ to) l same = absurd (omega arith)
ring_slots (g ∷ from) [] l same = absurd (omega arith)
ring_slots (g ∷ from) (h ∷ to) l same = ap₂ (λ (x : List ℕ) (xs : List (List ℕ)). x ∷ xs) (same 0) (ring_slots from to (omega arith) (λ j. same (suc j)))

still_slots : (from to : Register) → Still from to → slots_in to ≡ slots_in from
still_slots from to s =
    let a = ring_slots from.rings.of_feeders to.rings.of_feeders (s.rings Feeders).long (s.rings Feeders).slots in
    let b = ring_slots from.rings.of_peers to.rings.of_peers (s.rings Peers).long (s.rings Peers).slots in
    let c = ring_slots from.rings.of_own to.rings.of_own (s.rings Own).long (s.rings Own).slots in
    rw (a, b, c)

-- what is held stays held, in the same buckets
still_at : (from to : Ring) (b : ℕ) → StillRing from to → (generation_at to b).slots ≡ (generation_at from b).slots
still_at from to b s = s.slots (b % length to) ∙ ap (λ (n : ℕ). (get_or from (b % n) empty).slots) s.long

still_holds : (from to : Ring) (b fp : ℕ) → StillRing from to → holds b fp to ≡ holds b fp from
unfolding holds
still_holds from to b fp s =
    let e : (generation_at to b).bucket ≡ (generation_at from b).bucket =
    s.bucket (b % length to) ∙ ap (λ (n : ℕ). (get_or from (b % n) empty).bucket) s.long in
    rw (e, still_at from to b s)

-- ---- a strike of what is held
module _ (b fp stamp : ℕ) (ring : Ring) (pos : 0 < fp) (low : b % length ring < length ring) (f : Found (generation_at ring b).slots) (h : holds b fp ring ≡ true) where
  struck_ring : StillRing ring (with_generation ring b (insert b fp stamp (generation_at ring b)))
  unfolding holds insert
  struck_ring =
      let i = b % length ring in
      let g = generation_at ring b in
      let x = insert b fp stamp g in
      let t = both_true (eqb g.bucket b) (among fp g.slots) h in
      let one = get_or-set_same ring i x empty low in
      record {
        long = length-set ring i x;
        bucket = λ j. by_test (eqb j i) (λ e. rw (eqb-true j i e, one) (sym (eqb-true g.bucket b t.0)))
            (λ e. ap (λ (y : Generation). y.bucket) (get_or-set_other ring i j x empty (eqb-false j i e)));
        slots = λ j. by_test (eqb j i) (λ e. rw (eqb-true j i e, one) (held_kept g.slots fp pos f t.1))
            (λ e. ap (λ (y : Generation). y.slots) (get_or-set_other ring i j x empty (eqb-false j i e)));
      }

struck_still : (c : Class) (b fp stamp : ℕ) (reg : Register) → 0 < fp → b % length (pick c reg.rings) < length (pick c reg.rings)
    → Found (generation_at (pick c reg.rings) b).slots → holds b fp (pick c reg.rings) ≡ true → Still reg (strike c b fp stamp reg)
unfolding strike
struck_still c b fp stamp reg pos low f h =
    let ring = pick c reg.rings in
    let x = with_generation ring b (insert b fp stamp (generation_at ring b)) in
    record {
      rings = λ d. swap_cases (λ (y : Ring). StillRing (pick d reg.rings) y) c d x reg.rings
          (λ e. subst (λ (k : Class). StillRing (pick k reg.rings) x) e (struck_ring b fp stamp ring pos low f h)) (same_ring (pick d reg.rings));
    }

-- ---- one generation of a dump, over a well-formed register that nothing of it has moved
module _ (u : Usable) (b : Shares) (reg : Register) (ok : RegisterOk u reg) where
  module _ (c : Class) (d : Dumped) where
    room_still : (fp : ℕ) (h : Holding) (k : Book) (m : Room) → Still reg h.register → holds d.bucket (as_read fp) (pick c reg.rings) ≡ true
        → Still reg (hold_room c d fp h k m).register
    unfolding hold_room
    room_still fp h k (At i) s t =
        let from = pick c reg.rings in
        let to = pick c h.register.rings in
        let r = s.rings c in
        let some_there = ring_some u from (ok.rings c) in
        let low : d.bucket % length to < length to = mod-lt d.bucket (omega (arith, r.long, some_there)) in
        let f : Found (generation_at to d.bucket).slots =
        subst Found (sym (still_at from to d.bucket r))
        (ok_found u.slots (ring_of u) (d.bucket % length from) (generation_at from d.bucket) (at_ok u.slots (ring_of u) from d.bucket (ring_positive u) (ok.rings c))) in
        then_all reg h.register (strike c d.bucket (as_read fp) d.newest h.register) s
        (struck_still c d.bucket (as_read fp) d.newest h.register (read_positive fp) low f (still_holds from to d.bucket (as_read fp) r ∙ t))
    room_still fp h k Collides s t = s
    room_still fp h k NoSlots s t = s

    one_still : (fp : ℕ) (h : Holding) → Still reg h.register → holds d.bucket (as_read fp) (pick c reg.rings) ≡ true
        → Still reg (hold_one u b c d fp h).register
    unfolding hold_one
    one_still fp h s t =
        let second = second_of d.bucket u.bucket in
        split_if (λ (x : Holding). Still reg x.register) (not h.fits) (λ e. s)
        (λ e. split_if (λ (x : Holding). Still reg x.register) (granted (draw_says b (Restored c) second h.book))
        (λ g. room_still fp h (drawn b (Restored c) second h.book) _ s t) (λ g. s))

    all_still : (fps : List ℕ) (h : Holding) → Still reg h.register → all_held d.bucket fps (pick c reg.rings) ≡ true
        → Still reg (hold_all u b c d fps h).register
    unfolding hold_all all_held
    all_still [] h s t = s
    all_still (fp ∷ fps) h s t =
        let p = both_true (holds d.bucket (as_read fp) (pick c reg.rings)) (all_held d.bucket fps (pick c reg.rings)) t in
        all_still fps (hold_one u b c d fp h) (one_still fp h s p.0) p.1

pub same_dump_again : SameDumpAgain
same_dump_again u b c d h ok t =
    let reg = h.register in
    still_slots reg (hold_all u b c d d.prints h).register (all_still u b reg (from_form u reg ok) c d d.prints h (same_all reg) t)

-- and a held fingerprint fails by its draw alone
room_fits : (c : Class) (d : Dumped) (fp : ℕ) (h : Holding) (k : Book) (i : ℕ) (m : Room) → m ≡ At i → (hold_room c d fp h k m).fits ≡ true
unfolding hold_room
room_fits c d fp h k i m e = rw e

pub held_asks_a_share : HeldAsksAShare
unfolding hold_one
held_asks_a_share u b c d fp h ok fits t =
    let ring = pick c h.register.rings in
    let fine = (from_form u h.register ok).rings c in
    let at = at_ok u.slots (ring_of u) ring d.bucket (ring_positive u) fine in
    let room = held_has_room u.slots (ring_of u) (d.bucket % length ring) ring d.bucket (as_read fp) at t in
    let second = second_of d.bucket u.bucket in
    let says = granted (draw_says b (Restored c) second h.book) in
    split_if (λ (x : Holding). x.fits ≡ says) (not h.fits) (λ e. no (let z : false ≡ true = rw fits at e in cc))
    (λ e. split_if (λ (x : Holding). x.fits ≡ says) says
    (λ g. room_fits c d fp h (drawn b (Restored c) second h.book) (d.bucket % length ring) _ room ∙ sym g) (λ g. sym g))

-- ---- a whole dump
module _ (u : Usable) (b : Shares) where
  -- what is Whole in the end was Whole all along, so that every generation fitted
  settled_fits : (c : Class) (d : Dumped) (whole : Bool) (h : Holding) → (settled u c d whole h).whole ≡ true → (h.fits ≡ true) × (whole ≡ true)
  unfolding settled
  settled_fits c d whole h w =
      by_test h.fits (λ e. (e, rw e at w)) (λ e. no (let z : false ≡ true = rw e at w in cc))

  pub whole_before : (c : Class) (ds : List Dumped) (r : Restoring) → (restore_class u b c ds r).whole ≡ true → r.whole ≡ true
  unfolding restore_class
  whole_before c [] r w = w
  whole_before c (d ∷ ds) r w = (settled_fits c d r.whole (hold_all u b c d d.prints (begun r)) (whole_before c ds _ w)).1

  -- and its registers are those that the generations left
  settled_leaves : (c : Class) (d : Dumped) (whole : Bool) (h : Holding) → h.fits ≡ true → (settled u c d whole h).register ≡ h.register
  unfolding settled
  settled_leaves c d whole h e = rw e

  -- the first generation of a class, where the class comes out Whole
  pub first_leaves : (c : Class) (d : Dumped) (ds : List Dumped) (r : Restoring) → (restore_class u b c (d ∷ ds) r).whole ≡ true
      → (settled u c d r.whole (hold_all u b c d d.prints (begun r))).register ≡ (hold_all u b c d d.prints (begun r)).register
  unfolding restore_class
  first_leaves c d ds r w =
      let h = hold_all u b c d d.prints (begun r) in
      settled_leaves c d r.whole h (settled_fits c d r.whole h (whole_before c ds _ w)).0

  module _ (reg : Register) (ok : RegisterOk u reg) where
    class_still : (c : Class) (ds : List Dumped) (r : Restoring) → Still reg r.register → each_held ds (pick c reg.rings) ≡ true
        → (restore_class u b c ds r).whole ≡ true → Still reg (restore_class u b c ds r).register
    unfolding restore_class each_held
    class_still c [] r s t w = s
    class_still c (d ∷ ds) r s t w =
        let p = both_true (all_held d.bucket d.prints (pick c reg.rings)) (each_held ds (pick c reg.rings)) t in
        let one = all_still u b reg ok c d d.prints (begun r) s p.0 in
        class_still c ds _ (subst (Still reg) (sym (first_leaves c d ds r w)) one) p.1 w

pub whole_dump_again : WholeDumpAgain
unfolding restore raised_to_dumped
whole_dump_again u b d reg k ok t w =
    let fine = from_form u reg ok in
    let r₀ : Restoring = record { register = raised_to_dumped d.floor reg; book = k; whole = true } in
    let r₁ = restore_class u b Feeders d.classes.of_feeders r₀ in
    let r₂ = restore_class u b Peers d.classes.of_peers r₁ in
    let w₂ = whole_before u b Own d.classes.of_own r₂ w in
    let w₁ = whole_before u b Peers d.classes.of_peers r₁ w₂ in
    let s₀ : Still reg r₀.register = record { rings = λ c. same_ring (pick c reg.rings) } in
    let s₁ = class_still u b reg fine Feeders d.classes.of_feeders r₀ s₀ (t Feeders) w₁ in
    let s₂ = class_still u b reg fine Peers d.classes.of_peers r₁ s₁ (t Peers) w₂ in
    still_slots reg (restore u b d reg k).register (class_still u b reg fine Own d.classes.of_own r₂ s₂ (t Own) w)
