-- A register stays well formed: through a sweep, a strike for which room was found, and a generation that is dropped.
-- Assumes nothing.
use Prim.Native.Nat.{ℕ, zero, suc, ◌-◌, ◌%◌, ◌≤◌, ◌<◌, max}
use native.Mathlib.Omega.{arith}
use native.Mathlib.Nat.{mod-lt}
use mathlib.Core.Path.{◌≡◌, refl, sym, subst, ◌∙◌}
use mathlib.Core.Bool.{Bool, true, false, cond, not}
use Rattle.std.specs.Prelude.{Option, Some, None}
use lib.Dec.{leb, eqb}
use lib.ListN.{length, replicate, length-set, length-replicate}
use borrow.Author.Tests.{eqb-true, leb-true, not-false}
use Rattle.model.specs.declared.Class.{Class}
use Rattle.model.specs.declared.Class.TheVariants.{Feeders, Peers, Own}
use Rattle.model.specs.declared.Room.TheVariants.{At, Collides, Full}
use Rattle.model.specs.declared.Start.{Start}
use Rattle.model.specs.declared.Start.TheVariants.{Empty, Fallback, At as AtFloor}
use Rattle.model.specs.declared.Usable.{Usable}
use Rattle.runs.specs.Combine.{EachOk}
use Rattle.runs.proofs.Cases.{by_test, split_if, no}
use Rattle.runs.proofs.Each.{each_at, each_set}
use Rattle.model.specs.Settings.{ring_of}
use Rattle.model.specs.Class.{pick, swap}
use Rattle.model.specs.Generation.{Generation, empty, held, among, slots_for, insert, dropped}
use Rattle.model.specs.GenerationWords.{GenerationOk}
use Rattle.model.specs.Register.{Ring, Register, spare_words, generation_at, with_generation, with_floor, strike, passed, Swept, visit, visits, sweep_ring}
use Rattle.model.specs.Register.{sweep_rings, through_of, sweep, started_with, started, begin}
use Rattle.model.specs.RegisterWords.{register_form}
use Rattle.model.specs.Judge.{collides, make_room}
use Rattle.model.specs.Dump.{Dumped, drop_bucket, failed}
use Rattle.model.proofs.Choice.{and_false, swap_cases}
use Rattle.model.proofs.Growth.{empty_ok, dropped_ok, insert_ok}
use Rattle.model.proofs.Bounds.{ring_positive}

-- ---- a well-formed ring, of n generations of at most S slots, and a well-formed register, by class
pub record Placed (S n : ℕ) (ring : Ring) : Type 0 where
  pub long : length ring ≡ n
  pub each : EachOk (GenerationOk S n) 0 ring

abbrev pub RingOk : Usable → Ring → Type 0
RingOk u ring = Placed u.slots (ring_of u) ring

pub record RegisterOk (u : Usable) (reg : Register) : Type 0 where
  pub spare : length reg.spare ≡ spare_words
  pub rings : (c : Class) → RingOk u (pick c reg.rings)

pub from_form : (u : Usable) (reg : Register) → (register_form u).Ok reg → RegisterOk u reg
from_form u reg ok = record { spare = ok.0; rings = ring_of_class }
  where
    ring_of_class : (c : Class) → RingOk u (pick c reg.rings)
    ring_of_class Feeders = record { long = ok.1.0.0; each = ok.1.0.1 }
    ring_of_class Peers = record { long = ok.1.1.0.0; each = ok.1.1.0.1 }
    ring_of_class Own = record { long = ok.1.1.1.0; each = ok.1.1.1.1 }

pub to_form : (u : Usable) (reg : Register) → RegisterOk u reg → (register_form u).Ok reg
to_form u reg ok =
    (ok.spare, (((ok.rings Feeders).long, (ok.rings Feeders).each), (((ok.rings Peers).long, (ok.rings Peers).each), ((ok.rings Own).long, (ok.rings Own).each))))

-- ---- room was found at position i: in a generation of that bucket or one that holds nothing, and with slots enough
pub record RoomTold (known : Bool) (b i most j : ℕ) (g : Generation) : Type 0 where
  pub here : j ≡ i
  pub fits : slots_for known g.slots ≤ most
  pub agrees : collides b g ≡ false

pub room_told : (known : Bool) (b i most j : ℕ) (g : Generation)
    → cond (collides b g) Collides (cond (leb (slots_for known g.slots) most) (At i) Full) ≡ At j → RoomTold known b i most j g
room_told known b i most j g r =
    by_test (collides b g) (λ e. no (let z = rw e at r in cc))
    (λ e. by_test (leb (slots_for known g.slots) most)
    (λ d. let z = rw (e, d) at r in record { here = cc; fits = leb-true (slots_for known g.slots) most d; agrees = e })
    (λ d. no (let z = rw (e, d) at r in cc)))

pub room_at : (S b fp i : ℕ) (ring : Ring) → make_room S b fp ring ≡ At i
    → RoomTold (among fp (generation_at ring b).slots) b (b % length ring) S i (generation_at ring b)
unfolding make_room
room_at S b fp i ring r = room_told (among fp (generation_at ring b).slots) b (b % length ring) S i (generation_at ring b) r

pub room_found : (S b fp i : ℕ) (ring : Ring) {Q : Type 0} → make_room S b fp ring ≡ At i → ((generation_at ring b).bucket ≡ b → Q)
    → (held (generation_at ring b) ≡ 0 → Q) → Q
unfolding collides
room_found S b fp i ring r f g =
    let h = generation_at ring b in
    and_false (not (eqb h.bucket b)) (not (eqb (held h) 0)) (room_at S b fp i ring r).agrees
    (λ x. f (eqb-true h.bucket b (not-false (eqb h.bucket b) x)))
    (λ x. g (eqb-true (held h) 0 (not-false (eqb (held h) 0) x)))

module _ (S n : ℕ) where
  -- ---- one generation of a ring is read, and one is replaced
  pub at_ok : (ring : Ring) (b : ℕ) → 0 < n → Placed S n ring → GenerationOk S n (b % length ring) (generation_at ring b)
  at_ok ring b pos ok = each_at (GenerationOk S n) ring (b % length ring) empty ok.each (mod-lt b (omega (arith, ok.long)))

  pub with_ok : (ring : Ring) (b : ℕ) (g : Generation) → Placed S n ring → GenerationOk S n (b % length ring) g
      → Placed S n (with_generation ring b g)
  with_ok ring b g ok h = record {
    long = length-set ring (b % length ring) g ∙ ok.long;
    each = each_set (GenerationOk S n) ring (b % length ring) g ok.each h;
  }

  -- ---- a sweep
  pub visit_ok : (through b : ℕ) (w : Swept) → Placed S n w.ring → Placed S n (visit through b w).ring
  unfolding visit
  visit_ok through b w ok =
      let g = generation_at w.ring b in
      split_if (λ (x : Swept). Placed S n x.ring) (passed through g)
      (λ e. with_ok w.ring b (dropped g) ok (dropped_ok S n (b % length w.ring) g)) (λ e. ok)

  visits_ok : (k through b : ℕ) (w : Swept) → Placed S n w.ring → Placed S n (visits k through b w).ring
  unfolding visits
  visits_ok zero through b w ok = ok
  visits_ok (suc k) through b w ok = visits_ok k through (suc b) (visit through b w) (visit_ok through b w ok)

  pub swept_ok : (from through : ℕ) (f : Option ℕ) (ring : Ring) → Placed S n ring → Placed S n (sweep_ring from through f ring).ring
  unfolding sweep_ring
  swept_ok from through f ring ok = visits_ok (through - from) through from (record { floor = f; ring = ring }) ok

  -- ---- a generation is dropped if of that bucket
  pub drop_ok : (b : ℕ) (ring : Ring) → Placed S n ring → Placed S n (drop_bucket b ring)
  unfolding drop_bucket
  drop_ok b ring ok =
      let g = generation_at ring b in
      split_if (λ (x : Ring). Placed S n x) (eqb g.bucket b)
      (λ e. with_ok ring b (dropped g) ok (dropped_ok S n (b % length ring) g)) (λ e. ok)

  -- ---- a fingerprint is inserted where its bucket has room
  pub insert_in_ok : (b fp stamp i : ℕ) (ring : Ring) → S ≤ 1_024 → 0 < n → 0 < fp → make_room S b fp ring ≡ At i → Placed S n ring
      → Placed S n (with_generation ring b (insert b fp stamp (generation_at ring b)))
  insert_in_ok b fp stamp i ring small more pos r ok =
      let g = generation_at ring b in
      let new : GenerationOk S n (b % length ring) (insert b fp stamp g) =
      subst (λ (m : ℕ). GenerationOk S n (b % m) (insert b fp stamp g)) (sym ok.long)
      (insert_ok S n (b % length ring) g (at_ok ring b more ok) b fp stamp small pos (room_at S b fp i ring r).fits) in
      with_ok ring b (insert b fp stamp g) ok new

module _ (u : Usable) where
  pub ring_some : (ring : Ring) → RingOk u ring → 0 < length ring
  ring_some ring ok = omega (arith, ring_positive u, ok.long)

  -- a register in which one class's ring is replaced by another that is well formed
  pub swapped_ok : (c : Class) (x : Ring) (reg : Register) → RegisterOk u reg → RingOk u x → (d : Class) → RingOk u (pick d (swap c x reg.rings))
  swapped_ok c x reg ok fine d = swap_cases (λ (y : Ring). RingOk u y) c d x reg.rings (λ e. fine) (ok.rings d)

  -- ---- a sweep of all its rings
  rings_ok : (from through : ℕ) (reg : Register) → RegisterOk u reg → (c : Class) → RingOk u (pick c (sweep_rings from through reg).rings)
  unfolding sweep_rings
  rings_ok from through reg ok Feeders = swept_ok u.slots (ring_of u) from through _ _ (ok.rings Feeders)
  rings_ok from through reg ok Peers = swept_ok u.slots (ring_of u) from through _ _ (ok.rings Peers)
  rings_ok from through reg ok Own = swept_ok u.slots (ring_of u) from through _ _ (ok.rings Own)

  rings_spare : (from through : ℕ) (reg : Register) → RegisterOk u reg → length (sweep_rings from through reg).spare ≡ spare_words
  unfolding sweep_rings
  rings_spare from through reg ok = ok.spare

  pub sweep_ok : (ms : ℕ) (reg : Register) → RegisterOk u reg → RegisterOk u (sweep u ms reg)
  unfolding sweep
  sweep_ok ms reg ok =
      let through = through_of u ms in
      let from = max reg.swept (through - ring_of u) in
      split_if (λ (x : Register). RegisterOk u x) reg.pending (λ e. ok)
      (λ e. split_if (λ (x : Register). RegisterOk u x) (leb through reg.swept) (λ d. record { spare = ok.spare; rings = ok.rings })
      (λ d. record { spare = rings_spare from through reg ok; rings = rings_ok from through reg ok }))

  -- ---- a strike
  pub strike_ok : (c : Class) (b fp stamp i : ℕ) (reg : Register) → u.slots ≤ 1_024 → 0 < fp
      → make_room u.slots b fp (pick c reg.rings) ≡ At i → RegisterOk u reg → RegisterOk u (strike c b fp stamp reg)
  unfolding strike
  strike_ok c b fp stamp i reg small pos r ok =
      let ring = pick c reg.rings in
      let fine = insert_in_ok u.slots (ring_of u) b fp stamp i ring small (ring_positive u) pos r (ok.rings c) in
      record { spare = ok.spare; rings = swapped_ok c (with_generation ring b (insert b fp stamp (generation_at ring b))) reg ok fine }

  -- ---- a generation that failed, and another floor
  pub failed_ok : (c : Class) (d : Dumped) (reg : Register) → RegisterOk u reg → RegisterOk u (failed c d reg)
  unfolding failed
  failed_ok c d reg ok =
      let ring = pick c reg.rings in
      let fine = drop_ok u.slots (ring_of u) d.bucket ring (ok.rings c) in
      record { spare = ok.spare; rings = swapped_ok c (drop_bucket d.bucket ring) reg ok fine }

  pub floor_ok : (f : Option ℕ) (reg : Register) → RegisterOk u reg → RegisterOk u (with_floor f reg)
  floor_ok f reg ok = record { spare = ok.spare; rings = ok.rings }

  -- ---- begin
  pub begin_ok : (number : ℕ) (reg : Register) → RegisterOk u reg → RegisterOk u (begin number reg)
  unfolding begin
  begin_ok number reg ok =
      split_if (λ (x : Register). RegisterOk u x) reg.pending (λ e. record { spare = ok.spare; rings = ok.rings }) (λ e. ok)

  -- ---- a register that starts
  all_empty : (n i : ℕ) → EachOk (GenerationOk u.slots (ring_of u)) i (replicate n empty)
  unfolding EachOk
  all_empty zero i = tt
  all_empty (suc n) i = (empty_ok u.slots (ring_of u) i, all_empty n (suc i))

  start_ring : RingOk u (replicate (ring_of u) empty)
  start_ring = record { long = length-replicate (ring_of u) empty; each = all_empty (ring_of u) 0 }

  start_rings : (floor : Option ℕ) (pending : Bool) → RegisterOk u (started_with u floor pending)
  start_rings floor pending = record { spare = refl; rings = by_class }
    where
      by_class : (c : Class) → RingOk u (pick c (started_with u floor pending).rings)
      by_class Feeders = start_ring
      by_class Peers = start_ring
      by_class Own = start_ring

  pub started_ok : (s : Start) → RegisterOk u (started u s)
  unfolding started
  started_ok Empty = start_rings None false
  started_ok Fallback = start_rings None true
  started_ok (AtFloor f) = start_rings (Some f) false
