-- A ring as a sweep would leave it, read without one. Assumes nothing.
use Prim.Native.Nat.{ℕ, suc, ◌+◌, ◌-◌, ◌%◌, ◌<◌, ◌≤◌}
use native.Mathlib.Numerals.{add-one}
use native.Mathlib.Omega.{arith}
use mathlib.Core.Path.{◌≡◌, refl, ap, sym, ◌∙◌}
use mathlib.Core.Bool.{Bool, true, false, cond, not, ◌&&◌, and-true}
use mathlib.Core.Logic.{◌⊎◌, inl, inr}
use mathlib.Core.List.{List}
use lib.Dec.{eqb, ltb}
use lib.ListN.{length, get_or}
use borrow.Author.Tests.{eq-eqb, ne_eqb, le-leb, lt-ltb, le-ltb}
use borrow.Rule.Slice.PartMut.{mid_of}
use Rattle.runs.proofs.Cases.{by_test, both_true}
use Rattle.runs.proofs.Turns.{reads_as}
use Rattle.model.specs.declared.Room.{Room}
use Rattle.model.specs.declared.Room.TheVariants.{At}
use Rattle.model.specs.Widths.{generation_width}
use Rattle.model.specs.Generation.{Generation, empty, count, held, among, doubled, slots_for, dropped}
use Rattle.model.specs.Register.{Ring, generation_at, holds, passed, sweep_ring}
use Rattle.model.specs.Judge.{collides, make_room}
use Rattle.model.proofs.Growth.{ok_ways}
use Rattle.model.proofs.Visited.{visited, visited_is, left_at, visits_at, visits_long}
use Rattle.model.proofs.Peeked.{peek, peeks, visits_floor}
use Rattle.std.specs.Prelude.{Option, None}
use Rattle.generation.specs.declared.Generation.{Generation as Leading}
use Rattle.generation.specs.Rules.{sweep_says}
use Rattle.generation.specs.Words.{Leads}
use Rattle.ring.specs.declared.Buckets.{Buckets}
use Rattle.ring.specs.Ring.{places, RingReads, PositionOf, StartsAt}
use Rattle.ring.specs.Sweep.{swept_ring, swept_says, raised_by, Visits, goes_at, holds_after, room_after}
use Rattle.ring.proofs.Positions.{place_is}
use Rattle.ring.proofs.Finding.{bucket_told}

-- ---- the newest that would go: the loop of every ring stands on the way of its peeks
peek_says : (through : ℕ) (g : Generation) (f : Option ℕ) → raised_by (sweep_says through g) f ≡ peek through g f
peek_says through g f = by_test (passed through g) (λ e. rw e) (λ e. rw e)

pub record OnLook (from through : ℕ) (ring : Ring) (b : ℕ) (so_far : Option ℕ) : Type 0 where
  pub at : Option ℕ
  pub says : so_far ≡ at
  pub left : peeks (through - b) through b ring at ≡ peeks (through - from) through from ring None

pub record Looks (S n from through : ℕ) (ws : List ℕ) (b : ℕ) (so_far : Option ℕ) : Type 0 where
  pub way : (ring : Ring) → (places S n).Ok ring → ws ≡ (places S n).enc ring → OnLook from through ring b so_far

module _ (S n from through : ℕ) (ws : List ℕ) where
  pub peek_start : Looks S n from through ws from None
  peek_start = record { way = λ ring ok is. record { at = None; says = refl; left = refl } }

  module _ (b : ℕ) (so_far : Option ℕ) (l : Looks S n from through ws b so_far) where
    pub peek_on : b < through → (more : Option ℕ) → RingReads S n (λ ring. sweep_says through (generation_at ring b)) ws more
        → (next : Option ℕ) → next ≡ raised_by more so_far → Looks S n from through ws (b + 1) next
    unfolding peeks
    peek_on h more t next e = record {
      way = λ ring ok is.
          let o = l.way ring ok is in
          let g = generation_at ring b in
          let one : through - b ≡ suc (through - suc b) = omega arith in
          record {
            at = peek through g o.at;
            says = e ∙ rw (o.says, t.says ring ok is) (peek_says through g o.at);
            left = rw add-one (rw one at o.left);
          };
    }

    pub peek_end : through ≤ b → 0 < n → RingReads S n (swept_says from through) ws so_far
    unfolding peeks sweep_ring
    peek_end h pos = record {
      says = λ ring ok is.
          let o = l.way ring ok is in
          let z : through - b ≡ 0 = omega arith in
          let q = rw z at o.left in
          let some : 0 < length ring = rw ok.0 pos in
          let f = visits_floor (through - from) through from (record { floor = None; ring = ring }) some in
          o.says ∙ q ∙ sym f;
    }

-- ---- what a sweep leaves at position p
module _ (s : Buckets) (p : ℕ) (ring : Ring) (h : p < length ring) where
  abbrev here : Generation
  here = get_or ring p empty

  abbrev seen : Bool
  seen = visited (s.through.0 - s.from.0) s.from.0 (length ring) p

  swept_there : get_or (swept_ring s.from.0 s.through.0 ring) p empty ≡ left_at seen s.through.0 here
  unfolding sweep_ring
  swept_there = visits_at (s.through.0 - s.from.0) s.through.0 s.from.0 p (record { floor = None; ring = ring }) h

  none_goes : (n : ℕ) → (not (eqb n 0) && eqb n 0) ≡ false
  none_goes n = by_test (eqb n 0) (λ e. rw e) (λ e. rw e)

  -- it goes where its position is visited and it is passed
  goes_is : goes_at s p ring ≡ (seen && passed s.through.0 here)
  unfolding goes_at passed dropped count
  goes_is =
      by_test (seen && passed s.through.0 here)
      (λ e.
      let q = (both_true seen (passed s.through.0 here) e).1 in
      let k = (both_true (ltb here.bucket s.through.0) (not (eqb (held here) 0)) q).1 in
      rw (swept_there, e, k))
      (λ e. rw (swept_there, e) (none_goes (held here)))

  pub left_is : get_or (swept_ring s.from.0 s.through.0 ring) p empty ≡ cond (goes_at s p ring) (dropped here) here
  left_is = swept_there ∙ rw goes_is

-- ---- whether it goes, by the words that lead it
module _ (S n at : ℕ) (ws : List ℕ) (a e : ℕ) (g : Leading) (h : at < n) (start : StartsAt S n at a) (he : e ≡ a + generation_width S)
    (leads : Leads (mid_of a (e - a) ws) g) (s : Buckets) where
  leads_held : (ring : Ring) → (places S n).Ok ring → ws ≡ (places S n).enc ring → g.held ≡ held (get_or ring at empty)
  leads_held ring ok is = leads.held ∙ rw (place_is S n at h a e start he ws ring ok is).1

  leads_bucket : (ring : Ring) → (places S n).Ok ring → ws ≡ (places S n).enc ring → g.bucket ≡ (get_or ring at empty).bucket
  leads_bucket = (bucket_told S n at ws a e g h start he leads).says

  within : (ring : Ring) → (places S n).Ok ring → at < length ring
  within ring ok = rw ok.0 h

  pub goes_not_held : (r : Bool) → r ≡ not (eqb g.held 0) → g.held ≡ 0 → RingReads S n (goes_at s at) ws r
  unfolding goes_at
  goes_not_held r e z = record {
    says = λ ring ok is. rw (e, z, eq-eqb (held (get_or ring at empty)) 0 (sym (leads_held ring ok is) ∙ z));
  }

  not_passed : s.through.0 ≤ g.bucket → RingReads S n (goes_at s at) ws false
  unfolding passed
  not_passed l = record {
    says = λ ring ok is.
        let b = leads_bucket ring ok is in
        let there = get_or ring at empty in
        let k = le-ltb there.bucket s.through.0 (omega (arith, b)) in
        sym (goes_is s at ring (within ring ok) ∙ by_test (seen s at ring (within ring ok)) (λ v. rw (v, k)) (λ v. rw v));
  }

  pub goes_not_passed : (r : Bool) → r ≡ ltb g.bucket s.through.0 → ((g.held ≡ 0 → ⊥) × (s.through.0 ≤ g.bucket)) ⊎ (g.held ≡ 0) → (g.held ≡ 0 → ⊥)
      → RingReads S n (goes_at s at) ws r
  goes_not_passed r e (inl (some, l)) n = rw (e, le-ltb g.bucket s.through.0 l) (not_passed l)
  goes_not_passed r e (inr z) n = absurd (n z)

  -- its position is that of its bucket, so one remainder tells whether it is visited
  pub goes_by_bucket : (g.held ≡ 0 → ⊥) → g.bucket < s.through.0 → Visits n s
      → RingReads S n (goes_at s at) ws (ltb ((s.through.0 - 1 - g.bucket) % n) (s.through.0 - s.from.0))
  unfolding passed count
  goes_by_bucket some l v = record {
    says = λ ring ok is.
        let b = leads_bucket ring ok is in
        let there = get_or ring at empty in
        let c = there.bucket in
        let full : held there ≡ 0 → ⊥ = λ z. some (leads_held ring ok is ∙ z) in
        let k = lt-ltb c s.through.0 (omega (arith, b)) in
        let p : c % n ≡ at = ok_ways S n at there (place_is S n at h a e start he ws ring ok is).0
        (λ z newest. absurd (full (ap count z))) (λ power one few position reached. position) in
        let up : s.from.0 + (s.through.0 - s.from.0) ≡ s.through.0 = let u = v.up in omega arith in
        let r = visited_is (s.through.0 - s.from.0) s.from.0 n c (let f = v.few in let u = v.up in omega arith) (omega (arith, b, up)) in
        let q : visited (s.through.0 - s.from.0) s.from.0 (length ring) at ≡ ltb ((s.through.0 - 1 - c) % n) (s.through.0 - s.from.0) =
        ap (visited (s.through.0 - s.from.0) s.from.0 (length ring)) (sym p) ∙ rw ok.0 (r ∙ rw up) in
        let y : passed s.through.0 there ≡ true = rw (k, ne_eqb (held there) 0 full) in
        rw b (sym (goes_is s at ring (within ring ok) ∙ rw (y, and-true) q));
  }

-- ---- what was dropped is in no bucket's way, and its first fingerprint takes two slots
dropped_free : (b : ℕ) (g : Generation) → collides b (dropped g) ≡ false
unfolding collides dropped count
dropped_free b g = by_test (eqb g.bucket b) (λ e. rw e) (λ e. rw e)

first_slots : (fp : ℕ) (g : Generation) → slots_for (among fp (dropped g).slots) (dropped g).slots ≡ 2
unfolding dropped among slots_for doubled count
first_slots fp g = refl

-- ---- a bucket's generation after the sweep: dropped where it goes, and as it was where it does not
module _ (S n b at : ℕ) (s : Buckets) (ws : List ℕ) (p : PositionOf b n at) (goes : Bool) (t : RingReads S n (goes_at s at) ws goes) where
  swept_long : (ring : Ring) → length (swept_ring s.from.0 s.through.0 ring) ≡ length ring
  unfolding sweep_ring
  swept_long ring = visits_long (s.through.0 - s.from.0) s.through.0 s.from.0 (record { floor = None; ring = ring })

  after_is : (ring : Ring) → (places S n).Ok ring → ws ≡ (places S n).enc ring
      → generation_at (swept_ring s.from.0 s.through.0 ring) b ≡ cond goes (dropped (generation_at ring b)) (generation_at ring b)
  after_is ring ok is =
      let i : b % length ring ≡ at = rw ok.0 (sym p.is) in
      rw (swept_long ring, i, t.says ring ok is) (left_is s at ring (rw ok.0 p.below))

  module _ (fp : ℕ) where
    pub holds_gone : goes ≡ true → RingReads S n (holds_after s b fp) ws false
    unfolding holds_after holds dropped among
    holds_gone g = record {
      says = λ ring ok is. rw (after_is ring ok is, g) (by_test (eqb (generation_at ring b).bucket b) (λ e. rw e) (λ e. rw e));
    }

    pub holds_left : (r : Bool) → goes ≡ false → RingReads S n (holds b fp) ws r → RingReads S n (holds_after s b fp) ws r
    unfolding holds_after holds
    holds_left r g h = reads_as h (λ ring ok is q. q ∙ rw (after_is ring ok is, g))

    pub room_gone : 2 ≤ S → goes ≡ true → RingReads S n (room_after s S b fp) ws (At at)
    unfolding room_after make_room
    room_gone two g = record {
      says = λ ring ok is.
          let i : b % length ring ≡ at = rw ok.0 (sym p.is) in
          let d = generation_at ring b in
          rw (after_is ring ok is, g, dropped_free b d, first_slots fp d, le-leb 2 S two, swept_long ring, i);
    }

    pub room_left : (r : Room) → goes ≡ false → RingReads S n (make_room S b fp) ws r → RingReads S n (room_after s S b fp) ws r
    unfolding room_after make_room
    room_left r g h = reads_as h (λ ring ok is q. q ∙ rw (after_is ring ok is, g, swept_long ring))
