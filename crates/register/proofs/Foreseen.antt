-- A register as a sweep would leave it, read without one. Assumes nothing.
use Prim.Native.Nat.{ℕ, ◌+◌, ◌-◌, ◌^◌, ◌≤◌, ◌<◌, max}
use native.Mathlib.Omega.{arith}
use native.Mathlib.Numerals.{add-one}
use native.Mathlib.Nat.{pow-le-pow_right}
use mathlib.Core.Path.{◌≡◌, refl, sym, ap, subst, ◌∙◌}
use mathlib.Core.Bool.{Bool, true, false, cond, not, ◌||◌}
use mathlib.Core.Logic.{◌⊎◌, inl, inr}
use mathlib.Core.List.{List, [], ◌∷◌}
use lib.Dec.{leb, ltb}
use lib.ListN.{get_or, drop, drop_of_length-le}
use lib.Seq.{drop-cons}
use borrow.Author.Tests.{leb-true, leb-false, le-leb, lt-leb, le-ltb, ltb-true, ltb-false}
use borrow.Rule.Slice.PartMut.{mid_of}
use Rattle.std.specs.List.{find}
use Rattle.std.specs.Option.{option_map}
use Rattle.runs.proofs.Cases.{by_test, both_true, each_true, no}
use Rattle.model.specs.declared.Class.{Class}
use Rattle.model.specs.declared.Class.TheVariants.{Feeders, Peers, Own}
use Rattle.model.specs.declared.Reason.{Reason}
use Rattle.model.specs.declared.Reason.TheVariants.{Accepted, Pending, Flag, Held, Floor, Behind, Ahead}
use Rattle.model.specs.declared.Room.{Room}
use Rattle.model.specs.declared.Usable.{Usable}
use Rattle.model.specs.declared.Window.{Window}
use Rattle.model.specs.First.{first_of}
use Rattle.model.specs.Numbers.{between, under}
use Rattle.model.specs.Settings.{ring_of, power_of_two, window_fit, usable_fit}
use Rattle.model.specs.Class.{classes, pick, each}
use Rattle.model.specs.Generation.{as_read}
use Rattle.model.specs.Register.{Ring, Register, visits, sweep_ring, swept_to, through_of, sweep_rings, sweep}
use Rattle.model.specs.RegisterWords.{register_form}
use Rattle.model.specs.Judge.{Ask, bucket_of, window_for, in_window, front_past}
use Rattle.model.specs.Reason.{first_rule}
use Rattle.model.proofs.Growth.{exponent}
use Rattle.std.specs.Prelude.{Option, Some, None}
use Rattle.std.specs.Ordering.{nat_cmp, ord_max}
use Rattle.std.specs.Option.{option_cmp}
use Rattle.ring.proofs.Sweeping.{newest_is}
use Rattle.ring.specs.Ring.{RingReads}
use Rattle.ring.specs.Sweep.{swept_ring, swept_says, raised_by, Visits, holds_after, room_after}
use Rattle.register.specs.declared.peeking.Seen.{Seen}
use Rattle.register.specs.Seen.{Sees, seen_raised_by, newest_of_class, seen_rings, seen_as, swept_from, seen_by}
use Rattle.register.specs.Seen.{left_by, class_holds, holder_left, late_rule, judge_rule, room_left}
use Rattle.register.specs.Words.{RegisterWords, RegisterReads, RingAt}
use Rattle.register.proofs.InRings.{ring_reads}
use Rattle.register.proofs.Sweeps.{all_three, idle, back, on}

-- ---- a class's ring, and the three
module _ (u : Usable) (c : Class) (S n a e : ℕ) (l : RingAt u c S n a e) where
  pub class_newest : (from through : ℕ) (ws : List ℕ) (d : Option ℕ)
      → RingReads S n (swept_says from through) (mid_of a (e - a) ws) d
      → RegisterReads u (newest_of_class c from through) ws d
  unfolding newest_of_class
  class_newest from through ws d t = ring_reads u c S n a e l t

-- the floor raised by what would go of each class in turn: the loop is at class i
unfoldable pub raised_among : (Class → Option ℕ) → List Class → Seen → Seen
raised_among newest [] s = s
raised_among newest (c ∷ cs) s = raised_among newest cs (seen_raised_by (newest c) s)

module _ (u : Usable) (s : Seen) (ws : List ℕ) where
  pub record Raised (i : ℕ) (floor : Option ℕ) : Type 0 where
    pub left : (reg : Register) → (register_form u).Ok reg → ws ≡ (register_form u).enc reg
        → raised_among (λ c. newest_of_class c s.buckets.from.0 s.buckets.through.0 reg) (drop i classes) (record { buckets = s.buckets; floor = floor }) ≡ seen_rings s reg

  pub raised_start : Raised 0 s.floor
  unfolding seen_rings raised_among
  raised_start = record { left = λ reg ok is. refl }

  module _ (i : ℕ) (floor : Option ℕ) (at : Raised i floor) where
    pub raised_on : i < 3 → (more next : Option ℕ)
        → RegisterReads u (newest_of_class (get_or classes i Feeders) s.buckets.from.0 s.buckets.through.0) ws more
        → next ≡ ord_max (option_cmp nat_cmp) floor more → Raised (i + 1) next
    unfolding raised_among
    raised_on h more next r e = record {
      left = λ reg ok is.
          let q : next ≡ raised_by more floor = e ∙ newest_is floor more in
          let here = rw (drop-cons classes i Feeders h, ← r.says reg ok is) at (at.left reg ok is) in
          rw (add-one, q) here;
    }

    pub raised_end : 3 ≤ i → RegisterReads u (seen_rings s) ws (record { buckets = s.buckets; floor = floor })
    unfolding raised_among
    raised_end h = record { says = λ reg ok is. rw (drop_of_length-le classes {i = i} h) at (at.left reg ok is) }

-- ---- what is seen at a reading
module _ (u : Usable) (ms : ℕ) (reg : Register) where
  -- nothing is visited, and the floor stays
  unvisited : (reg.pending || leb (through_of u ms) reg.swept) ≡ true → seen_as (through_of u ms) (through_of u ms) reg.floor ≡ seen_by u ms reg
  unfolding seen_by
  unvisited t =
      by_test reg.pending (λ p. rw (← idle u ms reg p, p))
      (λ p. let k : leb (through_of u ms) reg.swept ≡ true = rw p at t in rw (← back u ms reg p k, p, k))

  -- positions are visited, and the floor is that of the three rings' sweep
  abbrev first : ℕ
  first = max reg.swept (through_of u ms - ring_of u)

  visited : reg.pending ≡ false → leb (through_of u ms) reg.swept ≡ false
      → seen_as first (through_of u ms) (sweep_rings first (through_of u ms) reg).floor ≡ seen_by u ms reg
  unfolding seen_by
  visited p k = rw (← on u ms reg p k, p, k)

-- the three rings raise the floor as their sweep does
rings_raise : (u : Usable) (from through : ℕ) (reg : Register)
    → seen_rings (seen_as from through reg.floor) reg ≡ seen_as from through (sweep_rings from through reg).floor
unfolding seen_rings newest_of_class
rings_raise u from through reg = ap (λ (x : Register). seen_as from through x.floor) (all_three u from through reg)

module _ (u : Usable) (ms : ℕ) (ws : List ℕ) (through : ℕ) (e : through ≡ through_of u ms)
    (floor : Option ℕ) (two : (v : Usable) → RegisterReads v (λ reg. reg.floor) ws floor) where
  -- the floor as its two words have it
  abbrev still : ℕ → Seen
  still from = seen_as from through floor

  still_is : (from : ℕ) (reg : Register) → (register_form u).Ok reg → ws ≡ (register_form u).enc reg → still from ≡ seen_as from through reg.floor
  still_is from reg ok is = ap (λ (f : Option ℕ). seen_as from through f) ((two u).says reg ok is)

  module _ (pending : Bool) (p : (v : Usable) → RegisterReads v (λ reg. reg.pending) ws pending) where
    -- without a visit
    unmoved : (reg : Register) → (register_form u).Ok reg → ws ≡ (register_form u).enc reg → (reg.pending || leb through reg.swept) ≡ true → still through ≡ seen_by u ms reg
    unmoved reg ok is t = still_is through reg ok is ∙ rw e (unvisited u ms reg (rw e at t))

    pub seen_still : (pending ≡ true) ⊎ ((pending ≡ false) × (through ≤ get_or ws 6 0)) → RegisterReads u (seen_by u ms) ws (still through)
    seen_still (inl t) = record { says = λ reg ok is. let q = sym ((p u).says reg ok is) ∙ t in unmoved reg ok is (rw q) }
    seen_still (inr (t, h)) = record {
      says = λ reg ok is.
          let q = sym ((p u).says reg ok is) ∙ t in
          let s : get_or ws 6 0 ≡ reg.swept = ap (λ (l : List ℕ). get_or l 6 0) is in
          unmoved reg ok is (rw (q, le-leb through reg.swept (omega arith)));
    }

    -- with visits
    pub seen_on : pending ≡ false → get_or ws 6 0 < through → (from : ℕ) → from ≡ max (get_or ws 6 0) (through - ring_of u) → (r : Seen)
        → RegisterReads u (seen_rings (still from)) ws r → RegisterReads u (seen_by u ms) ws r
    seen_on t h from k r three = record {
      says = λ reg ok is.
          let q = sym ((p u).says reg ok is) ∙ t in
          let s : get_or ws 6 0 ≡ reg.swept = ap (λ (l : List ℕ). get_or l 6 0) is in
          let b : leb (through_of u ms) reg.swept ≡ false = lt-leb (through_of u ms) reg.swept (omega arith) in
          let m : from ≡ first u ms reg = rw (← s, ← e) k in
          three.says reg ok is ∙ ap (λ (x : Seen). seen_rings x reg) (still_is from reg ok is) ∙ rings_raise u from through reg ∙ rw (m, e) (visited u ms reg q b);
    }

-- it visits no more buckets than a ring has positions
module _ (u : Usable) (ms : ℕ) where
  visits_few : (reg : Register) → Visits (ring_of u) (seen_as (swept_from u (through_of u ms) reg) (through_of u ms) None).buckets
  visits_few reg =
      by_test (reg.pending || leb (through_of u ms) reg.swept)
      (λ e. rw e (record { up = omega arith; few = omega arith }))
      (λ e. rw e (by_test (leb (through_of u ms) reg.swept)
      (λ d. absurd (both reg.pending (leb (through_of u ms) reg.swept) e d))
      (λ d. let h = leb-false (through_of u ms) reg.swept d in record { up = omega arith; few = omega arith })))
    where
      both : (a b : Bool) → (a || b) ≡ false → b ≡ true → ⊥
      both true b e d = let z : ◌≡◌ {A = ℕ} 0 1 = cc in omega arith
      both false b e d = let z : ◌≡◌ {A = ℕ} 0 1 = cc in omega arith

  pub seen_few : (ws : List ℕ) (r : Seen) → RegisterWords u ws → RegisterReads u (seen_by u ms) ws r → Sees u r
  unfolding seen_by
  seen_few ws r w t = rw (t.says w.is.value w.is.ok w.is.words) (visits_few w.is.value)

-- ---- what would be held, and the room that there would be, in a class's ring
module _ (u : Usable) (c : Class) (S n a e : ℕ) (l : RingAt u c S n a e) (s : Seen) where
  -- what a function on the ring asks of the buckets that are visited
  pub ring_visits : Sees u s → Visits n s.buckets
  ring_visits v = rw l.ring v

  pub class_after : (b fp : ℕ) (ws : List ℕ) (r : Bool)
      → RingReads S n (holds_after s.buckets b fp) (mid_of a (e - a) ws) r
      → RegisterReads u (class_holds s c b fp) ws r
  unfolding class_holds
  class_after b fp ws r t = ring_reads u c S n a e l t

  -- the fewest slots of a generation are two
  pub two_slots : usable_fit u ≡ true → 2 ≤ S
  unfolding usable_fit
  two_slots fit =
      let q = each_true (window_fit u.origin) (window_fit u.copy ∷ between 1 60_000 u.bucket ∷ power_of_two u.slots ∷ leb (ring_of u) 256 ∷ []) fit in
      let k = exponent u.slots q.1.1.1.0 in
      let m : 2 ^ 1 ≤ 2 ^ k.0 = pow-le-pow_right (omega arith) k.1 in
      rw (l.slots, k.2) m

  pub room_seen : (b fp : ℕ) (ws : List ℕ) (r : Room)
      → RingReads S n (room_after s.buckets S b fp) (mid_of a (e - a) ws) r
      → RegisterReads u (room_left u s c b fp) ws r
  unfolding room_left
  room_seen b fp ws r t =
      subst (λ (S : ℕ). RegisterReads u (λ reg. room_after s.buckets S b fp (pick c reg.rings)) ws r) l.slots (ring_reads u c S n a e l t)

-- ---- the lowest class that would hold it
pub holder_reads : (u : Usable) (s : Seen) (b fp : ℕ) (ws : List ℕ) (r : Option Class)
    → ((reg : Register) → (register_form u).Ok reg → ws ≡ (register_form u).enc reg → option_map (λ c. c) r ≡ find (λ c. class_holds s c b fp reg) classes)
    → RegisterReads u (holder_left s b fp) ws r
unfolding holder_left
holder_reads u s b fp ws None e = record { says = e }
holder_reads u s b fp ws (Some c) e = record { says = e }

-- ---- the floor and the window
module _ (u : Usable) (floor : Option ℕ) (a : Ask) (low : Bool) (t : low ≡ under a.stamp floor) where
  pub late_floor : low ≡ true → Floor ≡ late_rule u floor a
  unfolding late_rule first_rule first_of
  late_floor e = rw (sym t ∙ e)

  module _ (w : Window) (side : w ≡ window_for u a.who) (within past : Bool) (i : within ≡ in_window w a.stamp a.ms)
      (f : past ≡ front_past w a.stamp a.ms) (high : low ≡ false) where
    -- a window that holds is neither behind nor ahead
    pub late_not : within ≡ true → Accepted ≡ late_rule u floor a
    unfolding late_rule first_rule first_of in_window front_past
    late_not e =
        let q = both_true (leb a.ms (a.stamp + w.behind)) (leb a.stamp (a.ms + w.ahead)) (sym i ∙ e) in
        let n = leb-true a.ms (a.stamp + w.behind) q.0 in
        let m = leb-true a.stamp (a.ms + w.ahead) q.1 in
        rw (sym t ∙ high, ← side, le-ltb (a.stamp + w.behind) a.ms n, le-ltb (a.ms + w.ahead) a.stamp m)

    pub late_ahead : past ≡ true → Ahead ≡ late_rule u floor a
    unfolding late_rule first_rule first_of front_past
    late_ahead e =
        let m = ltb-true (a.ms + w.ahead) a.stamp (sym f ∙ e) in
        rw (sym t ∙ high, ← side, le-ltb (a.stamp + w.behind) a.ms (omega arith), sym f ∙ e)

    pub late_behind : within ≡ false → past ≡ false → Behind ≡ late_rule u floor a
    unfolding late_rule first_rule first_of in_window front_past
    late_behind e g =
        let m = ltb-false (a.ms + w.ahead) a.stamp (sym f ∙ g) in
        by_test (ltb (a.stamp + w.behind) a.ms)
        (λ d. rw (sym t ∙ high, ← side, d))
        (λ d.
        let n = ltb-false (a.stamp + w.behind) a.ms d in
        let z : true ≡ false = rw (le-leb a.ms (a.stamp + w.behind) n, le-leb a.stamp (a.ms + w.ahead) m) at (sym i ∙ e) in
        no (cc))

-- ---- the rules of judge
unfoldable by_holder : Option Class → Reason → Reason
by_holder (Some c) x = Held c
by_holder None x = x

held_first : (u : Usable) (s : Seen) (a : Ask) (reg : Register)
    → judge_rule u s a reg ≡ cond reg.pending Pending (cond (not a.judging) Flag
    (by_holder (holder_left s (bucket_of u a.stamp) (as_read a.fp) reg) (late_rule u s.floor a)))
unfolding judge_rule first_rule first_of left_by holder_left class_holds holds_after late_rule by_holder
held_first u s a reg =
    let b = bucket_of u a.stamp in
    let fp = as_read a.fp in
    by_test (class_holds s Feeders b fp reg) (λ f. rw f)
    (λ f. by_test (class_holds s Peers b fp reg) (λ p. rw (f, p))
    (λ p. by_test (class_holds s Own b fp reg) (λ o. rw (f, p, o)) (λ o. rw (f, p, o))))

module _ (u : Usable) (s : Seen) (a : Ask) (ws : List ℕ) (pending : Bool) (p : (v : Usable) → RegisterReads v (λ reg. reg.pending) ws pending) where
  pub rule_pending : pending ≡ true → RegisterReads u (judge_rule u s a) ws Pending
  rule_pending e = record { says = λ reg ok is. sym (held_first u s a reg ∙ rw (sym ((p u).says reg ok is) ∙ e)) }

  module _ (begun : pending ≡ false) where
    pub rule_flag : not a.judging ≡ true → RegisterReads u (judge_rule u s a) ws Flag
    rule_flag e = record { says = λ reg ok is. sym (held_first u s a reg ∙ rw (sym ((p u).says reg ok is) ∙ begun, e)) }

    module _ (judging : not a.judging ≡ false) (b fp : ℕ) (bucket : b ≡ bucket_of u a.stamp) (print : fp ≡ as_read a.fp) (h : Option Class)
        (held : RegisterReads u (holder_left s b fp) ws h) where
      holder_is : (reg : Register) → (register_form u).Ok reg → ws ≡ (register_form u).enc reg → by_holder h (late_rule u s.floor a) ≡ judge_rule u s a reg
      holder_is reg ok is =
          let q : h ≡ holder_left s (bucket_of u a.stamp) (as_read a.fp) reg = rw (← bucket, ← print) (held.says reg ok is) in
          ap (λ (x : Option Class). by_holder x (late_rule u s.floor a)) q ∙ sym (held_first u s a reg ∙ rw (sym ((p u).says reg ok is) ∙ begun, judging))

      pub rule_held : (c : Class) → h ≡ Some c → RegisterReads u (judge_rule u s a) ws (Held c)
      unfolding by_holder
      rule_held c e = record { says = λ reg ok is. rw e at (holder_is reg ok is) }

      pub rule_late : (r : Reason) → h ≡ None → r ≡ late_rule u s.floor a → RegisterReads u (judge_rule u s a) ws r
      unfolding by_holder
      rule_late r e q = record { says = λ reg ok is. q ∙ (rw e at (holder_is reg ok is)) }

-- ---- what was seen of a register leaves it as its sweep does
none_visited : (through : ℕ) (ring : Ring) → swept_ring through through ring ≡ ring
unfolding sweep_ring visits
none_visited through ring =
    let z : through - through ≡ 0 = omega arith in
    ap (λ (k : ℕ). (visits k through through (record { floor = None; ring = ring })).ring) z

-- a register as it was, swept up to another bucket
kept : (through swept : ℕ) (reg : Register) → cond reg.pending reg.swept through ≡ swept
    → left_by (seen_as through through reg.floor) reg ≡ swept_to swept reg
unfolding left_by
kept through swept reg c =
    let x = none_visited through reg.rings.of_feeders in
    let y = none_visited through reg.rings.of_peers in
    let z = none_visited through reg.rings.of_own in
    λ i. record { swept = c i; floor = reg.floor; pending = reg.pending; spare = reg.spare; rings = record { of_feeders = x i; of_peers = y i; of_own = z i } }

-- and one whose rings are swept
swept_left : (u : Usable) (from through : ℕ) (reg : Register) → reg.pending ≡ false
    → left_by (seen_as from through (sweep_rings from through reg).floor) reg ≡ sweep_rings from through reg
unfolding left_by
swept_left u from through reg p =
    let same = all_three u from through reg in
    let f = sym (ap (λ (x : Register). x.floor) same) in
    let c : cond reg.pending reg.swept through ≡ through = rw p in
    (λ i. record { swept = c i; floor = f i; pending = reg.pending; spare = reg.spare; rings = each (swept_ring from through) reg.rings }) ∙ same

pub left_is : (u : Usable) (ms : ℕ) (reg : Register) → left_by (seen_by u ms reg) reg ≡ sweep u ms reg
left_is u ms reg =
    let through = through_of u ms in
    by_test reg.pending
    (λ p. ap (λ (s : Seen). left_by s reg) (sym (unvisited u ms reg (rw p))) ∙ kept through reg.swept reg (rw p) ∙ idle u ms reg p)
    (λ p. by_test (leb through reg.swept)
    (λ b. ap (λ (s : Seen). left_by s reg) (sym (unvisited u ms reg (rw (p, b)))) ∙ kept through through reg (rw p) ∙ back u ms reg p b)
    (λ b. ap (λ (s : Seen). left_by s reg) (sym (visited u ms reg p b)) ∙ swept_left u (first u ms reg) through reg p ∙ on u ms reg p b))
