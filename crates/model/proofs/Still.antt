-- Two stamps between which no stamp of the list lies (`stamps`, specs/Stamp): every test in `take_batch` that looks at the stamp comes out
-- alike for both, and so does its verdict. Assumes nothing.
use Prim.Native.Nat.{ℕ, zero, suc, ◌+◌, ◌-◌, ◌%◌, ◌≤◌, ◌<◌, min}
use native.Mathlib.Omega.{arith}
use native.Mathlib.Nat.{mod-lt}
use mathlib.Core.Path.{◌≡◌, refl, sym, ◌∙◌, ap}
use mathlib.Core.Bool.{true, false}
use mathlib.Core.List.{List, [], ◌∷◌}
use Rattle.std.specs.Prelude.{Option, Some, None}
use mathlib.Core.Logic.{◌⊎◌, inl, inr}
use lib.Dec.{leb, eqb}
use lib.ListN.{length, get_or}
use borrow.Author.Tests.{leb-true, leb-false, le-leb, lt-leb, eqb-true, lt-ltb, le-ltb}
use Rattle.model.specs.declared.Class.{Class}
use Rattle.model.specs.declared.Class.TheVariants.{Feeders, Peers, Own}
use Rattle.model.specs.declared.Room.{Room}
use Rattle.model.specs.declared.Room.TheVariants.{At, Collides, Full as NoSlots}
use Rattle.model.specs.declared.Shares.{Shares}
use Rattle.model.specs.declared.Usable.{Usable}
use Rattle.model.specs.declared.Verdict.{Verdict}
use Rattle.model.specs.declared.Verdict.TheVariants.{New, Duplicate, Late, Ahead as PastFront, Full, Unjudged}
use Rattle.model.specs.declared.Window.{Window}
use Rattle.runs.proofs.Cases.{by_test, both_true, no}
use Rattle.model.specs.Numbers.{cap64, top64, under}
use Rattle.model.specs.Settings.{retained, ring_of}
use Rattle.model.specs.Class.{class_of, pick}
use Rattle.model.specs.Generation.{empty, among, as_read}
use Rattle.model.specs.Book.{Book, second_of, granted, draw_says}
use Rattle.model.specs.Register.{Ring, Register, generation_at, holds, through_of, sweep}
use Rattle.model.specs.Judge.{Ask, bucket_of, window_for, in_window, front_past, unjudged, verdict, Judgement, judge, ahead_for, judge_batch}
use Rattle.model.specs.Judge.{make_room, take_room, take_share, take_judged, take_batch}
use Rattle.model.specs.Dump.{OneOf, first, further}
use Rattle.model.specs.Stamp.{with_stamp, batch_at, first_stamp, floor_stamps, edge_stamps, bucket_stamps, window_stamps, ring_stamps, stamps}
use Rattle.model.proofs.Bounds.{UsableBounds}
use Rattle.model.proofs.RingsKept.{RegisterOk, ring_some}
use Rattle.model.proofs.Judging.{ahead_new}
use Rattle.model.proofs.Steady.{ceil_mono, Ahead}
use Rattle.model.proofs.SteadyKept.{new_ahead}
use Rattle.model.proofs.Breaks.{no_break}
use Rattle.model.proofs.Least.{in_left, in_right, All, all_at, all_of, Apart, Still}

-- ---- which stamps are in the list
module _ (u : Usable) where
  of_bucket : (b n k : ℕ) → k < n → OneOf (first_stamp u (b + k)) (bucket_stamps u b n)
  unfolding bucket_stamps
  of_bucket b zero k h = absurd (omega arith)
  of_bucket b (suc n) zero h = let e : b + 0 ≡ b = omega arith in rw e first
  of_bucket b (suc n) (suc k) h = let e : b + suc k ≡ suc b + k = omega arith in rw e (further (of_bucket (suc b) n k (omega arith)))

  -- a window's buckets are fewer than the ring has positions
  of_window : (ms k : ℕ) → k < ring_of u → OneOf (first_stamp u (through_of u ms + k)) (window_stamps u ms)
  unfolding window_stamps
  of_window ms k h = of_bucket (through_of u ms) (ring_of u) k h

  -- the first of the bucket of a generation, and of the one after it
  pub of_ring : (ring : Ring) (i : ℕ) → i < length ring → OneOf (first_stamp u (get_or ring i empty).bucket) (ring_stamps u ring)
  unfolding ring_stamps
  of_ring [] i h = absurd (omega arith)
  of_ring (g ∷ gs) zero h = first
  of_ring (g ∷ gs) (suc i) h = further (further (of_ring gs i (omega arith)))

  pub after_ring : (ring : Ring) (i : ℕ) → i < length ring → OneOf (first_stamp u ((get_or ring i empty).bucket + 1)) (ring_stamps u ring)
  unfolding ring_stamps
  after_ring [] i h = absurd (omega arith)
  after_ring (g ∷ gs) zero h = further first
  after_ring (g ∷ gs) (suc i) h = further (further (after_ring gs i (omega arith)))

module _ (u : Usable) (reg : Register) (a : Ask) where
  abbrev edges : List ℕ
  edges = edge_stamps (window_for u a.who) a.ms reg.floor

  abbrev buckets : List ℕ
  buckets = window_stamps u a.ms

  abbrev rings : Class → List ℕ
  rings c = ring_stamps u (pick c reg.rings)

  pub edge_in : (x : ℕ) → OneOf x edges → OneOf x (stamps u reg a)
  unfolding stamps
  edge_in x o = in_left _ o

  pub bucket_in : (x : ℕ) → OneOf x buckets → OneOf x (stamps u reg a)
  unfolding stamps
  bucket_in x o = in_right edges (in_left _ o)

  pub ring_in : (c : Class) (x : ℕ) → OneOf x (rings c) → OneOf x (stamps u reg a)
  unfolding stamps
  ring_in Feeders x o = in_right edges (in_right buckets (in_left _ o))
  ring_in Peers x o = in_right edges (in_right buckets (in_right (rings Feeders) (in_left _ o)))
  ring_in Own x o = in_right edges (in_right buckets (in_right (rings Feeders) (in_right (rings Peers) o)))

-- ---- single tests
module _ (u : Usable) (p y : ℕ) (pos : 0 < u.bucket) (on : p ≤ y) (top : y ≤ top64) where
  -- one of the two is of bucket b, and no first stamp of b or of the bucket after it lies between: then both are of one bucket
  one_bucket : (b : ℕ) → Apart p y (first_stamp u b) → Apart p y (first_stamp u (b + 1)) → (b ≡ bucket_of u p) ⊎ (b ≡ bucket_of u y)
      → bucket_of u p ≡ bucket_of u y
  one_bucket b f g (inl e) =
      let l = no_break u b p y pos on top f in
      let r = no_break u (b + 1) p y pos on top g in
      let low = leb-true b (bucket_of u y) (sym l ∙ le-leb b (bucket_of u p) (omega arith)) in
      let high = leb-false (b + 1) (bucket_of u y) (sym r ∙ lt-leb (b + 1) (bucket_of u p) (omega arith)) in
      omega arith
  one_bucket b f g (inr e) =
      let l = no_break u b p y pos on top f in
      let r = no_break u (b + 1) p y pos on top g in
      let low = leb-true b (bucket_of u p) (l ∙ le-leb b (bucket_of u y) (omega arith)) in
      let high = leb-false (b + 1) (bucket_of u p) (r ∙ lt-leb (b + 1) (bucket_of u y) (omega arith)) in
      omega arith

  -- Duplicate: whether a ring holds the fingerprint in the stamp's bucket
  holds_bucket : (b fp : ℕ) (ring : Ring) → holds b fp ring ≡ true → (generation_at ring b).bucket ≡ b
  unfolding holds
  holds_bucket b fp ring h =
      eqb-true (generation_at ring b).bucket b (both_true (eqb (generation_at ring b).bucket b) (among fp (generation_at ring b).slots) h).0

  held_bucket : (b fp : ℕ) (ring : Ring) → 0 < length ring → Still (ring_stamps u ring) p y
      → ((generation_at ring b).bucket ≡ bucket_of u p) ⊎ ((generation_at ring b).bucket ≡ bucket_of u y) → bucket_of u p ≡ bucket_of u y
  held_bucket b fp ring more still which =
      let low = mod-lt b more in
      one_bucket (generation_at ring b).bucket (all_at (Apart p y) (of_ring u ring (b % length ring) low) still)
      (all_at (Apart p y) (after_ring u ring (b % length ring) low) still) which

  pub holds_still : (fp : ℕ) (ring : Ring) → 0 < length ring → Still (ring_stamps u ring) p y → holds (bucket_of u p) fp ring ≡ holds (bucket_of u y) fp ring
  holds_still fp ring more still =
      let at_p = bucket_of u p in
      let at_y = bucket_of u y in
      by_test (holds at_p fp ring) (λ h. ap (λ (b : ℕ). holds b fp ring) (held_bucket at_p fp ring more still (inl (holds_bucket at_p fp ring h))))
      (λ h. by_test (holds at_y fp ring) (λ k. ap (λ (b : ℕ). holds b fp ring) (held_bucket at_y fp ring more still (inr (holds_bucket at_y fp ring k))))
      (λ k. h ∙ sym k))

  -- the floor
  pub under_still : (f : Option ℕ) → Still (floor_stamps f) p y → under p f ≡ under y f
  unfolding under cap64 floor_stamps All
  under_still None still = refl
  under_still (Some n) still =
      by_test (leb y n) (λ e. let a = leb-true y n e in rw e (le-leb p n (omega arith)))
      (λ e. let a = leb-false y n e in
      by_test (leb p n) (λ d. let l = leb-true p n d in absurd (let b = still.0 (omega arith) in omega (arith, b))) (λ d. d ∙ sym e))

  -- the window, and its front
  behind_still : (ms behind : ℕ) → Apart p y (ms - behind) → leb ms (p + behind) ≡ leb ms (y + behind)
  behind_still ms behind f =
      by_test (leb ms (p + behind)) (λ e. let l = leb-true ms (p + behind) e in e ∙ sym (le-leb ms (y + behind) (omega arith)))
      (λ e. let l = leb-false ms (p + behind) e in let b = f (omega arith) in e ∙ sym (lt-leb ms (y + behind) (omega (arith, b))))

  ahead_still : (last : ℕ) → Apart p y (cap64 (last + 1)) → leb p last ≡ leb y last
  unfolding cap64
  ahead_still last g =
      by_test (leb y last) (λ e. let l = leb-true y last e in le-leb p last (omega arith) ∙ sym e)
      (λ e. let l = leb-false y last e in
      by_test (leb p last) (λ d. let k = leb-true p last d in absurd (let b = g (omega arith) in omega (arith, b))) (λ d. d ∙ sym e))

  pub window_still : (w : Window) (ms : ℕ) → Apart p y (ms - w.behind) → Apart p y (cap64 (ms + w.ahead + 1)) → in_window w p ms ≡ in_window w y ms
  unfolding in_window
  window_still w ms f g = rw (behind_still ms w.behind f, ahead_still (ms + w.ahead) g) refl

  pub front_still : (w : Window) (ms : ℕ) → Apart p y (cap64 (ms + w.ahead + 1)) → front_past w p ms ≡ front_past w y ms
  unfolding front_past
  front_still w ms g =
      let last = ms + w.ahead in
      let same = ahead_still last g in
      by_test (leb p last) (λ e. le-ltb last p (leb-true p last e) ∙ sym (le-ltb last y (leb-true y last (sym same ∙ e))))
      (λ e. lt-ltb last p (leb-false p last e) ∙ sym (lt-ltb last y (leb-false y last (sym same ∙ e))))

  -- the bucket, where it is one of those that a window at the reading can have
  bucket_mono : bucket_of u p ≤ bucket_of u y
  unfolding bucket_of cap64
  bucket_mono = ceil_mono (min (p + retained u) top64) (min (y + retained u) top64) u.bucket pos (omega arith)

  pub bucket_still : (ms : ℕ) → Ahead u ms y → Still (window_stamps u ms) p y → bucket_of u p ≡ bucket_of u y
  bucket_still ms at_y still =
      let from = at_y.from in
      let k = bucket_of u y - through_of u ms in
      let t : through_of u ms + k ≡ bucket_of u y = omega arith in
      let low : k < ring_of u = omega (arith, at_y.below) in
      let apart = all_at (Apart p y) (of_window u ms k low) still in
      let l = no_break u (through_of u ms + k) p y pos on top apart in
      let c = leb-true (bucket_of u y) (bucket_of u p) (rw t at l ∙ le-leb (bucket_of u y) (bucket_of u y) (omega arith)) in
      omega (arith, c, bucket_mono)

-- ---- the rest of a take looks at the stamp's bucket alone
room_says : (u : Usable) (b : Shares) (a : Ask) (x y : ℕ) (reg : Register) (k : Book) (m : Room)
    → (take_room u b (with_stamp x a) reg k m).says ≡ (take_room u b (with_stamp y a) reg k m).says
unfolding take_room
room_says u b a x y reg k (At i) = refl
room_says u b a x y reg k Collides = refl
room_says u b a x y reg k NoSlots = refl

share_says : (u : Usable) (b : Shares) (a : Ask) (x y : ℕ) (reg : Register) (k : Book) → bucket_of u x ≡ bucket_of u y
    → (take_share u b (with_stamp x a) reg k).says ≡ (take_share u b (with_stamp y a) reg k).says
unfolding take_share
share_says u b a x y reg k e =
    by_test (granted (draw_says b a.who (second_of (bucket_of u y) u.bucket) k))
    (λ g. rw (e, g) (room_says u b a x y reg k (make_room u.slots (bucket_of u y) (as_read a.fp) (pick (class_of a.who) reg.rings))))
    (λ g. rw (e, g) refl)

rest_says : (u : Usable) (b : Shares) (a : Ask) (x y : ℕ) (reg : Register) (k : Book) (v : Verdict) → (v ≡ New → bucket_of u x ≡ bucket_of u y)
    → (take_judged u b (with_stamp x a) k reg v).says ≡ (take_judged u b (with_stamp y a) k reg v).says
unfolding take_judged
rest_says u b a x y reg k New e = share_says u b a x y reg k (e refl)
rest_says u b a x y reg k Duplicate e = refl
rest_says u b a x y reg k Late e = refl
rest_says u b a x y reg k PastFront e = refl
rest_says u b a x y reg k Full e = refl
rest_says u b a x y reg k Unjudged e = refl

-- ---- the verdict
module _ (u : Usable) (fit : UsableBounds u) (b : Shares) (reg : Register) (k : Book) (a : Ask) (small : a.ms ≤ top64) (p y : ℕ) (on : p ≤ y)
    (top : y ≤ top64) where
  abbrev after : Register
  after = sweep u a.ms reg

  -- what judge says of a stamp, and what is left of `take_batch`
  unjudged_at : (x : ℕ) → unjudged reg a ≡ true → judge u reg (with_stamp x a) ≡ record { says = Unjudged; register = reg }
  unfolding judge unjudged
  unjudged_at x e = rw e refl

  judged_at : (x : ℕ) → unjudged reg a ≡ false → judge u reg (with_stamp x a) ≡ record { says = verdict u after (with_stamp x a); register = after }
  unfolding judge unjudged
  judged_at x e = rw e refl

  batch_rest : (x : ℕ) (v : Verdict) (left : Register) → judge u reg (with_stamp x a) ≡ record { says = v; register = left }
      → batch_at u b reg k a x ≡ (take_judged u b (with_stamp x a) k left (ahead_for (front_past (window_for u a.who) x a.ms) v)).says
  unfolding batch_at take_batch judge_batch
  batch_rest x v left e =
      ap (λ (j : Judgement). (take_judged u b (with_stamp x a) k j.register (ahead_for (front_past (window_for u a.who) x a.ms) j.says)).says) e

  module _ (ok : RegisterOk u after) (still : Still (stamps u after a) p y) where
    -- what lies in a part of the list
    part_still : (cs : List ℕ) → ((x : ℕ) → OneOf x cs → OneOf x (stamps u after a)) → Still cs p y
    part_still cs f = all_of (Apart p y) cs (λ c o. all_at (Apart p y) (f c o) still)

    edges_still : Still (edges u after a) p y
    edges_still = part_still (edges u after a) (edge_in u after a)

    floor_still : under p after.floor ≡ under y after.floor
    unfolding edge_stamps All
    floor_still = under_still u p y fit.some_bucket on top after.floor edges_still.1.1.1

    inside_still : in_window (window_for u a.who) p a.ms ≡ in_window (window_for u a.who) y a.ms
    unfolding edge_stamps All
    inside_still = window_still u p y fit.some_bucket on top (window_for u a.who) a.ms edges_still.1.0 edges_still.1.1.0

    past_still : front_past (window_for u a.who) p a.ms ≡ front_past (window_for u a.who) y a.ms
    unfolding edge_stamps All
    past_still = front_still u p y fit.some_bucket on top (window_for u a.who) a.ms edges_still.1.1.0

    class_still : (c : Class) → holds (bucket_of u p) (as_read a.fp) (pick c after.rings) ≡ holds (bucket_of u y) (as_read a.fp) (pick c after.rings)
    class_still c =
        holds_still u p y fit.some_bucket on top (as_read a.fp) (pick c after.rings) (ring_some u (pick c after.rings) (ok.rings c))
        (part_still (rings u after a c) (ring_in u after a c))

    judged_still : verdict u after (with_stamp p a) ≡ verdict u after (with_stamp y a)
    unfolding verdict
    judged_still = rw (class_still Feeders, class_still Peers, class_still Own, floor_still, inside_still) refl

    -- a stamp that is judged New lies in the window
    new_still : verdict u after (with_stamp y a) ≡ New → bucket_of u p ≡ bucket_of u y
    new_still n =
        bucket_still u p y fit.some_bucket on top a.ms (new_ahead u fit (with_stamp y a) small after n)
        (part_still (buckets u after a) (bucket_in u after a))

    -- judge says one verdict of both
    alike : (v : Verdict) (left : Register) → judge u reg (with_stamp p a) ≡ record { says = v; register = left }
        → judge u reg (with_stamp y a) ≡ record { says = v; register = left } → (v ≡ New → bucket_of u p ≡ bucket_of u y)
        → batch_at u b reg k a p ≡ batch_at u b reg k a y
    alike v left at_p at_y new =
        let past = front_past (window_for u a.who) y a.ms in
        batch_rest p v left at_p ∙ rw past_still (rest_says u b a p y left k (ahead_for past v) (λ n. new (ahead_new past v n))) ∙ sym (batch_rest y v left at_y)

    pub verdict_still : batch_at u b reg k a p ≡ batch_at u b reg k a y
    verdict_still =
        by_test (unjudged reg a) (λ e. alike Unjudged reg (unjudged_at p e) (unjudged_at y e) (λ n. no (cc)))
        (λ e. alike (verdict u after (with_stamp y a)) after (rw judged_still at (judged_at p e)) (judged_at y e) new_still)
