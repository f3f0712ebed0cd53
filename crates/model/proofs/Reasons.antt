-- The verdict of take is that of the first rule that is met after judge's sweep (specs/Reason), and take_batch's follows. Assumes nothing.
use Prim.Native.Nat.{ℕ, ◌+◌, ◌*◌, ◌/◌}
use native.Mathlib.Omega.{arith}
use mathlib.Core.Path.{◌≡◌, refl, sym, ◌∙◌, ap}
use mathlib.Core.Bool.{Bool, true, false, cond, not, ◌&&◌, ◌||◌}
use mathlib.Core.List.{◌++◌}
use lib.Dec.{leb, ltb}
use borrow.Author.Tests.{leb-true, leb-false, le-ltb, lt-ltb, ltb-true}
use Rattle.runs.proofs.Cases.{by_test, no}
use Rattle.model.specs.declared.Deliverer.{Deliverer}
use Rattle.model.specs.declared.Draw.{Draw}
use Rattle.model.specs.declared.Draw.TheVariants.{Granted, Closed, OwnShare, ClassLimit, EqualPart, TwiceLimit, Places, Pairs}
use Rattle.model.specs.declared.Reason.{Reason}
use Rattle.model.specs.declared.Room.{Room}
use Rattle.model.specs.declared.Room.TheVariants.{At, Collides, Full as NoSlots}
use Rattle.model.specs.declared.Shares.{Shares}
use Rattle.model.specs.declared.Usable.{Usable}
use Rattle.model.specs.declared.Verdict.{Verdict}
use Rattle.model.specs.declared.Verdict.TheVariants.{New, Duplicate, Late, Ahead, Full, Unjudged}
use Rattle.model.specs.First.{first_of}
use Rattle.model.specs.Numbers.{under}
use Rattle.model.specs.Class.{class_of, pick}
use Rattle.model.specs.Generation.{among, as_read, slots_for}
use Rattle.model.specs.Book.{Book, entries_of, places_of, second_of, together, below_share, fair, holders_with, own_after, units_after, place_free, pair_free}
use Rattle.model.specs.Book.{draw_room, draw_limits, draw_test, granted, draw_says}
use Rattle.model.specs.Register.{Ring, Register, generation_at, holds, sweep_rings, through_of, sweep}
use Rattle.model.specs.Judge.{Ask, bucket_of, window_for, in_window, front_past, unjudged, verdict, judge, ahead_for, judge_batch}
use Rattle.model.specs.Judge.{collides, make_room, take_room, take_share, take_judged, take, take_batch}
use Rattle.model.specs.Codes.{reason_verdict, room_reason}
use Rattle.model.specs.Reason.{judge_rules, share_rules, room_rules, rules, first_rule, reason, batch_verdict}
use Rattle.model.proofs.First.{first_after}
use Rattle.model.proofs.Windows.{window_holds, new_inside}

-- ---- the rules of the book: the first that is met is the one that the draw names
abbrev pub after_draw : Draw → Reason → Reason
after_draw Granted x = x
after_draw Closed x = Reason.Closed
after_draw OwnShare x = Reason.OwnShare
after_draw ClassLimit x = Reason.ClassLimit
after_draw EqualPart x = Reason.EqualPart
after_draw TwiceLimit x = Reason.TwiceLimit
after_draw Places x = Reason.Places
after_draw Pairs x = Reason.Pairs

-- on plain tests: `over` is above T, `part` own units above T / n, `twice` above 2 × T, and who is above 2 × T is above T
plain : (closed share kin over part twice place pair : Bool) (x : Reason) → (twice ≡ true → over ≡ true)
    → cond closed Reason.Closed (cond share Reason.OwnShare (cond (not kin && over) Reason.ClassLimit (cond (over && part) Reason.EqualPart
    (cond twice Reason.TwiceLimit (cond place Reason.Places (cond pair Reason.Pairs x))))))
    ≡ after_draw (cond closed Closed (cond share OwnShare (cond (not over) (cond place Places (cond pair Pairs Granted))
    (cond (not kin) ClassLimit (cond part EqualPart (cond twice TwiceLimit (cond place Places (cond pair Pairs Granted)))))))) x
plain true share kin over part twice place pair x h = refl
plain false true kin over part twice place pair x h = refl
plain false false kin false part true place pair x h = no (let z = h refl in cc)
plain false false true false part false true pair x h = refl
plain false false true false part false false true x h = refl
plain false false true false part false false false x h = refl
plain false false false false part false true pair x h = refl
plain false false false false part false false true x h = refl
plain false false false false part false false false x h = refl
plain false false false true part twice place pair x h = refl
plain false false true true true twice place pair x h = refl
plain false false true true false true place pair x h = refl
plain false false true true false false true pair x h = refl
plain false false true true false false false true x h = refl
plain false false true true false false false false x h = refl

not_over : (a t : ℕ) → leb a t ≡ not (ltb t a)
not_over a t = by_test (leb a t) (λ e. rw (e, le-ltb t a (leb-true a t e)) refl) (λ e. rw (e, lt-ltb t a (leb-false a t e)) refl)

pub draw_first : (b : Shares) (who : Deliverer) (second : ℕ) (k : Book) (x : Reason)
    → first_of x (share_rules b who second k) ≡ after_draw (draw_says b who second k) x
unfolding first_of draw_says draw_test draw_limits draw_room
draw_first b who second k x =
    let ps = places_of (class_of who) k in
    let t = together k.limits (class_of who) in
    let units = units_after b who ps in
    rw (not_over units t)
    (plain k.closed (not (below_share k.limits who (entries_of who ps))) (fair who) (ltb t units) (ltb (t / holders_with who ps) (own_after b who ps))
    (ltb (2 * t) units) (not (place_free b who ps)) (not (pair_free b who second ps)) x
    (λ e. let above = ltb-true (2 * t) units e in lt-ltb t units (omega arith)))

-- a draw that is not granted makes a take Full
draw_verdict : (d : Draw) (x : Reason) → reason_verdict (after_draw d x) ≡ cond (granted d) (reason_verdict x) Full
unfolding reason_verdict
draw_verdict Granted x = refl
draw_verdict Closed x = refl
draw_verdict OwnShare x = refl
draw_verdict ClassLimit x = refl
draw_verdict EqualPart x = refl
draw_verdict TwiceLimit x = refl
draw_verdict Places x = refl
draw_verdict Pairs x = refl

-- ---- the rules of the ring: the first that is met is the one for which there is no room
pub room_first : (most bucket fp : ℕ) (ring : Ring) → first_of Reason.Accepted (room_rules most bucket fp ring) ≡ room_reason (make_room most bucket fp ring)
unfolding first_of make_room
room_first most bucket fp ring =
    let g = generation_at ring bucket in
    let wanted = slots_for (among fp g.slots) g.slots in
    by_test (collides bucket g) (λ e. rw e refl)
    (λ e. rw (not_over wanted most) (by_test (ltb most wanted) (λ d. rw (e, d) refl) (λ d. rw (e, d) refl)))

-- ---- the rules of the register
-- a verdict, or another one where it is New
abbrev pub unless_new : Verdict → Verdict → Verdict
unless_new New w = w
unless_new Duplicate w = Duplicate
unless_new Late w = Late
unless_new Ahead w = Ahead
unless_new Full w = Full
unless_new Unjudged w = Unjudged

module _ (u : Usable) (reg : Register) (a : Ask) (x : Reason) where
  -- pending or flag off: one of the first two is met
  pub shut_first : unjudged reg a ≡ true → reason_verdict (first_of x (judge_rules u reg a)) ≡ Unjudged
  unfolding first_of unjudged reason_verdict
  shut_first e =
      by_test reg.pending (λ p. rw p refl) (λ p. by_test a.judging (λ j. let z : false ≡ true = rw (p, j) at e in no (cc)) (λ j. rw (p, j) refl))

  -- otherwise the verdict is that of the first that is met; New where none is
  pub verdict_first : unjudged reg a ≡ false
      → reason_verdict (first_of x (judge_rules u reg a)) ≡ unless_new (verdict u reg a) (reason_verdict x)
  unfolding first_of unjudged verdict in_window front_past reason_verdict
  verdict_first e =
      let bucket = bucket_of u a.stamp in
      let fp = as_read a.fp in
      let window = window_for u a.who in
      by_test reg.pending (λ p. let z : true ≡ false = rw p at e in no (cc))
      (λ p. by_test a.judging
      (λ j. by_test (holds bucket fp reg.rings.of_feeders) (λ f. rw (p, j, f) refl)
      (λ f. by_test (holds bucket fp reg.rings.of_peers) (λ q. rw (p, j, f, q) refl)
      (λ q. by_test (holds bucket fp reg.rings.of_own) (λ o. rw (p, j, f, q, o) refl)
      (λ o. by_test (under a.stamp reg.floor) (λ l. rw (p, j, f, q, o, l) refl)
      (λ l. rw (not_over a.ms (a.stamp + window.behind), not_over a.stamp (a.ms + window.ahead))
      (by_test (ltb (a.stamp + window.behind) a.ms) (λ v. rw (p, j, f, q, o, l, v) refl)
      (λ v. by_test (ltb (a.ms + window.ahead) a.stamp) (λ w. rw (p, j, f, q, o, l, v, w) refl) (λ w. rw (p, j, f, q, o, l, v, w) refl))))))))
      (λ j. let z : true ≡ false = rw (p, j) at e in no (cc)))

-- a sweep keeps `pending`
pub sweep_pending : (u : Usable) (ms : ℕ) (reg : Register) → (sweep u ms reg).pending ≡ reg.pending
unfolding sweep sweep_rings
sweep_pending u ms reg =
    by_test reg.pending (λ e. rw e refl)
    (λ e. rw e (by_test (leb (through_of u ms) reg.swept) (λ d. rw d refl) (λ d. rw d refl)))

-- ---- the parts of a take, one after the other
module _ (u : Usable) (b : Shares) (k : Book) (a : Ask) where
  abbrev bucket : ℕ
  bucket = bucket_of u a.stamp

  abbrev second : ℕ
  second = second_of bucket u.bucket

  abbrev room_of : Register → Room
  room_of reg = make_room u.slots bucket (as_read a.fp) (pick (class_of a.who) reg.rings)

  -- what a ticket gets that is New to judge
  abbrev share_reason : Register → Reason
  share_reason reg = after_draw (draw_says b a.who second k) (room_reason (room_of reg))

  -- the rules of the register, then those of the book, then those of the ring
  pub first_parts : (reg : Register) → first_rule (rules u b reg k a) ≡ first_of (share_reason reg) (judge_rules u reg a)
  unfolding first_rule rules
  first_parts reg =
      let shares = share_rules b a.who second k in
      let rooms = room_rules u.slots bucket (as_read a.fp) (pick (class_of a.who) reg.rings) in
      first_after Reason.Accepted (judge_rules u reg a) (shares ++ rooms)
      ∙ ap (λ (x : Reason). first_of x (judge_rules u reg a))
      (first_after Reason.Accepted shares rooms ∙ ap (λ (x : Reason). first_of x shares) (room_first _ _ _ _) ∙ draw_first b a.who second k _)

  room_says : (reg : Register) (m : Room) → (take_room u b a reg k m).says ≡ reason_verdict (room_reason m)
  unfolding take_room reason_verdict
  room_says reg (At i) = refl
  room_says reg Collides = refl
  room_says reg NoSlots = refl

  share_says : (reg : Register) → (take_share u b a reg k).says ≡ reason_verdict (share_reason reg)
  unfolding take_share
  share_says reg =
      let d = draw_says b a.who second k in
      by_test (granted d) (λ g. rw (draw_verdict d (room_reason (room_of reg)), g) (room_says reg (room_of reg)))
      (λ g. rw (draw_verdict d (room_reason (room_of reg)), g) refl)

  pub judged_says : (reg : Register) (v : Verdict) → (take_judged u b a k reg v).says ≡ unless_new v (take_share u b a reg k).says
  unfolding take_judged
  judged_says reg New = refl
  judged_says reg Duplicate = refl
  judged_says reg Late = refl
  judged_says reg Ahead = refl
  judged_says reg Full = refl
  judged_says reg Unjudged = refl

module _ (u : Usable) (b : Shares) (reg : Register) (k : Book) (a : Ask) where
  abbrev swept : Register
  swept = sweep u a.ms reg

  swept_unjudged : unjudged swept a ≡ unjudged reg a
  unfolding unjudged
  swept_unjudged = ap (λ (p : Bool). p || not a.judging) (sweep_pending u a.ms reg)

  take_shut : unjudged reg a ≡ true → (take u b reg k a).says ≡ Unjudged
  unfolding take judge take_judged
  take_shut e = rw e refl

  take_open : unjudged reg a ≡ false → (take u b reg k a).says ≡ (take_judged u b a k swept (verdict u swept a)).says
  unfolding take judge
  take_open e = rw e refl

  -- take's verdict is that of the first rule that is met
  pub take_says : (take u b reg k a).says ≡ reason_verdict (reason u b reg k a)
  unfolding reason
  take_says =
      let x = share_reason u b k a swept in
      let parts = ap reason_verdict (first_parts u b k a swept) in
      by_test (unjudged reg a)
      (λ e. take_shut e ∙ sym (parts ∙ shut_first u swept a x (swept_unjudged ∙ e)))
      (λ e. take_open e ∙ judged_says u b k a swept (verdict u swept a) ∙ ap (unless_new (verdict u swept a)) (share_says u b k a swept)
      ∙ sym (parts ∙ verdict_first u swept a x (swept_unjudged ∙ e)))

-- ---- take_batch: Late past the front is Ahead, and nothing that judge calls New is past the front
not_past : (v : Verdict) → ahead_for false v ≡ v
unfolding ahead_for
not_past New = refl
not_past Duplicate = refl
not_past Late = refl
not_past Ahead = refl
not_past Full = refl
not_past Unjudged = refl

ahead_unless : (past : Bool) (v w : Verdict) → (v ≡ New → past ≡ false) → unless_new (ahead_for past v) w ≡ ahead_for past (unless_new v w)
unfolding ahead_for
ahead_unless past New w h = rw (h refl) (sym (not_past w))
ahead_unless past Duplicate w h = refl
ahead_unless true Late w h = refl
ahead_unless false Late w h = refl
ahead_unless past Ahead w h = refl
ahead_unless past Full w h = refl
ahead_unless past Unjudged w h = refl

module _ (u : Usable) (b : Shares) (reg : Register) (k : Book) (a : Ask) where
  abbrev past : Bool
  past = front_past (window_for u a.who) a.stamp a.ms

  new_not_past : (judge u reg a).says ≡ New → past ≡ false
  unfolding judge front_past
  new_not_past e =
      by_test (unjudged reg a) (λ d. let z : Unjudged ≡ New = rw d at e in no (cc))
      (λ d.
      let inside = new_inside u (sweep u a.ms reg) a (rw d at e) in
      le-ltb _ a.stamp (window_holds (window_for u a.who) a.stamp a.ms inside).not_ahead)

  pub batch_follows : (take_batch u b reg k a).says ≡ ahead_for past (take u b reg k a).says
  unfolding take take_batch judge_batch
  batch_follows =
      let j = judge u reg a in
      judged_says u b k a j.register (ahead_for past j.says)
      ∙ ahead_unless past j.says (take_share u b a j.register k).says new_not_past
      ∙ ap (ahead_for past) (sym (judged_says u b k a j.register j.says))

  pub batch_says : (take_batch u b reg k a).says ≡ batch_verdict u a (reason u b reg k a)
  unfolding batch_verdict
  batch_says = batch_follows ∙ ap (ahead_for past) (take_says u b reg k a)
