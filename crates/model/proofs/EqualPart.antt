-- A take under the conditions is granted its share and answers as it is due: one take on one state. Then a call on one
-- register keeps the bounds from which that follows.
use mathlib.Core.Path.{◌≡◌}
use mathlib.Core.Bool.{true, cond}
use mathlib.Core.List.{[], ◌∷◌}
use Rattle.std.specs.Prelude.{Option, Some, None}
use Prim.Native.Nat.{ℕ}
use lib.Dec.{eqb}
use borrow.Author.Tests.{le-leb, eqb-true}
use Rattle.model.specs.declared.Manner.{Manner}
use Rattle.model.specs.declared.Manner.TheVariants.{Judged, JudgedBatch, Taken, TakenBatch}
use Rattle.model.specs.declared.Verdict.TheVariants.{New, Late, Unjudged}
use Rattle.model.specs.declared.Draw.TheVariants.{Granted}
use Rattle.model.specs.declared.Limits.{Limits}
use Rattle.model.specs.declared.Settings.{Settings}
use Rattle.model.specs.declared.Shares.{Shares}
use Rattle.model.specs.declared.Usable.{Usable}
use Rattle.runs.proofs.Cases.{by_test, each_true, no}
use Rattle.model.specs.Settings.{usable_at}
use Rattle.model.specs.Class.{class_of}
use Rattle.model.specs.Generation.{among, as_read, slots_for}
use Rattle.model.specs.Book.{Book, places_of, second_of, draw_says}
use Rattle.model.specs.Register.{Register, sweep}
use Rattle.model.specs.Judge.{Ask, bucket_of, unjudged, judge, ahead_for, judge_batch, collides, make_room, take_room, take_share, take_judged, take, take_batch}
use Rattle.model.specs.Dump.{Dump}
use Rattle.model.specs.Words.{State}
use Rattle.model.specs.Calls.{register_at, asked, after_judged, after_taken, after_restored, restored, resumed}
use Rattle.model.specs.EqualPart.{same_limits, met, taken_by_another, Due}
use Rattle.model.proofs.Sharing.{grants}
use Rattle.model.proofs.SharesKept.{Bounded, take_bounded, take_batch_bounded, restore_bounded, resume_bounded}

-- ---- judged New: then the register was swept, and nothing else was done to it
pub new_swept : (u : Usable) (reg : Register) (a : Ask) → (judge u reg a).says ≡ New → (judge u reg a).register ≡ sweep u a.ms reg
unfolding judge
new_swept u reg a e =
    by_test (unjudged reg a) (λ t. let z : Unjudged ≡ New = rw t at e in no (cc)) (λ t. rw t)

-- ---- one take
module _ (u : Usable) (b : Shares) (reg : Register) (k : Book) (a : Ask) (d : Due u b reg k a) (h : Bounded b k) where
  abbrev second : ℕ
  second = second_of (bucket_of u a.stamp) u.bucket

  draws : draw_says b a.who second k ≡ Granted
  unfolding draw_says
  draws =
      rw d.open_book
      (grants b k.limits a.who second (places_of (class_of a.who) k) (h (class_of a.who)) d.below_its_share d.feeder_or_peer
      d.three_at_most d.within_its_part d.a_place d.a_pair)

  share_due : (take_share u b a (sweep u a.ms reg) k).says ≡ cond (taken_by_another u reg a) Late New
  unfolding take_share take_room make_room collides met taken_by_another
  share_due =
      rw draws
      (by_test (taken_by_another u reg a) (λ e. simp e)
      (λ e. simp (e, le-leb (slots_for (among (as_read a.fp) (met u reg a).slots) (met u reg a).slots) u.slots (d.a_slot e))))

  module _ (new : (judge u reg a).says ≡ New) where
    pub take_due : (take u b reg k a).says ≡ cond (taken_by_another u reg a) Late New
    unfolding take take_judged
    take_due = rw (new, new_swept u reg a new) share_due

    pub take_batch_due : (take_batch u b reg k a).says ≡ cond (taken_by_another u reg a) Late New
    unfolding take_batch take_judged judge_batch ahead_for
    take_batch_due = rw (new, new_swept u reg a new) share_due

-- ---- a call keeps the bounds while the limits stay
pub limits_same : (l m : Limits) → same_limits l m ≡ true → l ≡ m
unfolding same_limits
limits_same l m t =
    let p = each_true (eqb l.feeder m.feeder) (eqb l.feeders m.feeders ∷ eqb l.peer m.peer ∷ eqb l.peers m.peers ∷ eqb l.relay m.relay ∷ []) t in
    let e0 = eqb-true l.feeder m.feeder p.0 in
    let e1 = eqb-true l.feeders m.feeders p.1.0 in
    let e2 = eqb-true l.peer m.peer p.1.1.0 in
    let e3 = eqb-true l.peers m.peers p.1.1.1.0 in
    let e4 = eqb-true l.relay m.relay p.1.1.1.1 in
    λ i. record { feeder = e0 i; feeders = e1 i; peer = e2 i; peers = e3 i; relay = e4 i }

module _ (s : Settings) where
  abbrev pub BoundedState : State → Type 0
  BoundedState t = Bounded s.shares t.book

  pub asked_bounded : (r : ℕ) (m : Manner) (a : Ask) (t : State) → BoundedState t → BoundedState (asked s r m a t).state
  unfolding asked after_judged after_taken
  asked_bounded r Judged a t h = h
  asked_bounded r JudgedBatch a t h = h
  asked_bounded r Taken a t h = take_bounded s.shares (usable_at s r) (register_at r t) t.book a h
  asked_bounded r TakenBatch a t h = take_batch_bounded s.shares (usable_at s r) (register_at r t) t.book a h

  pub restored_bounded : (r : ℕ) (t : State) (d : Option Dump) → BoundedState t → BoundedState (restored s r t d).state
  unfolding restored after_restored
  restored_bounded r t None h = h
  restored_bounded r t (Some d) h = restore_bounded s.shares (usable_at s r) d (register_at r t) t.book h

  pub resumed_bounded : (r : ℕ) (t : State) (p : Option ℕ) (d : Option Dump) → BoundedState t → BoundedState (resumed s r t p d).state
  unfolding resumed after_restored
  resumed_bounded r t p None h = h
  resumed_bounded r t p (Some d) h = resume_bounded s.shares (usable_at s r) d p (register_at r t) t.book h
