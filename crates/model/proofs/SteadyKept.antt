-- What is kept of a register whose takes' readings never fall (specs/Steady): every held generation of every class is of a bucket from the
-- swept one on, and less than a ring's length above that of the last reading. A sweep at any reading keeps it. A take sweeps to its own
-- reading first, so then no two buckets share a position.
--
-- This speaks of the register's state and of its last reading alone, and of no list of calls. A later request comes back to marks: the
-- register at a mark has it with the reading at the mark, and so with every later reading (`fresh_later`). Assumes nothing.
use Prim.Native.Nat.{ℕ, ◌+◌, ◌-◌, ◌≤◌, ◌<◌, max}
use native.Mathlib.Omega.{arith}
use mathlib.Core.Path.{◌≡◌, refl, sym, ◌∙◌, subst}
use mathlib.Core.Bool.{Bool, true, false, cond, not}
use Rattle.std.specs.Prelude.{Option, Some, None}
use lib.Dec.{leb, eqb}
use lib.ListN.{get_or, set}
use lib.Seq.{get_or-set_same}
use borrow.Author.Tests.{eqb-true, eqb-false, eq-eqb, leb-true, leb-false}
use Rattle.model.specs.declared.Class.{Class}
use Rattle.model.specs.declared.Class.TheVariants.{Feeders, Peers, Own}
use Rattle.model.specs.declared.Deliverer.{Deliverer}
use Rattle.model.specs.declared.Deliverer.TheVariants.{Feeder, Peer, Relay, Restored}
use Rattle.model.specs.declared.Manner.{Manner}
use Rattle.model.specs.declared.Manner.TheVariants.{Judged, JudgedBatch, Taken as TakenManner, TakenBatch}
use Rattle.model.specs.declared.Settings.{Settings}
use Rattle.model.specs.declared.Shares.{Shares}
use Rattle.model.specs.declared.Start.{Start}
use Rattle.model.specs.declared.Start.TheVariants.{Empty, Fallback, At as AtFloor}
use Rattle.model.specs.declared.Usable.{Usable}
use Rattle.model.specs.declared.Verdict.{Verdict}
use Rattle.model.specs.declared.Verdict.TheVariants.{New, Late, Unjudged}
use Rattle.runs.proofs.Cases.{by_test, split_if, no}
use Rattle.model.specs.Numbers.{top64}
use Rattle.model.specs.Settings.{retained, ahead, ring_of, settings_fit, usable_at}
use Rattle.model.specs.Class.{class_of, pick}
use Rattle.model.specs.Generation.{among, as_read, slots_for, insert}
use Rattle.model.specs.Book.{Book, second_of, granted, draw_says}
use Rattle.model.specs.Register.{Ring, Register, generation_at, with_generation, strike, sweep_ring, sweep_rings, through_of, sweep, started_with, started, begin}
use Rattle.model.specs.Judge.{Ask, bucket_of, window_for, front_past, unjudged, verdict, Judgement, judge, ahead_for}
use Rattle.model.specs.Judge.{judge_batch, collides, make_room, Taken, take_room, take_share, take_judged, take, take_batch}
use Rattle.model.specs.Words.{State, state_form}
use Rattle.model.specs.Calls.{Asking, manner_sort, Ticket, Begin, Sweep, On}
use Rattle.model.specs.Calls.{Sort, Asks, Takes, Plain, OnOne, Meaning, meaning, done_on, asked, after_judged, after_taken, ask_of}
use Rattle.model.specs.Calls.{reading_of_ask, no_register, register_at}
use Rattle.model.specs.Steady.{reading_on, kind_taking}
use Rattle.model.proofs.Choice.{or_false, swap_cases}
use Rattle.model.proofs.Bounds.{ring_positive, UsableBounds, usable_bounds, fit_usable}
use Rattle.model.proofs.SoundnessKept.{there}
use Rattle.model.proofs.Judging.{ahead_new, says_new, taken_cases, rest_leaves}
use Rattle.model.proofs.Windows.{window_holds, new_inside}
use Rattle.model.proofs.Steady.{Within, wider, no_clash, sweep_within, struck_within, empty_within, ceil_mono, Ahead, window_buckets}

-- ---- what is kept: of a register and its last reading
pub record Fresh (u : Usable) (last : ℕ) (reg : Register) : Type 0 where
  pub within : (c : Class) → Within (ring_of u) reg.swept (through_of u last + ring_of u) (pick c reg.rings)

-- a reading, where there is one, is at most this
abbrev pub AtMost : Option ℕ → ℕ → Type 0
AtMost None now = Unit {0}
AtMost (Some ms) now = ms ≤ now

-- a take with this reading, or what brings none, leaves another register: it is kept with every reading that is no lower than either
abbrev pub Kept : Usable → Register → Option ℕ → Register → Type 0
Kept u reg o after = (last now : ℕ) → last ≤ now → now ≤ top64 → AtMost o now → Fresh u last reg → Fresh u now after

module _ (u : Usable) (fit : UsableBounds u) where
  through_mono : (last now : ℕ) → last ≤ now → through_of u last ≤ through_of u now
  unfolding through_of
  through_mono last now h = ceil_mono last now u.bucket fit.some_bucket h

  -- with a later reading it is kept of the same register
  pub fresh_later : (last now : ℕ) (reg : Register) → last ≤ now → Fresh u last reg → Fresh u now reg
  fresh_later last now reg h f =
      let m = through_mono last now h in
      record {
        within = λ c. wider (ring_of u) reg.swept (through_of u last + ring_of u) reg.swept (through_of u now + ring_of u) (pick c reg.rings)
            (omega arith) (omega arith) (f.within c);
      }

  -- ---- a sweep
  -- it starts no later than "max(swept, through − ring)", and visits no position twice
  pub record Starts (swept through from : ℕ) : Type 0 where
    pub on : swept ≤ through
    pub early : from ≤ max swept (through - ring_of u)
    pub few : through - from ≤ ring_of u

  module _ (limit through from : ℕ) (reg : Register) (h : Starts reg.swept through from) where
    ring_within : (f : Option ℕ) (ring : Ring) → Within (ring_of u) reg.swept limit ring → Within (ring_of u) through limit (sweep_ring from through f ring).ring
    ring_within = sweep_within (ring_of u) reg.swept limit through from (ring_positive u) h.on h.early h.few

    rings_within : ((c : Class) → Within (ring_of u) reg.swept limit (pick c reg.rings)) → (c : Class)
        → Within (ring_of u) through limit (pick c (sweep_rings from through reg).rings)
    unfolding sweep_rings
    rings_within w Feeders = ring_within _ reg.rings.of_feeders (w Feeders)
    rings_within w Peers = ring_within _ reg.rings.of_peers (w Peers)
    rings_within w Own = ring_within _ reg.rings.of_own (w Own)

  -- swept is then the bucket of the reading
  pub swept_is : (ms : ℕ) (reg : Register) → reg.pending ≡ false → (sweep u ms reg).swept ≡ through_of u ms
  unfolding sweep sweep_rings
  swept_is ms reg e = rw e (by_test (leb (through_of u ms) reg.swept) (λ d. rw d refl) (λ d. rw d refl))

  rings_fresh : (last through from : ℕ) (reg : Register) → Fresh u last reg → Starts reg.swept through from
      → Fresh u last (sweep_rings from through reg)
  unfolding sweep_rings
  rings_fresh last through from reg f h = record { within = rings_within (through_of u last + ring_of u) through from reg h f.within }

  pub sweep_fresh : (last ms : ℕ) (reg : Register) → Fresh u last reg → Fresh u last (sweep u ms reg)
  unfolding sweep
  sweep_fresh last ms reg f =
      let through = through_of u ms in
      let limit = through_of u last + ring_of u in
      split_if (λ (x : Register). Fresh u last x) reg.pending (λ p. f)
      (λ p. split_if (λ (x : Register). Fresh u last x) (leb through reg.swept)
      (λ d.
      let l = leb-true through reg.swept d in
      record { within = λ c. wider (ring_of u) reg.swept limit through limit (pick c reg.rings) l (omega arith) (f.within c) })
      (λ d. let l = leb-false through reg.swept d in rings_fresh last through _ reg f (record { on = omega arith; early = omega arith; few = omega arith })))

  -- ---- a strike in a bucket from the swept one on, less than a ring's length above that of the reading
  pub strike_fresh : (last : ℕ) (c : Class) (b fp stamp : ℕ) (reg : Register) → reg.swept ≤ b → b < through_of u last + ring_of u → Fresh u last reg
      → Fresh u last (strike c b fp stamp reg)
  unfolding strike insert
  strike_fresh last c b fp stamp reg l h f =
      let ring = pick c reg.rings in
      let g = insert b fp stamp (generation_at ring b) in
      record {
        within = λ d. swap_cases (λ (x : Ring). Within (ring_of u) reg.swept (through_of u last + ring_of u) x) c d (with_generation ring b g) reg.rings
            (λ e. struck_within (ring_of u) reg.swept (through_of u last + ring_of u) b ring g refl (ring_positive u) l h (f.within c)) (f.within d);
      }

  -- ---- begin
  pub begin_fresh : (last number : ℕ) (reg : Register) → Fresh u last reg → Fresh u last (begin number reg)
  unfolding begin
  begin_fresh last number reg f =
      split_if (λ (x : Register). Fresh u last x) reg.pending (λ e. record { within = f.within }) (λ e. f)

  -- ---- a register that starts
  start_fresh : (last : ℕ) (floor : Option ℕ) (pending : Bool) → Fresh u last (started_with u floor pending)
  start_fresh last floor pending = record { within = by_class }
    where
      by_class : (c : Class) → Within (ring_of u) 0 (through_of u last + ring_of u) (pick c (started_with u floor pending).rings)
      by_class Feeders = empty_within (ring_of u) (through_of u last + ring_of u)
      by_class Peers = empty_within (ring_of u) (through_of u last + ring_of u)
      by_class Own = empty_within (ring_of u) (through_of u last + ring_of u)

  pub started_fresh : (last : ℕ) (s : Start) → Fresh u last (started u s)
  unfolding started
  started_fresh last Empty = start_fresh last None false
  started_fresh last Fallback = start_fresh last None true
  started_fresh last (AtFloor f) = start_fresh last (Some f) false

-- ---- the spans of every deliverer's window are at most the larger ones
window_behind : (u : Usable) (who : Deliverer) → (window_for u who).behind ≤ retained u
unfolding window_for retained
window_behind u (Feeder id) = omega arith
window_behind u (Peer id) = omega arith
window_behind u Relay = omega arith
window_behind u (Restored c) = omega arith

window_ahead : (u : Usable) (who : Deliverer) → (window_for u who).ahead ≤ ahead u
unfolding window_for ahead
window_ahead u (Feeder id) = omega arith
window_ahead u (Peer id) = omega arith
window_ahead u Relay = omega arith
window_ahead u (Restored c) = omega arith

module _ (u : Usable) (fit : UsableBounds u) (a : Ask) (small : a.ms ≤ top64) where
  -- judged New, its stamp is within the window, so its bucket is from the reading's on, less than a ring's length above it
  pub new_ahead : (reg : Register) → verdict u reg a ≡ New → Ahead u a.ms a.stamp
  new_ahead reg v =
      window_buckets u (window_for u a.who) a.stamp a.ms fit.some_bucket (window_behind u a.who) (window_ahead u a.who) fit.short small
      (window_holds (window_for u a.who) a.stamp a.ms (new_inside u reg a v))

  -- ---- the rest of a take, on a register that was swept at its reading
  module _ (b : Shares) (k : Book) (reg : Register) (swept : reg.swept ≡ through_of u a.ms) where
    rest_fresh : (now : ℕ) → a.ms ≤ now → Fresh u now reg → (v : Verdict) → (v ≡ New → Ahead u a.ms a.stamp)
        → Fresh u now (take_judged u b a k reg v).register
    unfolding take_room
    rest_fresh now h f v new =
        taken_cases u b a k reg (λ (y : Taken). (y.says ≡ New → Ahead u a.ms a.stamp) → Fresh u now y.register)
        (λ i r g n.
        let w = n refl in
        let l = w.from in
        let e = w.below in
        let m = through_mono u fit a.ms now h in
        strike_fresh u fit now (class_of a.who) (bucket_of u a.stamp) (as_read a.fp) a.stamp reg (omega arith) (omega arith) f)
        (λ v n h. f) v (λ e. new (says_new u b a k reg v e))

    -- no held generation of another bucket has the position of its bucket
    clear : Fresh u a.ms reg → Ahead u a.ms a.stamp
        → collides (bucket_of u a.stamp) (generation_at (pick (class_of a.who) reg.rings) (bucket_of u a.stamp)) ≡ false
    clear f w =
        let l = w.from in
        let e = w.below in
        no_clash (ring_of u) reg.swept (through_of u a.ms + ring_of u) (bucket_of u a.stamp) (pick (class_of a.who) reg.rings) (ring_positive u)
        (omega arith) (f.within (class_of a.who)) (omega arith) (omega arith)

    share_not_late : Fresh u a.ms reg → Ahead u a.ms a.stamp → (take_share u b a reg k).says ≡ Late → ⊥
    unfolding take_share take_room make_room
    share_not_late f w =
        let bucket = bucket_of u a.stamp in
        let g = generation_at (pick (class_of a.who) reg.rings) bucket in
        by_test (granted (draw_says b a.who (second_of bucket u.bucket) k))
        (λ t. by_test (leb (slots_for (among (as_read a.fp) g.slots) g.slots) u.slots)
        (λ d. rw (t, clear f w, d) (λ z. no (cc))) (λ d. rw (t, clear f w, d) (λ z. no (cc))))
        (λ t. rw t (λ z. no (cc)))

-- ---- judge, take and their batch forms: they use no reading where they answer Unjudged
abbrev pub used : Register → Ask → Option ℕ
used reg a = cond (unjudged reg a) None (Some a.ms)

used_is : (reg : Register) (a : Ask) → cond reg.pending None (reading_of_ask a) ≡ used reg a
unfolding unjudged
used_is reg a =
    by_test reg.pending (λ p. rw p refl) (λ p. by_test a.judging (λ j. rw (p, j) refl) (λ j. rw (p, j) refl))

module _ (u : Usable) (reg : Register) (a : Ask) where
  judge_cases : (P : Option ℕ → Judgement → Type 0) → P None (record { says = Unjudged; register = reg })
      → (reg.pending ≡ false → P (Some a.ms) (record { says = verdict u (sweep u a.ms reg) a; register = sweep u a.ms reg })) → P (used reg a) (judge u reg a)
  unfolding judge unjudged
  judge_cases P f g = by_test (unjudged reg a) (λ e. rw e f) (λ e. rw e (g (or_false reg.pending (not a.judging) e).0))

  module _ (fit : UsableBounds u) where
    -- judge brings no reading that counts
    pub judge_fresh : Kept u reg None (judge u reg a).register
    judge_fresh last now h small m f =
        judge_cases (λ (o : Option ℕ) (j : Judgement). Fresh u now j.register) (fresh_later u fit last now reg h f)
        (λ e. sweep_fresh u fit now a.ms reg (fresh_later u fit last now reg h f))

    -- take goes by judge's verdict and `take_batch` by one that is made of it (`turn`), which is New only where judge's is
    module _ (b : Shares) (k : Book) (turn : Verdict → Verdict) (only : (v : Verdict) → turn v ≡ New → v ≡ New) where
      turned_fresh : Kept u reg (used reg a) (take_judged u b a k (judge u reg a).register (turn (judge u reg a).says)).register
      turned_fresh last now h small m f =
          let g = fresh_later u fit last now reg h f in
          judge_cases (λ (o : Option ℕ) (j : Judgement). AtMost o now → Fresh u now (take_judged u b a k j.register (turn j.says)).register)
          (λ m.
          let same = (rest_leaves u b a k reg (turn Unjudged) (λ e. let z = only Unjudged (says_new u b a k reg (turn Unjudged) e) in no (cc))).0 in
          subst (λ (x : Register). Fresh u now x) (sym same) g)
          (λ e m.
          let after = sweep u a.ms reg in
          let fits : a.ms ≤ top64 = omega arith in
          rest_fresh u fit a fits b k after (swept_is u fit a.ms reg e) now m (sweep_fresh u fit now a.ms reg g) (turn (verdict u after a))
          (λ n. new_ahead u fit a fits after (only (verdict u after a) n)))
          m

      turned_not_late : turn New ≡ New → (judge u reg a).says ≡ New → a.ms ≤ top64 → Fresh u a.ms reg
          → (take_judged u b a k (judge u reg a).register (turn (judge u reg a).says)).says ≡ Late → ⊥
      unfolding take_judged
      turned_not_late t new small f =
          judge_cases (λ (o : Option ℕ) (j : Judgement). j.says ≡ New → (take_judged u b a k j.register (turn j.says)).says ≡ Late → ⊥)
          (λ n. no (cc))
          (λ e n.
          let after = sweep u a.ms reg in
          rw (n, t) (share_not_late u fit a small b k after (swept_is u fit a.ms reg e) (sweep_fresh u fit a.ms a.ms reg f) (new_ahead u fit a small after n)))
          new

    abbrev past : Bool
    past = front_past (window_for u a.who) a.stamp a.ms

    module _ (b : Shares) (k : Book) where
      pub take_fresh : Kept u reg (used reg a) (take u b reg k a).register
      unfolding take
      take_fresh = turned_fresh b k (λ v. v) (λ v e. e)

      pub take_batch_fresh : Kept u reg (used reg a) (take_batch u b reg k a).register
      unfolding take_batch judge_batch
      take_batch_fresh = turned_fresh b k (ahead_for past) (ahead_new past)

      -- ---- one take: where judge says New it is not Late
      pub take_not_late : (judge u reg a).says ≡ New → a.ms ≤ top64 → Fresh u a.ms reg → (take u b reg k a).says ≡ Late → ⊥
      unfolding take
      take_not_late = turned_not_late b k (λ v. v) (λ v e. e) refl

      pub take_batch_not_late : (judge u reg a).says ≡ New → a.ms ≤ top64 → Fresh u a.ms reg → (take_batch u b reg k a).says ≡ Late → ⊥
      unfolding take_batch judge_batch ahead_for
      take_batch_not_late = turned_not_late b k (ahead_for past) (ahead_new past) refl

-- ---- what a call owes to it: with every reading that is no lower than the last one, and than its own where it is a take
abbrev pub FreshKept : Meaning → Settings → State → ℕ → Type 0
FreshKept m s t r = Kept (usable_at s r) (register_at r t) (reading_on r m.kind (kind_taking m.kind) t) (register_at r (m.does s t).state)

module _ (s : Settings) (fit : settings_fit s ≡ true) (r : ℕ) (low : r < s.registers) (t : State) where
  bounds_at : UsableBounds (usable_at s r)
  bounds_at = usable_bounds (usable_at s r) (fit_usable s r fit low)

  -- one that leaves the register
  pub left_fresh : (m : Meaning) → register_at r (m.does s t).state ≡ register_at r t → FreshKept m s t r
  left_fresh m same last now h small a f =
      subst (λ (x : Register). Fresh (usable_at s r) now x) (sym same) (fresh_later (usable_at s r) bounds_at last now (register_at r t) h f)

  -- one on a register: what it does to others, and what it does to its own
  pub on_one : (m : ℕ → Meaning) (q : ℕ) → ((r ≡ q → ⊥) → register_at r ((m q).does s t).state ≡ register_at r t) → FreshKept (m r) s t r
      → FreshKept (m q) s t r
  on_one m q aside own =
      by_test (eqb r q) (λ e. subst (λ (j : ℕ). FreshKept (m j) s t r) (eqb-true r q e) own) (λ e. left_fresh (m q) (aside (eqb-false r q e)))

  -- the reading of a call on it, and the register that is put there
  reading_here : (d : Sort) (ms : Option ℕ) → reading_on r (OnOne r d) ms t ≡ cond (register_at r t).pending None ms
  unfolding reading_on
  reading_here d ms = rw (eq-eqb r r refl) (by_test (register_at r t).pending (λ e. rw e refl) (λ e. rw e refl))

  module _ (ok : (state_form s).Ok t) where
    here : (d : Sort) (ms o : Option ℕ) (reg : Register) → cond (register_at r t).pending None ms ≡ o → Kept (usable_at s r) (register_at r t) o reg
        → Kept (usable_at s r) (register_at r t) (reading_on r (OnOne r d) ms t) (get_or (set t.registers r reg) r no_register)
    here d ms o reg e k =
        subst (λ (x : Option ℕ). Kept (usable_at s r) (register_at r t) x (get_or (set t.registers r reg) r no_register)) (sym (reading_here d ms ∙ e))
        (subst (λ (x : Register). Kept (usable_at s r) (register_at r t) o x) (sym (get_or-set_same t.registers r reg no_register (there s r t ok low))) k)

    -- what brings no reading that counts
    unread : cond {A = Option ℕ} (register_at r t).pending None None ≡ None
    unread = by_test (register_at r t).pending (λ e. rw e refl) (λ e. rw e refl)

    -- ---- judge, take and their batch forms on it, sweep and begin
    pub asked_fresh : (m : Manner) (a : Asking) → FreshKept (meaning (On r (Ticket m a))) s t r
    unfolding meaning done_on asked after_judged after_taken manner_sort judge_batch kind_taking
    asked_fresh Judged a = here (Asks a) _ _ _ unread (judge_fresh (usable_at s r) (register_at r t) (ask_of a) bounds_at)
    asked_fresh JudgedBatch a = here (Asks a) _ _ _ unread (judge_fresh (usable_at s r) (register_at r t) (ask_of a) bounds_at)
    asked_fresh TakenManner a =
        here (Takes a) _ _ _ (used_is (register_at r t) (ask_of a)) (take_fresh (usable_at s r) (register_at r t) (ask_of a) bounds_at s.shares t.book)
    asked_fresh TakenBatch a =
        here (Takes a) _ _ _ (used_is (register_at r t) (ask_of a)) (take_batch_fresh (usable_at s r) (register_at r t) (ask_of a) bounds_at s.shares t.book)

    pub sweep_on_fresh : (ms : ℕ) → FreshKept (meaning (On r (Sweep ms))) s t r
    unfolding meaning done_on kind_taking
    sweep_on_fresh ms =
        here Plain None None _ unread
        (λ last now h small a f. sweep_fresh (usable_at s r) bounds_at now ms (register_at r t) (fresh_later (usable_at s r) bounds_at last now (register_at r t) h f))

    pub begin_on_fresh : (number : ℕ) → FreshKept (meaning (On r (Begin number))) s t r
    unfolding meaning done_on kind_taking
    begin_on_fresh number =
        here Plain None None _ unread
        (λ last now h small a f. begin_fresh (usable_at s r) bounds_at now number (register_at r t) (fresh_later (usable_at s r) bounds_at last now (register_at r t) h f))
