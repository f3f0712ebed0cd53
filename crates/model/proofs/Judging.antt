-- Judge, take and their batch forms on one register: they leave it well formed, they keep what was struck, a struck ticket is not
-- New, and New is said only of a ticket that is struck. Assumes nothing.
use Prim.Native.Nat.{ℕ, ◌≤◌, ◌<◌}
use native.Mathlib.Omega.{arith}
use mathlib.Core.Path.{◌≡◌, refl}
use mathlib.Core.Bool.{Bool, true, not, ◌||◌}
use borrow.Author.Tests.{eq-eqb}
use Rattle.model.specs.declared.Class.{Class}
use Rattle.model.specs.declared.Class.TheVariants.{Feeders, Peers, Own}
use Rattle.model.specs.declared.Verdict.{Verdict}
use Rattle.model.specs.declared.Verdict.TheVariants.{New, Duplicate, Late, Ahead, Full, Unjudged}
use Rattle.model.specs.declared.Room.{Room}
use Rattle.model.specs.declared.Room.TheVariants.{At, Collides, Full as NoSlots}
use Rattle.model.specs.declared.Usable.{Usable}
use Rattle.model.specs.declared.Shares.{Shares}
use Rattle.runs.proofs.Cases.{split_if, no}
use Rattle.model.specs.Numbers.{under}
use Rattle.model.specs.Class.{class_of, Each, pick}
use Rattle.model.specs.Generation.{as_read}
use Rattle.model.specs.Book.{Book, second_of, granted, draw_says}
use Rattle.model.specs.Register.{Ring, Register, generation_at, holds, any_class, sweep, begin}
use Rattle.model.specs.Judge.{Ask, bucket_of, window_for, in_window, front_past, unjudged, verdict, Judgement, judge, ahead_for, judge_batch, make_room, Taken}
use Rattle.model.specs.Judge.{take_room, take_share, take_judged, take, take_batch}
use Rattle.model.proofs.Choice.{or_left, or_right, true_false}
use Rattle.model.proofs.Struck.{In, Struck, in_class, below_floor, struck_sweep, under_raise}
use Rattle.model.proofs.Strike.{struck_strike, struck_new}
use Rattle.model.proofs.RingsKept.{RegisterOk, sweep_ok, strike_ok}
use Rattle.model.proofs.BookKept.{BookOk, second_short, drawn_ok}

-- a fingerprint as it is read is never 0
pub read_positive : (fp : ℕ) → 0 < as_read fp
unfolding as_read
read_positive fp = omega arith

-- ---- judge
in_holds : (b fp t : ℕ) (ring : Ring) → In b fp t ring → holds b fp ring ≡ true
unfolding holds
in_holds b fp t ring h = cc (eq-eqb (generation_at ring b).bucket b h.of_bucket, h.holds_it)

pub any_in : (f : Ring → Bool) (c : Class) (e : Each Ring) → f (pick c e) ≡ true → any_class f e ≡ true
any_in f Feeders e p = cc
any_in f Peers e p = or_right (f e.of_feeders) (f e.of_peers || f e.of_own) (or_left (f e.of_peers) (f e.of_own) p)
any_in f Own e p = or_right (f e.of_feeders) (f e.of_peers || f e.of_own) (or_right (f e.of_peers) (f e.of_own) p)

-- the ticket of a question is struck
abbrev pub Asked : Usable → Ask → Register → Type 0
Asked u a reg = Struck (bucket_of u a.stamp) (as_read a.fp) a.stamp reg

-- once swept, a register does not call it New
not_new : (u : Usable) (reg : Register) (a : Ask) → Asked u a reg → verdict u reg a ≡ New → ⊥
unfolding verdict
not_new u reg a (in_class c h) v =
    let d : any_class (holds (bucket_of u a.stamp) (as_read a.fp)) reg.rings ≡ true =
    any_in (holds (bucket_of u a.stamp) (as_read a.fp)) c reg.rings (in_holds (bucket_of u a.stamp) (as_read a.fp) a.stamp (pick c reg.rings) h) in
    let z : Duplicate ≡ New = simp d at v in
    no (cc)
not_new u reg a (below_floor p) v =
    split_if (λ (x : Verdict). x ≡ New → ⊥) (any_class (holds (bucket_of u a.stamp) (as_read a.fp)) reg.rings) (λ e z. no (cc))
    (λ e. split_if (λ (x : Verdict). x ≡ New → ⊥) (under a.stamp reg.floor || not (in_window (window_for u a.who) a.stamp a.ms)) (λ d z. no (cc))
    (λ d. true_false (or_left (under a.stamp reg.floor) (not (in_window (window_for u a.who) a.stamp a.ms)) p) d)) v

pub ahead_new : (p : Bool) (v : Verdict) → ahead_for p v ≡ New → v ≡ New
unfolding ahead_for
ahead_new p New e = refl
ahead_new p Duplicate e = e
ahead_new p Late e = split_if (λ (x : Verdict). x ≡ New → Late ≡ New) p (λ d h. no (cc)) (λ d h. h) e
ahead_new p Ahead e = e
ahead_new p Full e = e
ahead_new p Unjudged e = e

module _ (u : Usable) (reg : Register) (a : Ask) where
  pub judge_ok : RegisterOk u reg → RegisterOk u (judge u reg a).register
  unfolding judge
  judge_ok ok = split_if (λ (j : Judgement). RegisterOk u j.register) (unjudged reg a) (λ e. ok) (λ e. sweep_ok u a.ms reg ok)

  pub judge_keeps : (b fp t : ℕ) → Struck b fp t reg → Struck b fp t (judge u reg a).register
  unfolding judge
  judge_keeps b fp t s = split_if (λ (j : Judgement). Struck b fp t j.register) (unjudged reg a) (λ e. s) (λ e. struck_sweep b fp t u a.ms reg s)

  pub judge_not_new : Asked u a reg → (judge u reg a).says ≡ New → ⊥
  unfolding judge
  judge_not_new s =
      split_if (λ (j : Judgement). j.says ≡ New → ⊥) (unjudged reg a) (λ e p. no (cc))
      (λ e. not_new u (sweep u a.ms reg) a (struck_sweep (bucket_of u a.stamp) (as_read a.fp) a.stamp u a.ms reg s))

  -- the batch form says New only where judge does
  pub batch_new : (judge_batch u reg a).says ≡ New → (judge u reg a).says ≡ New
  unfolding judge_batch
  batch_new e = ahead_new (front_past (window_for u a.who) a.stamp a.ms) (judge u reg a).says e

-- ---- the rest of a take, on a register as judge left it
module _ (u : Usable) (b : Shares) (a : Ask) (k : Book) (reg : Register) where
  abbrev bucket : ℕ
  bucket = bucket_of u a.stamp

  abbrev print : ℕ
  print = as_read a.fp

  abbrev class : Class
  class = class_of a.who

  abbrev second : ℕ
  second = second_of bucket u.bucket

  abbrev room : Room
  room = make_room u.slots bucket print (pick class reg.rings)

  pub says_new : (v : Verdict) → (take_judged u b a k reg v).says ≡ New → v ≡ New
  unfolding take_judged
  says_new New e = refl
  says_new Duplicate e = e
  says_new Late e = e
  says_new Ahead e = e
  says_new Full e = e
  says_new Unjudged e = e

  -- what holds of a take's outcome where the ticket is struck, and where nothing is, holds of it
  module _ (P : Taken → Type 0)
      (struck : (i : ℕ) → room ≡ At i → granted (draw_says b a.who second k) ≡ true → P (take_room u b a reg k (At i)))
      (other : (v : Verdict) → (v ≡ New → ⊥) → P (record { says = v; register = reg; book = k })) where
    by_room : granted (draw_says b a.who second k) ≡ true → (m : Room) → room ≡ m → P (take_room u b a reg k m)
    unfolding take_room
    by_room g (At i) r = struck i r g
    by_room g Collides r = other Late (λ z. no (cc))
    by_room g NoSlots r = other Full (λ z. no (cc))

    by_share : P (take_share u b a reg k)
    unfolding take_share
    by_share = split_if P (granted (draw_says b a.who second k)) (λ g. by_room g room refl) (λ g. other Full (λ z. no (cc)))

    pub taken_cases : (v : Verdict) → P (take_judged u b a k reg v)
    unfolding take_judged
    taken_cases New = by_share
    taken_cases Duplicate = other Duplicate (λ z. no (cc))
    taken_cases Late = other Late (λ z. no (cc))
    taken_cases Ahead = other Ahead (λ z. no (cc))
    taken_cases Full = other Full (λ z. no (cc))
    taken_cases Unjudged = other Unjudged (λ z. no (cc))

  pub rest_ok : u.slots ≤ 1_024 → 1 ≤ b.pairs → RegisterOk u reg → BookOk b k → (v : Verdict)
      → RegisterOk u (take_judged u b a k reg v).register × BookOk b (take_judged u b a k reg v).book
  unfolding take_room
  rest_ok small some_pairs ok okb =
      taken_cases (λ (x : Taken). RegisterOk u x.register × BookOk b x.book)
      (λ i r g. (strike_ok u class bucket print a.stamp i reg small (read_positive a.fp) r ok, drawn_ok b a.who second k some_pairs (second_short bucket u.bucket) g okb))
      (λ v n. (ok, okb))

  pub rest_keeps : (x fp t : ℕ) → 0 < fp → RegisterOk u reg → Struck x fp t reg → (v : Verdict) → Struck x fp t (take_judged u b a k reg v).register
  unfolding take_room
  rest_keeps x fp t z ok s =
      taken_cases (λ (y : Taken). Struck x fp t y.register)
      (λ i r g. struck_strike u x fp t bucket print a.stamp i class reg z (read_positive a.fp) ok r s) (λ v n. s)

  pub rest_strikes : RegisterOk u reg → (v : Verdict) → (take_judged u b a k reg v).says ≡ New → Asked u a (take_judged u b a k reg v).register
  unfolding take_room
  rest_strikes ok =
      taken_cases (λ (y : Taken). y.says ≡ New → Asked u a y.register)
      (λ i r g e. struck_new u bucket print a.stamp class reg (read_positive a.fp) ok) (λ v n e. absurd (n e))

  -- what is not New leaves register and book as they were
  pub rest_leaves : (v : Verdict) → ((take_judged u b a k reg v).says ≡ New → ⊥)
      → ((take_judged u b a k reg v).register ≡ reg) × ((take_judged u b a k reg v).book ≡ k)
  unfolding take_room
  rest_leaves =
      taken_cases (λ (y : Taken). (y.says ≡ New → ⊥) → (y.register ≡ reg) × (y.book ≡ k)) (λ i r g n. absurd (n refl)) (λ v n m. (refl, refl))

-- ---- take and take_batch
module _ (u : Usable) (b : Shares) (reg : Register) (k : Book) (a : Ask) where
  pub take_ok : u.slots ≤ 1_024 → 1 ≤ b.pairs → RegisterOk u reg → BookOk b k
      → RegisterOk u (take u b reg k a).register × BookOk b (take u b reg k a).book
  unfolding take
  take_ok small some_pairs ok okb = rest_ok u b a k (judge u reg a).register small some_pairs (judge_ok u reg a ok) okb (judge u reg a).says

  pub take_batch_ok : u.slots ≤ 1_024 → 1 ≤ b.pairs → RegisterOk u reg → BookOk b k
      → RegisterOk u (take_batch u b reg k a).register × BookOk b (take_batch u b reg k a).book
  unfolding take_batch judge_batch
  take_batch_ok small some_pairs ok okb = rest_ok u b a k (judge u reg a).register small some_pairs (judge_ok u reg a ok) okb (judge_batch u reg a).says

  module _ (ok : RegisterOk u reg) where
    pub take_keeps : (x fp t : ℕ) → 0 < fp → Struck x fp t reg → Struck x fp t (take u b reg k a).register
    unfolding take
    take_keeps x fp t z s = rest_keeps u b a k (judge u reg a).register x fp t z (judge_ok u reg a ok) (judge_keeps u reg a x fp t s) (judge u reg a).says

    pub take_batch_keeps : (x fp t : ℕ) → 0 < fp → Struck x fp t reg → Struck x fp t (take_batch u b reg k a).register
    unfolding take_batch judge_batch
    take_batch_keeps x fp t z s =
        rest_keeps u b a k (judge u reg a).register x fp t z (judge_ok u reg a ok) (judge_keeps u reg a x fp t s) (judge_batch u reg a).says

    pub take_strikes : (take u b reg k a).says ≡ New → Asked u a (take u b reg k a).register
    unfolding take
    take_strikes e = rest_strikes u b a k (judge u reg a).register (judge_ok u reg a ok) (judge u reg a).says e

    pub take_batch_strikes : (take_batch u b reg k a).says ≡ New → Asked u a (take_batch u b reg k a).register
    unfolding take_batch judge_batch
    take_batch_strikes e = rest_strikes u b a k (judge u reg a).register (judge_ok u reg a ok) (judge_batch u reg a).says e

  pub take_not_new : Asked u a reg → (take u b reg k a).says ≡ New → ⊥
  unfolding take
  take_not_new s e = judge_not_new u reg a s (says_new u b a k (judge u reg a).register (judge u reg a).says e)

  pub take_batch_not_new : Asked u a reg → (take_batch u b reg k a).says ≡ New → ⊥
  unfolding take_batch
  take_batch_not_new s e =
      judge_not_new u reg a s (batch_new u reg a (says_new u b a k (judge_batch u reg a).register (judge_batch u reg a).says e))

-- ---- begin
pub begin_keeps : (b fp t number : ℕ) (reg : Register) → Struck b fp t reg → Struck b fp t (begin number reg)
unfolding begin
begin_keeps b fp t number reg (in_class c h) = split_if (λ (x : Register). Struck b fp t x) reg.pending (λ e. in_class c h) (λ e. in_class c h)
begin_keeps b fp t number reg (below_floor p) =
    split_if (λ (x : Register). Struck b fp t x) reg.pending (λ e. below_floor (under_raise t number reg.floor p)) (λ e. below_floor p)
