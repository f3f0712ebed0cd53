-- What is done to a register leaves its floor no lower, a resume apart; a failed generation and a proven floor raise it. Assumes nothing.
use Prim.Native.Nat.{ℕ, ◌-◌, ◌≤◌, max}
use native.Mathlib.Omega.{arith}
use mathlib.Core.Path.{◌≡◌, refl, sym, ◌∙◌, ap, subst}
use mathlib.Core.Bool.{Bool, true, not}
use mathlib.Core.List.{List, [], ◌∷◌}
use Rattle.std.specs.Prelude.{Option, Some, None}
use lib.Dec.{eqb, ltb}
use lib.ListN.{length, get_or, set, get_or-eq_default}
use lib.Seq.{get_or-set_same, get_or-set_other}
use borrow.Author.Tests.{eqb-true, eqb-false, leb-true, ltb-true, ltb-false}
use Rattle.model.specs.declared.Class.{Class}
use Rattle.model.specs.declared.Class.TheVariants.{Feeders, Peers, Own}
use Rattle.model.specs.declared.Deliverer.TheVariants.{Restored}
use Rattle.model.specs.declared.Manner.{Manner}
use Rattle.model.specs.declared.Manner.TheVariants.{Judged, JudgedBatch, Taken as TakenManner, TakenBatch}
use Rattle.model.specs.declared.Room.{Room}
use Rattle.model.specs.declared.Room.TheVariants.{At, Collides, Full as NoSlots}
use Rattle.model.specs.declared.Settings.{Settings}
use Rattle.model.specs.declared.Shares.{Shares}
use Rattle.model.specs.declared.Usable.{Usable}
use Rattle.model.specs.declared.Verdict.{Verdict}
use Rattle.runs.proofs.Cases.{by_test, split_if, no}
use Rattle.model.specs.Numbers.{raise, under}
use Rattle.model.specs.Settings.{usable_at}
use Rattle.model.specs.Book.{Book, second_of, granted, draw_says, drawn}
use Rattle.model.specs.Register.{Register, strike, sweep, begin}
use Rattle.model.specs.Judge.{Ask, unjudged, Judgement, judge, judge_batch, Taken, take_room, take_judged, take, take_batch}
use Rattle.model.specs.Dump.{Dumped, Dump, Holding, hold_room, hold_one, hold_all, failed, Restoring, settled, restore_class, raised_to_dumped, restore, raised_to_proven, resume}
use Rattle.model.specs.Words.{State}
use Rattle.model.specs.Calls.{no_register, register_at, with_register, after_judged, after_taken, asked, after_restored, restored}
use Rattle.model.specs.Misreadings.{NoLower}
use Rattle.model.proofs.Misreadings.{same, raised, floor_stands}
use Rattle.model.proofs.Judging.{taken_cases}

-- a floor that is no lower, of a register
abbrev pub Stands : ℕ → Register → Type 0
Stands f reg = NoLower f reg.floor

-- a floor is at least what it was raised to
pub raised_to : (n : ℕ) (floor : Option ℕ) → NoLower n (raise floor n)
unfolding raise
raised_to n None = record { level = n; there = refl; no_lower = omega arith }
raised_to n (Some f) = record { level = max f n; there = refl; no_lower = omega arith }

-- and at least what is no larger
pub lower : (n m : ℕ) (floor : Option ℕ) → n ≤ m → NoLower m floor → NoLower n floor
lower n m floor h k = let l = k.no_lower in record { level = k.level; there = k.there; no_lower = omega arith }

pub raised_past : (n m : ℕ) (floor : Option ℕ) → n ≤ m → NoLower n (raise floor m)
raised_past n m floor h = lower n m _ h (raised_to m floor)

-- a stamp at or below the floor
pub under_stands : (t : ℕ) (floor : Option ℕ) → under t floor ≡ true → NoLower t floor
unfolding under
under_stands t None p = no (cc)
under_stands t (Some f) p = record { level = f; there = refl; no_lower = leb-true t f p }

-- ---- sweep, judge, take, begin
pub sweep_stands : (u : Usable) (ms : ℕ) (reg : Register) (f : ℕ) → Stands f reg → Stands f (sweep u ms reg)
sweep_stands u ms reg f h =
    let k = floor_stands u ms reg h.level h.there in
    let a = h.no_lower in
    let b = k.no_lower in
    record { level = k.level; there = k.there; no_lower = omega arith }

pub judge_stands : (u : Usable) (reg : Register) (a : Ask) (f : ℕ) → Stands f reg → Stands f (judge u reg a).register
unfolding judge
judge_stands u reg a f h =
    split_if (λ (j : Judgement). Stands f j.register) (unjudged reg a) (λ e. h) (λ e. sweep_stands u a.ms reg f h)

rest_stands : (u : Usable) (b : Shares) (a : Ask) (k : Book) (reg : Register) (f : ℕ) → Stands f reg → (v : Verdict)
    → Stands f (take_judged u b a k reg v).register
unfolding take_room strike
rest_stands u b a k reg f h = taken_cases u b a k reg (λ (y : Taken). Stands f y.register) (λ i r g. h) (λ v n. h)

pub begin_stands : (number : ℕ) (reg : Register) (f : ℕ) → Stands f reg → Stands f (begin number reg)
unfolding begin
begin_stands number reg f h =
    split_if (λ (x : Register). Stands f x) reg.pending (λ e. raised f number reg.floor h) (λ e. h)

-- ---- restore
module _ (u : Usable) (b : Shares) (f : ℕ) where
  room_stands : (c : Class) (d : Dumped) (p : ℕ) (h : Holding) (k : Book) (m : Room) → Stands f h.register → Stands f (hold_room c d p h k m).register
  unfolding hold_room strike
  room_stands c d p h k (At i) s = s
  room_stands c d p h k Collides s = s
  room_stands c d p h k NoSlots s = s

  one_stands : (c : Class) (d : Dumped) (p : ℕ) (h : Holding) → Stands f h.register → Stands f (hold_one u b c d p h).register
  unfolding hold_one
  one_stands c d p h s =
      let second = second_of d.bucket u.bucket in
      split_if (λ (y : Holding). Stands f y.register) (not h.fits) (λ e. s)
      (λ e. split_if (λ (y : Holding). Stands f y.register) (granted (draw_says b (Restored c) second h.book))
      (λ g. room_stands c d p h (drawn b (Restored c) second h.book) _ s) (λ g. s))

  all_stands : (c : Class) (d : Dumped) (ps : List ℕ) (h : Holding) → Stands f h.register → Stands f (hold_all u b c d ps h).register
  unfolding hold_all
  all_stands c d [] h s = s
  all_stands c d (p ∷ ps) h s = all_stands c d ps (hold_one u b c d p h) (one_stands c d p h s)

  pub settled_stands : (c : Class) (d : Dumped) (whole : Bool) (h : Holding) → Stands f h.register → Stands f (settled u c d whole h).register
  unfolding settled failed
  settled_stands c d whole h s =
      split_if (λ (y : Restoring). Stands f y.register) h.fits (λ e. s) (λ e. raised f _ h.register.floor s)

  pub class_stands : (c : Class) (ds : List Dumped) (r : Restoring) → Stands f r.register → Stands f (restore_class u b c ds r).register
  unfolding restore_class
  class_stands c [] r s = s
  class_stands c (d ∷ ds) r s = class_stands c ds _ (settled_stands c d r.whole _ (all_stands c d d.prints _ s))

  dumped_stands : (n : ℕ) (reg : Register) → Stands f reg → Stands f (raised_to_dumped n reg)
  unfolding raised_to_dumped
  dumped_stands n reg s = split_if (λ (x : Option ℕ). NoLower f x) (eqb n 0) (λ e. s) (λ e. raised f (n - 1) reg.floor s)

  pub restore_stands : (d : Dump) (reg : Register) (k : Book) → Stands f reg → Stands f (restore u b d reg k).register
  unfolding restore
  restore_stands d reg k s =
      class_stands Own d.classes.of_own _
      (class_stands Peers d.classes.of_peers _ (class_stands Feeders d.classes.of_feeders _ (dumped_stands d.floor reg s)))

-- ---- resume: at least the proven floor
pub resume_proves : (u : Usable) (b : Shares) (d : Dump) (proven : ℕ) (reg : Register) (k : Book) → Stands proven (resume u b d (Some proven) reg k).register
unfolding resume raised_to_proven
resume_proves u b d proven reg k = raised_to proven _

-- ---- another register in place of register r: the floor of register q
module _ (r : ℕ) (reg : Register) (t : State) where
  pub put_stands : (q f : ℕ) → (Stands f (register_at r t) → Stands f reg) → (register_at q t).floor ≡ Some f → Stands f (register_at q (with_register r reg t))
  put_stands q f g h =
      by_test (eqb q r)
      (λ e. let i : q ≡ r = eqb-true q r e in
      by_test (ltb r (length t.registers))
      (λ l. subst (λ (j : ℕ). Stands f (get_or (set t.registers r reg) j no_register)) (sym i)
      (subst (λ (x : Register). Stands f x) (sym (get_or-set_same t.registers r reg no_register (ltb-true r (length t.registers) l)))
      (g (same f _ (subst (λ (j : ℕ). (register_at j t).floor ≡ Some f) i h)))))
      (λ l. let z : None ≡ Some f =
      sym (ap (λ (x : Register). x.floor) (get_or-eq_default t.registers no_register (ltb-false r (length t.registers) l)))
      ∙ subst (λ (j : ℕ). (register_at j t).floor ≡ Some f) i h in
      no (cc)))
      (λ e. subst (λ (x : Register). Stands f x) (sym (get_or-set_other t.registers r q reg no_register (eqb-false q r e))) (same f _ h))

-- ---- a call about a ticket, and a restore
module _ (s : Settings) (r : ℕ) (t : State) (q f : ℕ) (h : (register_at q t).floor ≡ Some f) where
  pub asked_stands : (m : Manner) (a : Ask) → Stands f (register_at q (asked s r m a t).state)
  unfolding asked after_judged after_taken judge_batch take take_batch
  asked_stands Judged a = put_stands r _ t q f (λ k. judge_stands (usable_at s r) (register_at r t) a f k) h
  asked_stands JudgedBatch a = put_stands r _ t q f (λ k. judge_stands (usable_at s r) (register_at r t) a f k) h
  asked_stands TakenManner a =
      put_stands r _ t q f (λ k. rest_stands (usable_at s r) s.shares a t.book _ f (judge_stands (usable_at s r) (register_at r t) a f k) _) h
  asked_stands TakenBatch a =
      put_stands r _ t q f (λ k. rest_stands (usable_at s r) s.shares a t.book _ f (judge_stands (usable_at s r) (register_at r t) a f k) _) h

  pub restored_stands : (d : Option Dump) → Stands f (register_at q (restored s r t d).state)
  unfolding restored after_restored
  restored_stands None = same f _ h
  restored_stands (Some d) = put_stands r _ t q f (λ k. restore_stands (usable_at s r) s.shares f d (register_at r t) t.book k) h
