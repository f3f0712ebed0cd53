-- The rule behind a take's verdict, step by step: the rules of judge, the share, the room, and the sweep that was seen. Assumes nothing.
use Prim.Native.Nat.{ℕ, ◌-◌}
use mathlib.Core.Path.{◌≡◌, refl, sym, ap, subst, ◌∙◌}
use mathlib.Core.Bool.{Bool, true, cond, not, ◌&&◌}
use mathlib.Core.List.{List, [], ◌∷◌}
use mathlib.Core.Logic.{◌⊎◌, inl, inr}
use lib.Dec.{eqb}
use borrow.Author.Tests.{eqb-false, not-true}
use borrow.Rule.Slice.PartMut.{mid_of}
use Rattle.runs.proofs.Cases.{both_true}
use Rattle.model.specs.declared.Class.{Class}
use Rattle.model.specs.declared.Class.TheVariants.{Feeders, Peers, Own}
use Rattle.model.specs.declared.Draw.{Draw}
use Rattle.model.specs.declared.Draw.TheVariants.{Granted as Had, Closed, OwnShare, ClassLimit, EqualPart, TwiceLimit, Places, Pairs}
use Rattle.model.specs.declared.Reason.{Reason}
use Rattle.model.specs.declared.Reason.TheVariants.{Accepted}
use Rattle.model.specs.declared.Room.{Room}
use Rattle.model.specs.declared.Room.TheVariants.{At, Collides, Full as NoSlots}
use Rattle.model.specs.declared.Settings.{Settings}
use Rattle.model.specs.declared.Usable.{Usable}
use Rattle.model.specs.First.{Rule, first_of, First, here, later, NoneMet}
use Rattle.model.specs.Settings.{usable_at}
use Rattle.model.specs.Class.{Each, class_of, pick, each}
use Rattle.model.specs.Generation.{as_read}
use Rattle.model.specs.Book.{second_of, granted, draw_says}
use Rattle.model.specs.Register.{Ring, Register}
use Rattle.model.specs.Judge.{Ask, bucket_of, make_room}
use Rattle.model.specs.Codes.{reason_number, draw_reason, room_reason}
use Rattle.model.specs.Reason.{judge_rules, rules, first_rule, reason}
use Rattle.model.specs.Words.{State, state_form}
use Rattle.model.specs.Calls.{register_at}
use Rattle.model.proofs.First.{first_is, none_is, met_or_none}
use Rattle.model.proofs.Reasons.{after_draw, first_parts}
use Rattle.numbers.specs.declared.starts.RegisterExtent.{RegisterExtent}
use Rattle.numbers.specs.RegisterAt.{RegisterAt}
use Rattle.ring.specs.Sweep.{swept_ring, room_after}
use Rattle.std.proofs.Common.{Err}
use Rattle.book.specs.declared.Spot.{Spot}
use Rattle.register.specs.declared.peeking.Seen.{Seen}
use Rattle.register.specs.Seen.{Sees, seen_by, left_by, judge_rule, room_left}
use Rattle.register.specs.Words.{RegisterReads}
use Rattle.register.proofs.Foreseen.{left_is}
use Rattle.taking.specs.declared.tickets.Ticket.{Ticket}
use Rattle.taking.specs.Rules.{Suits, Granted, share_for, draw_for}
use Rattle.taking.specs.Reasons.{SeenAt, seen_at, judge_reason, room_seen, share_reason, reason_seen, reason_at}
use Rattle.taking.specs.Words.{StateReads}
use Rattle.taking.proofs.InRun.{register_reads}
use Rattle.taking.proofs.Draws.{was_granted, was_refused}

-- ---- what is read of a register, in the whole run
module _ (s : Settings) (r : ℕ) (p : RegisterExtent) (l : RegisterAt s r p) (ws : List ℕ) where
  abbrev part : List ℕ
  part = mid_of p.start (p.end - p.start) ws

  pub seen_there : (seen : Seen) → Sees p.u seen → SeenAt s r seen
  seen_there seen v = subst (λ (u : Usable). Sees u seen) l.usable v

  pub seen_here : (seen : Seen) → SeenAt s r seen → Sees p.u seen
  seen_here seen v = subst (λ (u : Usable). Sees u seen) (sym l.usable) v

  pub see_reads : (ms : ℕ) (v : Seen) → RegisterReads p.u (seen_by p.u ms) part v → StateReads s (seen_at s r ms) ws v
  unfolding seen_at
  see_reads ms v t = subst (λ (u : Usable). StateReads s (λ x. seen_by u ms (register_at r x)) ws v) l.usable (register_reads s r l.below p l t)

  module _ (seen : Seen) where
    pub judge_after_reads : (a : Ask) (v : Reason) → RegisterReads p.u (judge_rule p.u seen a) part v → StateReads s (judge_reason s r seen a) ws v
    unfolding judge_reason
    judge_after_reads a v t =
        subst (λ (u : Usable). StateReads s (λ x. judge_rule u seen a (register_at r x)) ws v) l.usable (register_reads s r l.below p l t)

    pub room_after_reads : (k : Ticket) (c : Class) (m : Room) → c ≡ class_of k.who
        → RegisterReads p.u (room_left p.u seen c k.bucket.0 k.fp.word) part m → StateReads s (room_seen s r seen k) ws m
    unfolding room_seen
    room_after_reads k c m class t =
        subst (λ (u : Usable). StateReads s (λ x. room_left u seen (class_of k.who) k.bucket.0 k.fp.word (register_at r x)) ws m) l.usable
        (register_reads s r l.below p l (rw class at t))

-- ---- the share, and the room where it is granted
module _ (s : Settings) (r : ℕ) (seen : Seen) (k : Ticket) (ws : List ℕ) where
  pub share_refused : (against : Draw) (v : Reason) → StateReads s (share_for s k) ws (Err against) → v ≡ draw_reason against
      → StateReads s (share_reason s r seen k) ws v
  unfolding share_reason
  share_refused against v f q = record {
    says = λ t ok is. let d = was_refused _ _ _ (granted (draw_for s k t)) (f.says t ok is) in rw d.0 (q ∙ ap draw_reason d.1);
  }

  pub share_had : (spot : Spot) (v : Reason) (m : Room) → Granted s k ws spot → StateReads s (room_seen s r seen k) ws m → v ≡ room_reason m
      → StateReads s (share_reason s r seen k) ws v
  unfolding share_reason
  share_had spot v m f g q = record {
    says = λ t ok is. rw (was_granted _ _ _ (granted (draw_for s k t)) (f.says t ok is)).0 (q ∙ ap room_reason (g.says t ok is));
  }

-- ---- the rules of judge come first: none of them names Accepted, so Accepted tells that none is met
unfoldable none_accepts : List (Rule Reason) → Bool
none_accepts [] = true
none_accepts (x ∷ xs) = not (eqb (reason_number x.names) 0) && none_accepts xs

named_above : (xs : List (Rule Reason)) → none_accepts xs ≡ true → (n : Reason) → First n xs → reason_number n ≡ 0 → ⊥
unfolding none_accepts
named_above [] p n first z = elim first [ ]
named_above (x ∷ xs) p n (here met is) z =
    let q = (both_true (not (eqb (reason_number x.names) 0)) (none_accepts xs) p).0 in
    eqb-false (reason_number x.names) 0 (not-true (eqb (reason_number x.names) 0) q) (ap reason_number is ∙ z)
named_above (x ∷ xs) p n (later not_met first) z =
    named_above xs (both_true (not (eqb (reason_number x.names) 0)) (none_accepts xs) p).1 n first z

module _ (y : Reason) (xs : List (Rule Reason)) where
  first_stands : (first_of Accepted xs ≡ Accepted → ⊥) → first_of y xs ≡ first_of Accepted xs
  first_stands n = by_cases (met_or_none xs)
    where
      by_cases : ((m : Reason) × First m xs) ⊎ NoneMet xs → first_of y xs ≡ first_of Accepted xs
      by_cases (inl (m, f)) = first_is y m xs f ∙ sym (first_is Accepted m xs f)
      by_cases (inr none) = absurd (n (none_is Accepted xs none))

  first_passes : none_accepts xs ≡ true → first_of Accepted xs ≡ Accepted → first_of y xs ≡ y
  unfolding reason_number
  first_passes p z = by_cases (met_or_none xs)
    where
      by_cases : ((m : Reason) × First m xs) ⊎ NoneMet xs → first_of y xs ≡ y
      by_cases (inl (m, f)) = absurd (named_above xs p m f (ap reason_number (sym (first_is Accepted m xs f) ∙ z)))
      by_cases (inr none) = none_is y xs none

judge_accepts : (u : Usable) (reg : Register) (a : Ask) → none_accepts (judge_rules u reg a) ≡ true
unfolding none_accepts reason_number
judge_accepts u reg a = refl

-- ---- share and room as the rules have them
each_pick : (f : Ring → Ring) (c : Class) (e : Each Ring) → f (pick c e) ≡ pick c (each f e)
each_pick f Feeders e = refl
each_pick f Peers e = refl
each_pick f Own e = refl

by_draw : (d : Draw) (x : Reason) → cond (granted d) x (draw_reason d) ≡ after_draw d x
by_draw Had x = refl
by_draw Closed x = refl
by_draw OwnShare x = refl
by_draw ClassLimit x = refl
by_draw EqualPart x = refl
by_draw TwiceLimit x = refl
by_draw Places x = refl
by_draw Pairs x = refl

module _ (s : Settings) (r : ℕ) (seen : Seen) (a : Ask) where
  -- what the rules of the book and of the ring say of a register
  abbrev rest : Register → State → Reason
  rest reg t =
      let u = usable_at s r in
      let b = bucket_of u a.stamp in
      after_draw (draw_says s.shares a.who (second_of b u.bucket) t.book)
      (room_reason (make_room u.slots b (as_read a.fp) (pick (class_of a.who) reg.rings)))

  module _ (k : Ticket) (q : Suits (usable_at s r) a k) where
    same_seen : (t : State) → room_seen s r seen k t
        ≡ make_room (usable_at s r).slots (bucket_of (usable_at s r) a.stamp) (as_read a.fp) (pick (class_of a.who) (left_by seen (register_at r t)).rings)
    unfolding room_seen room_left room_after left_by
    same_seen t =
        rw (q.who, q.fp, q.bucket)
        (ap (make_room (usable_at s r).slots (bucket_of (usable_at s r) a.stamp) (as_read a.fp))
        (each_pick (swept_ring seen.buckets.from.0 seen.buckets.through.0) (class_of a.who) (register_at r t).rings))

    share_is : (t : State) → share_reason s r seen k t ≡ rest (left_by seen (register_at r t)) t
    unfolding share_reason draw_says
    share_is t =
        let d = draw_for s k t in
        let m = room_seen s r seen k t in
        by_draw d (room_reason m) ∙ ap (after_draw d) (ap room_reason (same_seen t)) ∙ rw (q.who, q.second)

  module _ (ws : List ℕ) (v : Reason) (one : StateReads s (judge_reason s r seen a) ws v) where
    judged : (t : State) → (state_form s).Ok t → ws ≡ (state_form s).enc t → v ≡ first_of Accepted (judge_rules (usable_at s r) (left_by seen (register_at r t)) a)
    unfolding judge_reason judge_rule first_rule
    judged t ok is = one.says t ok is

    all_rules : (t : State) → reason_seen s r seen a t
        ≡ first_of (rest (left_by seen (register_at r t)) t) (judge_rules (usable_at s r) (left_by seen (register_at r t)) a)
    unfolding reason_seen
    all_rules t = first_parts (usable_at s r) s.shares t.book a (left_by seen (register_at r t))

    -- one of judge's rules is met
    pub judge_stands : (v ≡ Accepted → ⊥) → StateReads s (reason_seen s r seen a) ws v
    judge_stands z = record {
      says = λ t ok is.
          let reg = left_by seen (register_at r t) in
          let j = judged t ok is in
          j ∙ sym (all_rules t ∙ first_stands (rest reg t) (judge_rules (usable_at s r) reg a) (λ e. z (j ∙ e)));
    }

    -- none is
    pub judge_passes : v ≡ Accepted → (p : RegisterExtent) → RegisterAt s r p → (k : Ticket) → Suits p.u a k → (x : Reason)
        → StateReads s (share_reason s r seen k) ws x → StateReads s (reason_seen s r seen a) ws x
    judge_passes z p l k suits x two = record {
      says = λ t ok is.
          let reg = left_by seen (register_at r t) in
          let u = usable_at s r in
          let q : Suits u a k = subst (λ (v : Usable). Suits v a k) l.usable suits in
          let j = judged t ok is in
          let none = sym j ∙ z in
          two.says t ok is ∙ share_is k q t ∙ sym (all_rules t ∙ first_passes (rest reg t) (judge_rules u reg a) (judge_accepts u reg a) none);
    }

  -- ---- with what was seen at the ticket's own reading
  pub seen_explains : (ws : List ℕ) (v : Reason) → StateReads s (seen_at s r a.ms) ws seen → StateReads s (reason_seen s r seen a) ws v
      → StateReads s (reason_at s r a) ws v
  unfolding reason_at reason reason_seen seen_at
  seen_explains ws v one two = record {
    says = λ t ok is.
        let u = usable_at s r in
        let reg = register_at r t in
        let left = ap (λ (x : Seen). left_by x reg) (one.says t ok is) ∙ left_is u a.ms reg in
        two.says t ok is ∙ ap (λ (x : Register). first_rule (rules u s.shares x t.book a)) left;
  }
