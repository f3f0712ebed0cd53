-- A take, step by step: the room, the share before it, the verdict before that. Assumes nothing.
use Prim.Native.Nat.{ℕ, ◌<◌}
use mathlib.Core.Path.{◌≡◌, refl, sym, ap, ◌∙◌}
use mathlib.Core.Bool.{Bool, cond}
use mathlib.Core.List.{List}
use mathlib.Core.Logic.{◌⊎◌, inl, inr}
use Rattle.std.proofs.Common.{Err}
use Rattle.runs.specs.Turns.{silent}
use lib.Seq.{get_or-set_same, set-get_or, set-set}
use Rattle.runs.proofs.Cases.{by_test}
use Rattle.model.specs.declared.Draw.{Draw}
use Rattle.model.specs.declared.Manner.{Manner}
use Rattle.model.specs.declared.Manner.TheVariants.{Judged, JudgedBatch, Taken as TakenManner, TakenBatch}
use Rattle.model.specs.declared.Room.{Room}
use Rattle.model.specs.declared.Room.TheVariants.{At, Collides, Full as NoSlots}
use Rattle.model.specs.declared.Reason.{Reason}
use Rattle.model.specs.declared.Settings.{Settings}
use Rattle.model.specs.declared.Verdict.{Verdict}
use Rattle.model.specs.declared.Verdict.TheVariants.{New, Duplicate, Late, Ahead, Full, Unjudged}
use Rattle.model.specs.Settings.{usable_at}
use Rattle.model.specs.Class.{class_of, pick}
use Rattle.model.specs.Codes.{reason_verdict, room_reason}
use Rattle.model.specs.Generation.{as_read}
use Rattle.model.specs.Book.{second_of, granted, draw_says}
use Rattle.model.specs.Register.{Register}
use Rattle.model.specs.Judge.{Ask, bucket_of, make_room, Taken, take_room, take_share, take_judged, take, take_batch}
use Rattle.model.specs.Words.{State, state_form}
use Rattle.model.specs.Calls.{Step, no_register, register_at, with_register, asked, after_judged, after_taken}
use Rattle.model.specs.Answer.{Said}
use Rattle.model.proofs.Words.{state_exact}
use Rattle.model.proofs.SoundnessKept.{there}
use Rattle.book.specs.declared.Spot.{Spot}
use Rattle.taking.specs.declared.tickets.Ticket.{Ticket}
use Rattle.taking.specs.Rules.{Suits, Granted, share_for, draw_for, drawn_by, room_for, struck_by, room_verdict, room_state, taken_room, room_says, taken_share}
use Rattle.taking.specs.Rules.{share_says, left, rest_of, judged_by, judged_state, judged_says}
use Rattle.taking.specs.Words.{StateReads, StateTurns, RunWords}
use Rattle.taking.proofs.InRun.{known, known_turns, judged_fine}
use Rattle.taking.proofs.Draws.{was_granted, was_refused, drawn_fine}

-- the verdict of the rule by the room is that of the room
room_told : (m : Room) → reason_verdict (room_reason m) ≡ room_verdict m
unfolding reason_verdict
room_told (At i) = refl
room_told Collides = refl
room_told NoSlots = refl

module _ (s : Settings) (r : ℕ) where
  -- ---- the room
  module _ (k : Ticket) where
    refusing : (t : State) (m : Room) → ((i : ℕ) → m ≡ At i → ⊥) → t ≡ room_state s r k t m
    unfolding room_state
    refusing t (At i) n = absurd (n i refl)
    refusing t Collides n = refl
    refusing t NoSlots n = refl

    striking : (t : State) (i : ℕ) → struck_by r k (drawn_by s k t) ≡ room_state s r k t (At i)
    unfolding room_state
    striking t i = refl

    pub no_room_turns : (ws : List ℕ) (m : Room) (x : Reason) (v : Verdict) → StateReads s (room_for s r k) ws m → ((i : ℕ) → m ≡ At i → ⊥)
        → x ≡ room_reason m → v ≡ reason_verdict x → StateTurns s (taken_room s r k) (room_says s r k) ws ws v
    no_room_turns ws m x v f n e d = record {
      does = λ t ok is.
          let q = f.says t ok is in
          (is ∙ ap (state_form s).enc (refusing t m n ∙ ap (room_state s r k t) q), d ∙ ap reason_verdict e ∙ room_told m ∙ ap room_verdict q);
    }

    -- a draw alters no register
    pub room_after : (ws mid : List ℕ) (w : RunWords s ws) (spot : Spot) (g : Granted s k ws spot) (m : Room)
        → StateReads s (room_for s r k) ws m → StateTurns s (drawn_by s k) silent ws mid (tt {0}) → StateReads s (room_for s r k) mid m
    room_after ws mid w spot g m f d =
        let x = w.is.value in
        known (state_exact s) (drawn_by s k x) (drawn_fine s k ws w spot g) mid (d.does x w.is.ok w.is.words).0 (room_for s r k) m
        (f.says x w.is.ok w.is.words)

    pub room_turns : (ws mid last : List ℕ) (w : RunWords s ws) (spot : Spot) (g : Granted s k ws spot) (m : Room) (i : ℕ) → m ≡ At i
        → StateReads s (room_for s r k) ws m → StateTurns s (drawn_by s k) silent ws mid (tt {0}) → StateTurns s (struck_by r k) silent mid last (tt {0})
        → StateTurns s (taken_room s r k) (room_says s r k) ws last New
    room_turns ws mid last w spot g m i e f d o =
        let x = w.is.value in
        let q = sym e ∙ f.says x w.is.ok w.is.words in
        let y = (o.does (drawn_by s k x) (drawn_fine s k ws w spot g) (d.does x w.is.ok w.is.words).0).0 in
        known_turns (state_exact s) x w.is.ok ws last w.is.words (taken_room s r k) (room_says s r k) New
        (y ∙ ap (state_form s).enc (striking x i ∙ ap (room_state s r k x) q)) (ap room_verdict q)

    -- ---- the share
    pub no_share_turns : (ws : List ℕ) (against : Draw) → StateReads s (share_for s k) ws (Err against)
        → StateTurns s (taken_share s r k) (share_says s r k) ws ws Full
    no_share_turns ws against f = record {
      does = λ t ok is. let q = (was_refused _ _ _ (granted (draw_for s k t)) (f.says t ok is)).0 in (is ∙ ap (state_form s).enc (rw q), rw q);
    }

    pub share_turns : (ws last : List ℕ) (spot : Spot) (v : Verdict) → Granted s k ws spot → StateTurns s (taken_room s r k) (room_says s r k) ws last v
        → StateTurns s (taken_share s r k) (share_says s r k) ws last v
    share_turns ws last spot v f o = record {
      does = λ t ok is. let q = (was_granted _ _ _ (granted (draw_for s k t)) (f.says t ok is)).0 in let y = o.does t ok is in (rw q y.0, rw q y.1);
    }

  -- ---- as the rules say it
  -- a register put back as it was
  same_left : (t : State) (v : Verdict) → t ≡ left r (record { says = v; register = register_at r t; book = t.book }) t
  same_left t v =
      sym (ap (λ (l : List Register). record { book = t.book; registers = l; spare = t.spare; unused = t.unused }) (set-get_or t.registers r no_register))

  module _ (a : Ask) (k : Ticket) (q : Suits (usable_at s r) a k) (t : State) where
    room_is : (m : Room) → room_state s r k t m ≡ left r (take_room (usable_at s r) s.shares a (register_at r t) t.book m) t
    unfolding room_state take_room
    room_is (At i) = rw (q.who, q.fp, q.stamp, q.bucket, q.second)
    room_is Collides = same_left t Late
    room_is NoSlots = same_left t Full

    verdict_is : (m : Room) → room_verdict m ≡ (take_room (usable_at s r) s.shares a (register_at r t) t.book m).says
    unfolding take_room
    verdict_is (At i) = refl
    verdict_is Collides = refl
    verdict_is NoSlots = refl

    abbrev room_asked : Room
    room_asked = make_room (usable_at s r).slots (bucket_of (usable_at s r) a.stamp) (as_read a.fp) (pick (class_of a.who) (register_at r t).rings)

    same_room : room_for s r k t ≡ room_asked
    same_room = rw (q.who, q.fp, q.bucket)

    abbrev share_asked : Bool
    share_asked = granted (draw_says s.shares a.who (second_of (bucket_of (usable_at s r) a.stamp) (usable_at s r).bucket) t.book)

    same_share : granted (draw_for s k t) ≡ share_asked
    unfolding draw_says
    same_share = rw (q.who, q.second)

    share_is : taken_share s r k t ≡ left r (take_share (usable_at s r) s.shares a (register_at r t) t.book) t
    unfolding take_share
    share_is =
        ap (λ (b : Bool). cond b (taken_room s r k t) t) same_share
        ∙ by_test share_asked (λ e. rw e (ap (room_state s r k t) same_room ∙ room_is room_asked)) (λ e. rw e (same_left t Full))

    says_is : share_says s r k t ≡ (take_share (usable_at s r) s.shares a (register_at r t) t.book).says
    unfolding take_share
    says_is =
        ap (λ (b : Bool). cond b (room_says s r k t) Full) same_share
        ∙ by_test share_asked (λ e. rw e (ap room_verdict same_room ∙ verdict_is room_asked)) (λ e. rw e)

  module _ (a : Ask) where
    rest_new : (t : State) → take_share (usable_at s r) s.shares a (register_at r t) t.book ≡ rest_of s r a New t
    unfolding take_judged
    rest_new t = refl

    pub new_turns : (ws last : List ℕ) (verdict v : Verdict) (k : Ticket) → verdict ≡ New → Suits (usable_at s r) a k
        → StateTurns s (taken_share s r k) (share_says s r k) ws last v
        → StateTurns s (λ t. left r (rest_of s r a verdict t) t) (λ t. (rest_of s r a verdict t).says) ws last v
    new_turns ws last verdict v k e q o =
        rw e (record {
          does = λ t ok is.
              let y = o.does t ok is in (
                y.0 ∙ ap (state_form s).enc (share_is a k q t ∙ ap (λ (z : Taken). left r z t) (rest_new t)),
                y.1 ∙ says_is a k q t ∙ ap (λ (z : Taken). z.says) (rest_new t),
              );
        })

    rest_kept : (t : State) (v : Verdict) → (v ≡ New → ⊥) → record { says = v; register = register_at r t; book = t.book } ≡ rest_of s r a v t
    unfolding take_judged
    rest_kept t New n = absurd (n refl)
    rest_kept t Duplicate n = refl
    rest_kept t Late n = refl
    rest_kept t Ahead n = refl
    rest_kept t Full n = refl
    rest_kept t Unjudged n = refl

    pub old_turns : (ws : List ℕ) (verdict : Verdict) → (verdict ≡ New → ⊥)
        → StateTurns s (λ t. left r (rest_of s r a verdict t) t) (λ t. (rest_of s r a verdict t).says) ws ws verdict
    old_turns ws verdict n = record {
      does = λ t ok is.
          let e = rest_kept t verdict n in
          (is ∙ ap (state_form s).enc (same_left t verdict ∙ ap (λ (z : Taken). left r z t) e), ap (λ (z : Taken). z.says) e);
    }

    -- ---- after judge
    module _ (h : r < s.registers) where
      after_judge : (t : State) → (state_form s).Ok t → (reg : Register) (v : Verdict)
          → left r (rest_of s r a v (with_register r reg t)) (with_register r reg t) ≡ left r (take_judged (usable_at s r) s.shares a t.book reg v) t
      after_judge t ok reg v =
          rw (get_or-set_same t.registers r reg no_register (there s r t ok h), set-set t.registers r reg (take_judged (usable_at s r) s.shares a t.book reg v).register)

      after_says : (t : State) → (state_form s).Ok t → (reg : Register) (v : Verdict)
          → (rest_of s r a v (with_register r reg t)).says ≡ (take_judged (usable_at s r) s.shares a t.book reg v).says
      after_says t ok reg v = rw (get_or-set_same t.registers r reg no_register (there s r t ok h))

      -- ---- asked about: in a manner that only judges, and in one that takes
      only_judges : (m : Manner) → (m ≡ Judged) ⊎ (m ≡ JudgedBatch) → (t : State)
          → asked s r m a t ≡ after_judged r t (judged_by (usable_at s r) m a (register_at r t))
      unfolding asked judged_by
      only_judges m (inl e) t = rw e
      only_judges m (inr e) t = rw e

      pub judged_only : (m : Manner) → (m ≡ Judged) ⊎ (m ≡ JudgedBatch) → (ws last : List ℕ) (v : Verdict)
          → StateTurns s (judged_state s r m a) (judged_says s r m a) ws last v
          → StateTurns s (λ t. (asked s r m a t).state) (λ t. (asked s r m a t).answer) ws last (Said v)
      unfolding after_judged
      judged_only m only ws last v one = record {
        does = λ t ok is. let p = one.does t ok is in let k = only_judges m only t in (rw k p.0, rw (k, p.1));
      }

      takes_too : (m : Manner) → (m ≡ TakenManner) ⊎ (m ≡ TakenBatch) → (t : State) → let j = judged_by (usable_at s r) m a (register_at r t) in
          asked s r m a t ≡ after_taken r t (take_judged (usable_at s r) s.shares a t.book j.register j.says)
      unfolding asked judged_by take take_batch
      takes_too m (inl e) t = rw e
      takes_too m (inr e) t = rw e

      pub judged_taken : (m : Manner) → (m ≡ TakenManner) ⊎ (m ≡ TakenBatch) → (ws mid last : List ℕ) (verdict v : Verdict)
          → StateTurns s (judged_state s r m a) (judged_says s r m a) ws mid verdict
          → StateTurns s (λ t. left r (rest_of s r a verdict t) t) (λ t. (rest_of s r a verdict t).says) mid last v
          → StateTurns s (λ t. (asked s r m a t).state) (λ t. (asked s r m a t).answer) ws last (Said v)
      unfolding after_taken
      judged_taken m takes ws mid last verdict v one two = record {
        does = λ t ok is.
            let j = judged_by (usable_at s r) m a (register_at r t) in
            let p = one.does t ok is in
            let q = two.does (judged_state s r m a t) (judged_fine s r h a m t ok) p.0 in
            let k = takes_too m takes t in (
              q.0 ∙ ap (state_form s).enc (after_judge t ok j.register verdict
                  ∙ ap (λ (z : Verdict). left r (take_judged (usable_at s r) s.shares a t.book j.register z) t) p.1 ∙ sym (ap (λ (z : Step). z.state) k)),
              ap Said (q.1 ∙ after_says t ok j.register verdict
                  ∙ ap (λ (z : Verdict). (take_judged (usable_at s r) s.shares a t.book j.register z).says) p.1) ∙ sym (ap (λ (z : Step). z.answer) k),
            );
      }
