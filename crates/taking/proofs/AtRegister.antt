-- What a register's functions do, in the whole run. Assumes nothing.
use Prim.Native.Nat.{ℕ, ◌-◌, ◌<◌}
use mathlib.Core.Path.{◌≡◌, sym, subst}
use mathlib.Core.List.{List}
use mathlib.Core.Logic.{◌⊎◌, inl, inr}
use borrow.Rule.Slice.PartMut.{mid_of, put_mid}
use Rattle.runs.specs.Turns.{silent}
use Rattle.model.specs.declared.Class.{Class}
use Rattle.model.specs.declared.Manner.{Manner}
use Rattle.model.specs.declared.Manner.TheVariants.{Judged, JudgedBatch, Taken, TakenBatch}
use Rattle.model.specs.declared.Room.{Room}
use Rattle.model.specs.declared.Settings.{Settings}
use Rattle.model.specs.declared.Usable.{Usable}
use Rattle.model.specs.declared.Verdict.{Verdict}
use Rattle.model.specs.Class.{class_of, pick}
use Rattle.model.specs.Register.{strike}
use Rattle.model.specs.Judge.{Ask, make_room}
use Rattle.model.specs.Calls.{register_at, with_register}
use Rattle.numbers.specs.declared.starts.RegisterExtent.{RegisterExtent}
use Rattle.numbers.specs.RegisterAt.{RegisterAt}
use Rattle.register.specs.Rules.{judged_register, judge_says, batch_register, batch_says}
use Rattle.register.specs.Words.{RegisterReads, RegisterTurns}
use Rattle.taking.specs.declared.tickets.Ticket.{Ticket}
use Rattle.taking.specs.Rules.{room_for, struck_by, judged_by, judged_state, judged_says}
use Rattle.taking.specs.Words.{StateReads, StateTurns, RunWords}
use Rattle.taking.proofs.InRun.{register_reads, register_turns, register_known, judged_words}

module _ (s : Settings) (r : ℕ) (h : r < s.registers) (p : RegisterExtent) (l : RegisterAt s r p) (ws : List ℕ) where
  abbrev part : List ℕ
  part = mid_of p.start (p.end - p.start) ws

  abbrev whole : List ℕ → List ℕ
  whole last = put_mid p.start (p.end - p.start) ws last

  -- ---- judged: what judge's rule for the manner does, of which the run stays well formed
  module _ (m : Manner) (a : Ask) (w : RunWords s ws) (last : List ℕ) (v : Verdict) where
    abbrev JudgedAt : Manner → Type 0
    JudgedAt n = RunWords s (whole last) × StateTurns s (judged_state s r n a) (judged_says s r n a) ws (whole last) v

    judged_in_run : (n : Manner) → RegisterTurns p.u (λ reg. (judged_by p.u n a reg).register) (λ reg. (judged_by p.u n a reg).says) part last v → JudgedAt n
    judged_in_run n t =
        let q =
        subst
        (λ (u : Usable). StateTurns s (λ x. with_register r (judged_by u n a (register_at r x)).register x) (λ x. (judged_by u n a (register_at r x)).says) ws (whole last) v)
        l.usable (register_turns s r h p l t) in
        (judged_words s r h a n ws (whole last) w q, q)

    pub judge_turns : (m ≡ Judged) ⊎ (m ≡ Taken) → RegisterTurns p.u (judged_register p.u a) (judge_says p.u a) part last v → JudgedAt m
    unfolding judged_by
    judge_turns (inl e) t = rw e (judged_in_run Judged t)
    judge_turns (inr e) t = rw e (judged_in_run Taken t)

    pub batch_turns : (m ≡ JudgedBatch) ⊎ (m ≡ TakenBatch) → RegisterTurns p.u (batch_register p.u a) (batch_says p.u a) part last v → JudgedAt m
    unfolding judged_by
    batch_turns (inl e) t = rw e (judged_in_run JudgedBatch t)
    batch_turns (inr e) t = rw e (judged_in_run TakenBatch t)

  module _ (k : Ticket) (c : Class) (class : c ≡ class_of k.who) where
    abbrev Fits : Usable → Class → Room → Type 0
    Fits u d m = StateReads s (λ t. make_room u.slots k.bucket.0 k.fp.word (pick d (register_at r t).rings)) ws m

    pub room_reads : (m : Room) → RegisterReads p.u (λ reg. make_room p.u.slots k.bucket.0 k.fp.word (pick c reg.rings)) part m
        → StateReads s (room_for s r k) ws m
    room_reads m t = subst (λ (u : Usable). Fits u (class_of k.who) m) l.usable (subst (λ (d : Class). Fits p.u d m) class (register_reads s r h p l t))

    pub strike_asks : (m : Room) → RunWords s ws → StateReads s (room_for s r k) ws m
        → RegisterReads p.u (λ reg. make_room p.u.slots k.bucket.0 k.fp.word (pick c reg.rings)) part m
    strike_asks m w t =
        register_known s r h p l (λ reg. make_room p.u.slots k.bucket.0 k.fp.word (pick c reg.rings)) ws m w
        (subst (λ (d : Class). Fits p.u d m) (sym class) (subst (λ (u : Usable). Fits u (class_of k.who) m) (sym l.usable) t))

    pub strike_turns : (last : List ℕ) → RegisterTurns p.u (strike c k.bucket.0 k.fp.word k.stamp) silent part last (tt {0})
        → StateTurns s (struck_by r k) silent ws (whole last) (tt {0})
    strike_turns last t =
        subst (λ (d : Class). StateTurns s (λ x. with_register r (strike d k.bucket.0 k.fp.word k.stamp (register_at r x)) x) silent ws (whole last) (tt {0}))
        class (register_turns s r h p l t)
