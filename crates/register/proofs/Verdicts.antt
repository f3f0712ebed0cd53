-- Judge, step by step: what is held, the floor and the window, and the sweep before them. Assumes nothing.
use Prim.Native.Nat.{ℕ}
use mathlib.Core.Path.{◌≡◌, refl, sym, ap, ◌∙◌}
use mathlib.Core.Bool.{Bool, true, false, cond, not, ◌||◌, or-false}
use mathlib.Core.List.{List}
use Rattle.std.specs.List.{list_any}
use Rattle.runs.specs.Turns.{silent}
use Rattle.runs.proofs.Cases.{no}
use denote.Enum.Bare.{sameb}
use Rattle.model.specs.contracts.Verdict.{the_type}
use Rattle.model.specs.declared.Verdict.{Verdict}
use Rattle.model.specs.declared.Verdict.TheVariants.{New, Duplicate, Late, Ahead, Full, Unjudged}
use Rattle.model.specs.declared.Usable.{Usable}
use Rattle.model.specs.declared.Window.{Window}
use Rattle.model.specs.Class.{classes, pick}
use Rattle.model.specs.Numbers.{under}
use Rattle.model.specs.Generation.{as_read}
use Rattle.model.specs.Register.{Ring, Register, holds, any_class, sweep}
use Rattle.model.specs.RegisterWords.{register_form}
use Rattle.model.specs.Judge.{Ask, bucket_of, window_for, in_window, front_past, unjudged, verdict, Judgement, judge, ahead_for, judge_batch}
use Rattle.model.proofs.RingsKept.{from_form, to_form, sweep_ok}
use Rattle.model.proofs.Judging.{judge_ok}
use Rattle.register.specs.Rules.{judged_register, judge_says, batch_register, batch_says}
use Rattle.register.specs.Words.{RegisterWords, RegisterReads, RegisterTurns}
use Rattle.register.proofs.InRings.{still_words}

-- ---- any of the classes
pub any_reads : (u : Usable) (f : Ring → Bool) (ws : List ℕ) (r : Bool)
    → ((reg : Register) → (register_form u).Ok reg → ws ≡ (register_form u).enc reg → r ≡ list_any (λ c. f (pick c reg.rings)) classes)
    → RegisterReads u (λ reg. any_class f reg.rings) ws r
any_reads u f ws r e = record { says = λ reg ok is. e reg ok is ∙ rw or-false }

-- ---- Late turned into Ahead
pub ahead_keeps : (past : Bool) (v : Verdict) → past ≡ false → v ≡ ahead_for past v
unfolding ahead_for
ahead_keeps past New e = refl
ahead_keeps past Duplicate e = refl
ahead_keeps past Late e = rw e
ahead_keeps past Ahead e = refl
ahead_keeps past Full e = refl
ahead_keeps past Unjudged e = refl

pub ahead_other : (past : Bool) (v : Verdict) → sameb the_type v Late ≡ false → v ≡ ahead_for past v
unfolding ahead_for
ahead_other past New e = refl
ahead_other past Duplicate e = refl
ahead_other past Late e = let k : true ≡ false = e in no (cc)
ahead_other past Ahead e = refl
ahead_other past Full e = refl
ahead_other past Unjudged e = refl

pub ahead_turns : (past : Bool) (v : Verdict) → past ≡ true → sameb the_type v Late ≡ true → Ahead ≡ ahead_for past v
unfolding ahead_for
ahead_turns past New p e = let k : false ≡ true = e in no (cc)
ahead_turns past Duplicate p e = let k : false ≡ true = e in no (cc)
ahead_turns past Late p e = rw p
ahead_turns past Ahead p e = refl
ahead_turns past Full p e = let k : false ≡ true = e in no (cc)
ahead_turns past Unjudged p e = let k : false ≡ true = e in no (cc)

module _ (u : Usable) (a : Ask) where
  -- ---- the verdict on a register that is swept
  abbrev held_in : Register → Bool
  held_in reg = any_class (holds (bucket_of u a.stamp) (as_read a.fp)) reg.rings

  abbrev late_in : Register → Bool
  late_in reg = under a.stamp reg.floor || not (in_window (window_for u a.who) a.stamp a.ms)

  is_duplicate : (reg : Register) → held_in reg ≡ true → Duplicate ≡ verdict u reg a
  unfolding verdict
  is_duplicate reg e = rw e

  is_late : (reg : Register) → held_in reg ≡ false → late_in reg ≡ true → Late ≡ verdict u reg a
  unfolding verdict
  is_late reg e t = rw (e, t)

  is_new : (reg : Register) → held_in reg ≡ false → late_in reg ≡ false → New ≡ verdict u reg a
  unfolding verdict
  is_new reg e t = rw (e, t)

  module _ (ws : List ℕ) (b fp : ℕ) (bucket : b ≡ bucket_of u a.stamp) (print : fp ≡ as_read a.fp) (held : Bool)
      (h : RegisterReads u (λ reg. any_class (holds b fp) reg.rings) ws held) where
    held_says : (reg : Register) → (register_form u).Ok reg → ws ≡ (register_form u).enc reg → held ≡ held_in reg
    held_says reg ok is = rw (← bucket, ← print) (h.says reg ok is)

    pub duplicate_reads : held ≡ true → RegisterReads u (λ reg. verdict u reg a) ws Duplicate
    duplicate_reads t = record { says = λ reg ok is. is_duplicate reg (sym (held_says reg ok is) ∙ t) }

    module _ (low within : Bool) (floor : RegisterReads u (λ reg. under a.stamp reg.floor) ws low)
        (w : Window) (side : w ≡ window_for u a.who) (window : within ≡ in_window w a.stamp a.ms) (new : held ≡ false) where
      late_says : (reg : Register) → (register_form u).Ok reg → ws ≡ (register_form u).enc reg → (low || not within) ≡ late_in reg
      late_says reg ok is = rw (← side, ← window, floor.says reg ok is)

      pub late_reads : (low || not within) ≡ true → RegisterReads u (λ reg. verdict u reg a) ws Late
      late_reads t = record { says = λ reg ok is. is_late reg (sym (held_says reg ok is) ∙ new) (sym (late_says reg ok is) ∙ t) }

      pub new_reads : (low || not within) ≡ false → RegisterReads u (λ reg. verdict u reg a) ws New
      new_reads t = record { says = λ reg ok is. is_new reg (sym (held_says reg ok is) ∙ new) (sym (late_says reg ok is) ∙ t) }

  -- ---- judge
  not_judged : (reg : Register) → unjudged reg a ≡ true → record { says = Unjudged; register = reg } ≡ judge u reg a
  unfolding judge
  not_judged reg e = sym (ap (λ (b : Bool).
      cond b (record { says = Unjudged; register = reg }) (record { says = verdict u (sweep u a.ms reg) a; register = sweep u a.ms reg })) e)

  is_judged : (reg : Register) → unjudged reg a ≡ false
      → record { says = verdict u (sweep u a.ms reg) a; register = sweep u a.ms reg } ≡ judge u reg a
  unfolding judge
  is_judged reg e = sym (ap (λ (b : Bool).
      cond b (record { says = Unjudged; register = reg }) (record { says = verdict u (sweep u a.ms reg) a; register = sweep u a.ms reg })) e)

  module _ (ws : List ℕ) (pending : Bool) (p : RegisterReads u (λ reg. reg.pending) ws pending) where
    idle_says : (reg : Register) → (register_form u).Ok reg → ws ≡ (register_form u).enc reg → unjudged reg a ≡ (pending || not a.judging)
    unfolding unjudged
    idle_says reg ok is = ap (λ (b : Bool). b || not a.judging) (sym (p.says reg ok is))

    pub unjudged_turns : (pending || not a.judging) ≡ true → RegisterTurns u (judged_register u a) (judge_says u a) ws ws Unjudged
    unjudged_turns t = record {
      does = λ reg ok is.
          let e = not_judged reg (idle_says reg ok is ∙ t) in
          (is ∙ ap (λ (j : Judgement). (register_form u).enc j.register) e, ap (λ (j : Judgement). j.says) e);
    }

    pub judged_turns : (last : List ℕ) (v : Verdict) → (pending || not a.judging) ≡ false
        → RegisterTurns u (sweep u a.ms) silent ws last (tt {0}) → RegisterReads u (λ reg. verdict u reg a) last v
        → RegisterTurns u (judged_register u a) (judge_says u a) ws last v
    judged_turns last v t one two = record {
      does = λ reg ok is.
          let e = is_judged reg (idle_says reg ok is ∙ t) in
          let q = (one.does reg ok is).0 in
          let k = to_form u (sweep u a.ms reg) (sweep_ok u a.ms reg (from_form u reg ok)) in
          (q ∙ ap (λ (j : Judgement). (register_form u).enc j.register) e, two.says (sweep u a.ms reg) k q ∙ ap (λ (j : Judgement). j.says) e);
    }

  judged_ok : (reg : Register) → (register_form u).Ok reg → (register_form u).Ok (judged_register u a reg)
  judged_ok reg ok = to_form u (judged_register u a reg) (judge_ok u reg a (from_form u reg ok))

  pub judged_words : (ws last : List ℕ) (v : Verdict) → RegisterTurns u (judged_register u a) (judge_says u a) ws last v
      → RegisterWords u ws → RegisterWords u last
  judged_words ws last v t w = still_words u ws last judged_ok t w

  -- ---- its batch form
  pub batch_turns : (ws last : List ℕ) (v r : Verdict) (past : Bool) (w : Window) → RegisterTurns u (judged_register u a) (judge_says u a) ws last v
      → w ≡ window_for u a.who → past ≡ front_past w a.stamp a.ms → r ≡ ahead_for past v
      → RegisterTurns u (batch_register u a) (batch_says u a) ws last r
  unfolding judge_batch
  batch_turns ws last v r past w t side p e = record {
    does = λ reg ok is. let q = t.does reg ok is in (q.0, e ∙ rw (← side, p, q.1));
  }
