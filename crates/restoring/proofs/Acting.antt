-- What a part's functions do to the run, said of a register and a book. Assumes nothing.
use Prim.Native.Nat.{ℕ, ◌-◌, ◌<◌}
use mathlib.Core.Path.{◌≡◌, sym, ap, subst, ◌∙◌}
use mathlib.Core.List.{List}
use lib.Seq.{get_or-set_same, set-get_or, set-set}
use borrow.Rule.Slice.PartMut.{mid_of, put_mid}
use Rattle.model.specs.declared.Settings.{Settings}
use Rattle.model.specs.Settings.{usable_at}
use Rattle.model.specs.Book.{Book}
use Rattle.model.specs.Register.{Register}
use Rattle.model.specs.Words.{State, state_form}
use Rattle.model.specs.Calls.{no_register, register_at, with_register}
use Rattle.model.proofs.RingsKept.{RegisterOk}
use Rattle.model.proofs.SoundnessKept.{there, register_in, with_register_ok}
use Rattle.numbers.specs.declared.starts.RegisterExtent.{RegisterExtent}
use Rattle.numbers.specs.RegisterAt.{RegisterAt}
use Rattle.register.specs.Words.{RegisterTurns}
use Rattle.taking.specs.Words.{RunWords, StateTurns}
use Rattle.taking.proofs.InRun.{register_turns, run_words}
use Rattle.restoring.specs.Words.{put, Now, Acts}

module _ (s : Settings) (r : ℕ) (h : r < s.registers) where
  -- ---- the start: a state with its own register and its own book
  own_put : (t : State) → put r (register_at r t) t.book t ≡ t
  own_put t = ap (λ (l : List Register). record { book = t.book; registers = l; spare = t.spare; unused = t.unused }) (set-get_or t.registers r no_register)

  pub now_at : (t : State) → (state_form s).Ok t → (ws : List ℕ) → ws ≡ (state_form s).enc t → Now s r t ws (register_at r t) t.book
  now_at t ok ws is = record {
    there = there s r t ok h;
    ok = subst (λ (x : State). (state_form s).Ok x) (sym (own_put t)) ok;
    words = is ∙ ap (state_form s).enc (sym (own_put t));
  }

  pub acts_words : {R : Type 0} {f : Register → Book → Register} {g : Register → Book → Book} {out : Register → Book → R} {v : R} (ws last : List ℕ) → RunWords s ws
      → Acts s r f g out ws last v → RunWords s last
  acts_words {f = f} {g = g} ws last w a =
      let x = w.is.value in
      let n = (a.does x (register_at r x) x.book (now_at x w.is.ok ws w.is.words)).0 in
      run_words s ws last w (put r (f (register_at r x) x.book) (g (register_at r x) x.book) x) n.ok n.words

  pub acts_turns : {R : Type 0} {f : Register → Book → Register} {g : Register → Book → Book} {out : Register → Book → R} {v : R} (ws last : List ℕ)
      → Acts s r f g out ws last v
      → StateTurns s (λ t. put r (f (register_at r t) t.book) (g (register_at r t) t.book) t) (λ t. out (register_at r t) t.book) ws last v
  acts_turns ws last a = record {
    does = λ t ok is. let d = a.does t (register_at r t) t.book (now_at t ok ws is) in (d.0.words, d.1);
  }

  -- ---- a register's part
  module _ (p : RegisterExtent) (l : RegisterAt s r p) (ws : List ℕ) where
    pub register_acts : {R : Type 0} (f : Register → Register) (out : Register → R) (last : List ℕ) (v : R)
        → ((reg : Register) → RegisterOk (usable_at s r) reg → RegisterOk (usable_at s r) (f reg))
        → RegisterTurns p.u f out (mid_of p.start (p.end - p.start) ws) last v
        → Acts s r (λ reg k. f reg) (λ reg k. k) (λ reg k. out reg) ws (put_mid p.start (p.end - p.start) ws last) v
    register_acts f out last v keeps turns = record {
      does = λ t reg k n.
          let x = put r reg k t in
          let y = (register_turns s r h p l turns).does x n.ok n.words in
          let e : register_at r x ≡ reg = get_or-set_same t.registers r reg no_register n.there in
          let q : with_register r (f (register_at r x)) x ≡ put r (f reg) k t =
          ap (λ (z : Register). with_register r (f z) x) e
          ∙ ap (λ (m : List Register). record { book = k; registers = m; spare = t.spare; unused = t.unused }) (set-set t.registers r reg (f reg)) in (
            record {
              there = n.there;
              ok = subst (λ (z : State). (state_form s).Ok z) q
                  (with_register_ok s r (f (register_at r x)) x (keeps (register_at r x) (register_in s r x h n.ok)) n.ok);
              words = y.0 ∙ ap (state_form s).enc q;
            },
            y.1 ∙ ap out e,
          );
    }
