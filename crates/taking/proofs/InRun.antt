-- A register and a class's share book within the whole run: what is read there is read of the state, and what is done there is
-- done to it. Assumes nothing.
use Prim.Native.Nat.{ℕ, ◌+◌, ◌-◌, ◌≤◌, ◌<◌}
use native.Mathlib.Omega.{arith}
use mathlib.Core.Path.{◌≡◌, sym, ap, ◌∙◌}
use mathlib.Core.List.{List}
use lib.ListN.{length}
use borrow.Rule.Slice.PartMut.{mid_of, put_mid, mid_len}
use Rattle.runs.specs.Form.{Form, Exact}
use Rattle.runs.specs.Turns.{Reads, Turns}
use Rattle.runs.proofs.Turns.{part_is, part_reads, part_turns, lies_at}
use Rattle.model.specs.declared.Class.{Class}
use Rattle.model.specs.declared.Manner.{Manner}
use Rattle.model.specs.declared.Manner.TheVariants.{Judged, JudgedBatch, Taken, TakenBatch}
use Rattle.model.specs.declared.Settings.{Settings}
use Rattle.model.specs.Settings.{usable_at, words_needed}
use Rattle.model.specs.Class.{pick}
use Rattle.model.specs.Book.{Held}
use Rattle.model.specs.Register.{Register}
use Rattle.model.specs.Judge.{Ask, judge, judge_batch}
use Rattle.model.specs.BookWords.{class_form}
use Rattle.model.specs.RegisterWords.{register_form}
use Rattle.model.specs.Words.{State, state_form, class_width, class_start, register_width}
use Rattle.model.specs.Calls.{register_at, with_register}
use Rattle.model.proofs.Words.{ring_exact, state_exact, state_wide}
use Rattle.model.proofs.BookWords.{class_exact}
use Rattle.model.proofs.Parts.{with_class, class_part, register_part}
use Rattle.model.proofs.Bounds.{fit_shares, fit_usable}
use Rattle.numbers.specs.declared.starts.RegisterExtent.{RegisterExtent}
use Rattle.numbers.specs.RegisterAt.{RegisterAt}
use Rattle.model.proofs.SoundnessKept.{register_in, with_register_ok}
use Rattle.model.proofs.Judging.{judge_ok}
use Rattle.model.proofs.RegisterWords.{register_exact}
use Rattle.register.specs.Words.{RegisterWords, RegisterReads, RegisterTurns}
use Rattle.book.specs.ClassRules.{ClassIs, ClassReads, ClassTurns}
use Rattle.book.proofs.Finding.{class_is}
use Rattle.taking.specs.Rules.{judged_by, judged_state}
use Rattle.taking.specs.Words.{StateReads, StateTurns, RunWords}

-- words hold one value alone: what is so of it is read of them
pub known : {A R : Type 0} {F : Form A} → Exact F → (x : A) → F.Ok x → (ws : List ℕ) → ws ≡ F.enc x → (out : A → R) → (r : R) → r ≡ out x
    → Reads F.enc F.Ok out ws r
known {F = F} f x ok ws is out r e = record {
  says = λ y oky isy.
      let same : x ≡ y = sym (f.forth x ok).1 ∙ ap F.read (sym is ∙ isy) ∙ (f.forth y oky).1 in
      e ∙ ap out same;
}

pub known_turns : {A R : Type 0} {F : Form A} → Exact F → (x : A) → F.Ok x → (ws last : List ℕ) → ws ≡ F.enc x → (f : A → A) (out : A → R) (r : R)
    → last ≡ F.enc (f x) → r ≡ out x → Turns F.enc F.Ok f out ws last r
known_turns {F = F} e x ok ws last is f out r new says = record {
  does = λ y oky isy.
      let same : x ≡ y = sym (e.forth x ok).1 ∙ ap F.read (sym is ∙ isy) ∙ (e.forth y oky).1 in
      (new ∙ ap (λ (z : _). F.enc (f z)) same, says ∙ ap out same);
}

module _ (s : Settings) where
  -- ---- words stay such words
  pub run_words : (ws last : List ℕ) → RunWords s ws → (t : State) → (state_form s).Ok t → last ≡ (state_form s).enc t → RunWords s last
  run_words ws last w t ok is =
      let k : length last ≡ words_needed s = ap length is ∙ (state_exact s).width t ok ∙ state_wide s w.fit in
      let l = w.long in
      let m = w.least in
      record { fit = w.fit; long = k; least = omega arith; is = record { value = t; ok = ok; words = is } }

  -- ---- a register
  module _ (r : ℕ) (h : r < s.registers) (p : RegisterExtent) (l : RegisterAt s r p) where
    ends : p.end ≡ p.start + (register_form (usable_at s r)).wide
    ends = let e = l.end in omega arith

    pub register_asks : (ws : List ℕ) → RunWords s ws → RegisterWords p.u (mid_of p.start (p.end - p.start) ws)
    register_asks ws w =
        let b : p.end ≤ length ws = omega (arith, w.long, l.within) in
        let m : length (mid_of p.start (p.end - p.start) ws) ≡ register_width (usable_at s r) =
        mid_len p.start p.end ws b ∙ omega (arith, l.end) in
        rw l.usable (record {
          fit = fit_usable s r w.fit h;
          long = m;
          least = omega arith;
          is = part_is (register_part s r h).lies p.start p.end l.start ends w.is;
        })

    pub register_reads : {R : Type 0} {out : Register → R} {ws : List ℕ} {v : R}
        → RegisterReads p.u out (mid_of p.start (p.end - p.start) ws) v → StateReads s (λ t. out (register_at r t)) ws v
    register_reads t = part_reads (register_part s r h).lies p.start p.end l.start ends (rw l.usable at t)

    pub register_turns : {R : Type 0} {f : Register → Register} {out : Register → R} {ws last : List ℕ} {v : R}
        → RegisterTurns p.u f out (mid_of p.start (p.end - p.start) ws) last v
        → StateTurns s (λ t. with_register r (f (register_at r t)) t) (λ t. out (register_at r t)) ws (put_mid p.start (p.end - p.start) ws last) v
    register_turns t = part_turns (register_part s r h) p.start p.end l.start ends (rw l.usable at t)

    -- what is so of the state's register is read of its words
    pub register_known : {R : Type 0} (out : Register → R) (ws : List ℕ) (v : R) → RunWords s ws → StateReads s (λ t. out (register_at r t)) ws v
        → RegisterReads p.u out (mid_of p.start (p.end - p.start) ws) v
    register_known out ws v w t =
        let x = w.is.value in
        let a = (register_part s r h).lies in
        rw l.usable
        (known (register_exact (usable_at s r) (ring_exact (usable_at s r))) (register_at r x) (a.fine x w.is.ok) (mid_of p.start (p.end - p.start) ws)
        (lies_at a p.start p.end l.start ends x w.is.ok ws w.is.words) out v (t.says x w.is.ok w.is.words))

  -- ---- a class of the book
  module _ (c : Class) (a e : ℕ) (start : a ≡ class_start s c) (end : e ≡ a + class_width s.shares) where
    class_ends : e ≡ a + (class_form s.shares c).wide
    class_ends = omega arith

    pub class_asks : (ws : List ℕ) → RunWords s ws → ClassIs s.shares c (mid_of a (e - a) ws)
    class_asks ws w = class_is s.shares c (mid_of a (e - a) ws) (fit_shares s w.fit) (part_is (class_part s c).lies a e start class_ends w.is)

    pub class_reads : {R : Type 0} {out : Held → R} {ws : List ℕ} {v : R}
        → ClassReads s.shares c out (mid_of a (e - a) ws) v → StateReads s (λ t. out (pick c t.book.classes)) ws v
    class_reads t = part_reads (class_part s c).lies a e start class_ends t

    pub class_turns : {R : Type 0} {f : Held → Held} {out : Held → R} {ws last : List ℕ} {v : R}
        → ClassTurns s.shares c f out (mid_of a (e - a) ws) last v
        → StateTurns s (λ t. with_class c (f (pick c t.book.classes)) t) (λ t. out (pick c t.book.classes)) ws (put_mid a (e - a) ws last) v
    class_turns t = part_turns (class_part s c) a e start class_ends t

    pub class_known : {R : Type 0} (out : Held → R) (ws : List ℕ) (v : R) (w : RunWords s ws) → v ≡ out (pick c w.is.value.book.classes)
        → ClassReads s.shares c out (mid_of a (e - a) ws) v
    class_known out ws v w q =
        let x = w.is.value in
        let k = (class_part s c).lies in
        known (class_exact s.shares c) (pick c x.book.classes) (k.fine x w.is.ok) (mid_of a (e - a) ws)
        (lies_at k a e start class_ends x w.is.ok ws w.is.words) out v q

  -- ---- judged: the run stays well formed
  module _ (r : ℕ) (h : r < s.registers) (a : Ask) where
    judge_fine : (t : State) → (state_form s).Ok t → (state_form s).Ok (with_register r (judge (usable_at s r) (register_at r t) a).register t)
    judge_fine t ok =
        with_register_ok s r (judge (usable_at s r) (register_at r t) a).register t (judge_ok (usable_at s r) (register_at r t) a (register_in s r t h ok)) ok

    pub judged_fine : (m : Manner) (t : State) → (state_form s).Ok t → (state_form s).Ok (judged_state s r m a t)
    unfolding judged_by judge_batch
    judged_fine Judged = judge_fine
    judged_fine JudgedBatch = judge_fine
    judged_fine Taken = judge_fine
    judged_fine TakenBatch = judge_fine

    pub judged_words : (m : Manner) (ws last : List ℕ) → RunWords s ws → {R : Type 0} {out : State → R} {v : R}
        → StateTurns s (judged_state s r m a) out ws last v → RunWords s last
    judged_words m ws last w t =
        let x = w.is.value in
        run_words ws last w (judged_state s r m a x) (judged_fine m x w.is.ok) (t.does x w.is.ok w.is.words).0
