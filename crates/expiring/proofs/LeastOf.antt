-- The least of all published sweeps, register by register. Assumes nothing.
use Prim.Native.Nat.{ℕ, ◌+◌, ◌-◌, ◌≤◌, ◌<◌, min}
use native.Mathlib.Numerals.{add-one}
use native.Mathlib.Omega.{arith}
use mathlib.Core.Path.{◌≡◌, refl, subst}
use mathlib.Core.List.{List}
use lib.ListN.{length, drop, drop_of_length-le}
use lib.Seq.{drop-cons}
use borrow.Rule.Slice.PartMut.{mid_of}
use Rattle.model.specs.declared.Settings.{Settings}
use Rattle.model.specs.declared.Usable.{Usable}
use Rattle.model.specs.Settings.{usable_at}
use Rattle.model.specs.Register.{published}
use Rattle.model.specs.Words.{State, state_form}
use Rattle.model.specs.Calls.{no_register, register_at, least_published}
use Rattle.model.proofs.SoundnessKept.{there}
use Rattle.numbers.specs.declared.starts.RegisterExtent.{RegisterExtent}
use Rattle.numbers.specs.RegisterAt.{RegisterAt}
use Rattle.register.specs.Words.{RegisterReads}
use Rattle.taking.specs.Words.{StateReads}
use Rattle.taking.proofs.InRun.{register_reads}

-- what a register publishes, read from its words
pub published_reads : (s : Settings) (r : ℕ) (h : r < s.registers) (p : RegisterExtent) (l : RegisterAt s r p) (ws : List ℕ) (v : ℕ)
    → ((u : Usable) → RegisterReads u (λ reg. published u reg.swept) (mid_of p.start (p.end - p.start) ws) v)
    → StateReads s (λ t. published (usable_at s r) (register_at r t).swept) ws v
published_reads s r h p l ws v t =
    subst (λ (u : Usable). StateReads s (λ x. published u (register_at r x).swept) ws v) l.usable (register_reads s r h p l (t p.u))

module _ (s : Settings) (ms : ℕ) (ws : List ℕ) where
  -- of every state that the words may be: the least so far, with the registers from i on, is the least of all
  pub record Least (least i : ℕ) : Type 0 where
    pub within : i ≤ s.registers
    pub left : (t : State) → (state_form s).Ok t → ws ≡ (state_form s).enc t
        → least_published s i (drop i t.registers) least ≡ least_published s 0 t.registers ms

  pub least_start : Least ms 0
  least_start = record { within = omega arith; left = λ t ok is. refl }

  pub least_more : (least i new p : ℕ) → Least least i → i < s.registers
      → StateReads s (λ t. published (usable_at s i) (register_at i t).swept) ws p → new ≡ min least p → Least new (i + 1)
  unfolding least_published
  least_more least i new p l h f e = record {
    within = omega arith;
    left = λ t ok is.
        let k = rw (drop-cons t.registers i no_register (there s i t ok h)) at (l.left t ok is) in
        rw (add-one, e, f.says t ok is) k;
  }

  pub least_end : (least i : ℕ) → Least least i → s.registers ≤ i → StateReads s (λ t. least_published s 0 t.registers ms) ws least
  unfolding least_published
  least_end least i l h = record {
    says = λ t ok is.
        let n = ok.1.1.0.0 in
        let g : length t.registers ≤ i = omega arith in
        rw (drop_of_length-le t.registers {i = i} g) at (l.left t ok is);
  }
