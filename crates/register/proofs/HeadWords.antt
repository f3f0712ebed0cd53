-- A register's own words, read and stored: of the words of a well-formed register, what specs/Heading says is what the rules say.
use Prim.Native.Nat.{ℕ, max}
use native.Mathlib.Omega.{arith}
use mathlib.Core.Path.{◌≡◌, refl, sym, ap, ◌∙◌}
use mathlib.Core.Bool.{Bool, true, false, cond}
use mathlib.Core.List.{List}
use lib.Dec.{leb}
use lib.ListN.{set}
use borrow.Author.Tests.{leb-true, leb-false}
use Rattle.runs.proofs.Cases.{by_test, no}
use Rattle.runs.specs.Turns.{silent}
use Rattle.std.proofs.Common.{Option, Some, None}
use Rattle.std.specs.Option.{MatchOption}
use Rattle.model.specs.declared.Usable.{Usable}
use Rattle.model.specs.Numbers.{raise, under}
use Rattle.model.specs.Register.{Register, with_floor, raised, swept_to, published, begin}
use Rattle.model.specs.RegisterWords.{floor_flag, floor_word, read_floor, read_heading, register_form}
use Rattle.model.proofs.RegisterWords.{flag_read}
use Rattle.numbers.specs.Layout.{pending_at}
use Rattle.register.specs.Rules.{raised_with, begin_says, swept_answer, floor_gone}
use Rattle.register.specs.Heading.{published_in, swept_in, sweep_stored, floor_stored, floor_raised, floor_raised_by, begun_in, begin_told}
use Rattle.register.specs.Words.{RegisterReads, RegisterTurns}

-- ---- a floor and its two words
floor_back : (f : Option ℕ) → read_floor (floor_flag f) (floor_word f) ≡ f
floor_back None = refl
floor_back (Some f) = refl

-- whether a stamp is at or below a floor
pub under_floor : (f : Option ℕ) (stamp : ℕ) (r : Bool) → MatchOption f (r ≡ false) (λ x. r ≡ leb stamp x) → r ≡ under stamp f
unfolding under
under_floor None stamp r h = h
under_floor (Some x) stamp r h = h

floor_stays : (stamp : ℕ) (f : Option ℕ) → under stamp f ≡ true → f ≡ raise f stamp
unfolding under raise
floor_stays stamp None t = no (cc)
floor_stays stamp (Some f) t = let h = leb-true stamp f t in let e : f ≡ max f stamp = omega arith in ap Some e

floor_moves : (stamp : ℕ) (f : Option ℕ) → under stamp f ≡ false → Some stamp ≡ raise f stamp
unfolding under raise
floor_moves stamp None t = refl
floor_moves stamp (Some f) t = let h = leb-false stamp f t in let e : stamp ≡ max f stamp = omega arith in ap Some e

-- ---- readers: the heading of a register's words is its own
floor_read : (u : Usable) (reg : Register) (ws : List ℕ) → ws ≡ (register_form u).enc reg → (read_heading ws).floor ≡ reg.floor
floor_read u reg ws is = ap (λ (l : List ℕ). (read_heading l).floor) is ∙ floor_back reg.floor

pending_read : (u : Usable) (reg : Register) (ws : List ℕ) → ws ≡ (register_form u).enc reg → (read_heading ws).pending ≡ reg.pending
pending_read u reg ws is = ap (λ (l : List ℕ). (read_heading l).pending) is ∙ flag_read reg.pending

module _ (u : Usable) (ws : List ℕ) where
  pub pending_reads : RegisterReads u (λ reg. reg.pending) ws (read_heading ws).pending
  pending_reads = record { says = λ reg ok is. pending_read u reg ws is }

  pub under_reads : (stamp : ℕ) {f : Option ℕ} (b : Bool) → RegisterReads u (λ reg. reg.floor) ws f → b ≡ under stamp f
      → RegisterReads u (λ reg. under stamp reg.floor) ws b
  under_reads stamp b f e = record { says = λ reg ok is. e ∙ ap (under stamp) (f.says reg ok is) }

  pub swept_reads : RegisterReads u (swept_answer u) ws (swept_in ws)
  swept_reads = record { says = λ reg ok is. ap swept_in is }

  pub published_reads : RegisterReads u (λ reg. published u reg.swept) ws (published_in ws)
  published_reads = record { says = λ reg ok is. ap published_in is }

-- ---- the floor raised
with_its : (u : Usable) (reg : Register) {f g : Option ℕ} → f ≡ g → (register_form u).enc (with_floor f reg) ≡ (register_form u).enc (with_floor g reg)
with_its u reg e = ap (λ (f : Option ℕ). (register_form u).enc (with_floor f reg)) e

module _ (stamp : ℕ) (ws : List ℕ) where
  pub raise_stays : under stamp (read_heading ws).floor ≡ true → ws ≡ floor_raised stamp ws
  unfolding floor_raised
  raise_stays t = rw t

  pub raise_moves : under stamp (read_heading ws).floor ≡ false → floor_stored (Some stamp) ws ≡ floor_raised stamp ws
  unfolding floor_raised
  raise_moves t = rw t

  -- of a register's words: its floor is the higher of the two
  pub raise_turns : (u : Usable) (after : List ℕ) → after ≡ floor_raised stamp ws → RegisterTurns u (raised stamp) silent ws after (tt {0})
  raise_turns u after a = record {
    does = λ reg ok is.
        let e : under stamp (read_heading ws).floor ≡ under stamp reg.floor = ap (under stamp) (floor_read u reg ws is) in
        by_test (under stamp (read_heading ws).floor)
        (λ t. (a ∙ sym (raise_stays t) ∙ is ∙ with_its u reg (floor_stays stamp reg.floor (sym e ∙ t)), refl))
        (λ t. (a ∙ sym (raise_moves t) ∙ ap (floor_stored (Some stamp)) is ∙ with_its u reg (floor_moves stamp reg.floor (sym e ∙ t)), refl));
  }

-- by a stamp that there may be
module _ (d : Option ℕ) (ws : List ℕ) where
  pub by_newest : (stamp : ℕ) (last : List ℕ) → d ≡ Some stamp → last ≡ floor_raised stamp ws → last ≡ floor_raised_by d ws
  by_newest stamp last e a = rw e a

pub by_turns : (d : Option ℕ) (ws : List ℕ) (u : Usable) (after : List ℕ) → after ≡ floor_raised_by d ws
    → RegisterTurns u (raised_with d) silent ws after (tt {0})
by_turns None ws u after a = record { does = λ reg ok is. (a ∙ is, refl) }
by_turns (Some stamp) ws u after a = raise_turns stamp ws u after a

-- ---- swept up to a bucket
pub sweep_turns : (u : Usable) (s : ℕ) (ws after : List ℕ) → after ≡ sweep_stored u s ws → RegisterTurns u (swept_to s) silent ws after (tt {0})
sweep_turns u s ws after a = record { does = λ reg ok is. (a ∙ ap (sweep_stored u s) is, refl) }

-- ---- begin
begin_idle : (number : ℕ) (reg : Register) → reg.pending ≡ false → reg ≡ begin number reg
unfolding begin
begin_idle number reg e =
    sym (ap (λ (b : Bool).
    cond b (record { swept = reg.swept; floor = raise reg.floor number; pending = false; spare = reg.spare; rings = reg.rings }) reg) e)

module _ (number : ℕ) (ws : List ℕ) where
  pub begin_already : (read_heading ws).pending ≡ false → ws ≡ begun_in number ws
  begin_already n = rw n

  pub begin_begun : (mid : List ℕ) → (read_heading ws).pending ≡ true → mid ≡ floor_raised number ws
      → set mid pending_at 0 ≡ begun_in number ws
  begin_begun mid y m = rw (y, m)

  pub begin_turns : (u : Usable) (after : List ℕ) (r : Bool) → (after ≡ begun_in number ws) × (r ≡ begin_told ws)
      → RegisterTurns u (begin number) begin_says ws after r
  unfolding begin
  begin_turns u after r a = record {
    does = λ reg ok is.
        let e = pending_read u reg ws is in
        let raised = ((raise_turns number ws u (floor_raised number ws) refl).does reg ok is).0 in
        by_test (read_heading ws).pending
        (λ t.
        let p : reg.pending ≡ true = sym e ∙ t in
        (a.0 ∙ rw (t, p) (ap (λ (l : List ℕ). set l pending_at 0) raised), a.1 ∙ rw (t, p)))
        (λ t.
        let p : reg.pending ≡ false = sym e ∙ t in
        (a.0 ∙ rw t (is ∙ ap (register_form u).enc (begin_idle number reg p)), a.1 ∙ rw (t, p)));
  }

-- ---- the floor forgotten
pub forget_turns : (ws : List ℕ) (u : Usable) → RegisterTurns u floor_gone silent ws (floor_stored None ws) (tt {0})
forget_turns ws u = record { does = λ reg ok is. (ap (floor_stored None) is, refl) }
