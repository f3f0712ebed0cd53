-- A register's place under settings in bounds, and the words that lie there.
use Prim.Native.Nat.{ℕ, ◌+◌, ◌-◌, ◌<◌}
use native.Mathlib.Omega.{arith}
use mathlib.Core.Path.{◌≡◌, sym, ◌∙◌, subst}
use mathlib.Core.List.{List}
use lib.ListN.{length}
use borrow.Rule.Slice.PartMut.{mid_of, mid_len}
use Rattle.model.specs.declared.Usable.{Usable}
use Rattle.model.specs.declared.Settings.{Settings}
use Rattle.runs.specs.Turns.{Is}
use Rattle.runs.proofs.Turns.{part_is}
use Rattle.model.specs.Settings.{usable_at}
use Rattle.model.specs.RegisterWords.{register_form}
use Rattle.model.specs.Words.{register_width, register_start}
use Rattle.model.proofs.Parts.{register_part}
use Rattle.model.proofs.Bounds.{fit_usable}
use Rattle.numbers.specs.declared.starts.RegisterExtent.{RegisterExtent}
use Rattle.numbers.specs.RegisterAt.{RegisterAt}
use Rattle.register.specs.Words.{RegisterWords}
use Rattle.strikes.proofs.Through.{Entered, lent, past_words, lent_part}

-- the words at a register's place are those of a well-formed register
pub register_lies : (s : Settings) (ws : List ℕ) (r : ℕ) (p : RegisterExtent) → Entered s ws → r < s.registers → RegisterAt s r p
    → RegisterWords p.u (mid_of p.start (p.end - p.start) ws)
register_lies s ws r p e h at =
    let k = length (past_words s ws) in
    let u = at.usable in
    let z : p.start ≡ 0 + register_start s r = let a = at.start in omega arith in
    let w : p.end ≡ p.start + (register_form (usable_at s r)).wide = let a = at.end in omega arith in
    let is = part_is (lent_part s k (register_part s r h)).lies p.start p.end z w (record { value = lent s ws; ok = e.ok; words = e.words }) in
    let d : p.end - p.start ≡ register_width p.u = rw u (let a = at.end in omega arith) in
    let long : length (mid_of p.start (p.end - p.start) ws) ≡ register_width p.u =
    mid_len p.start p.end ws (let l = e.long in let i = at.within in omega arith) ∙ d in
    record {
      fit = rw u (fit_usable s r e.fit h);
      long = long;
      least = omega (arith, long);
      is = subst (λ (v : Usable). Is (register_form v).enc (register_form v).Ok (mid_of p.start (p.end - p.start) ws)) (sym u) is;
    }
