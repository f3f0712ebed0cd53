-- One turn of the loop over the registers, each of its own width.
use Prim.Native.Nat.{ℕ, ◌+◌, ◌-◌, ◌<◌, ◌≤◌}
use native.Mathlib.Omega.{arith}
use mathlib.Core.Path.{◌≡◌, ◌∙◌}
use mathlib.Core.Bool.{Bool, ◌&&◌}
use mathlib.Core.List.{List}
use lib.ListN.{length}
use borrow.Rule.Slice.PartMut.{mid_of, mid_len}
use Rattle.runs.specs.Form.{Form}
use Rattle.runs.proofs.Walk.{Passed, pass_within, pass_on}
use Rattle.model.specs.declared.Settings.{Settings}
use Rattle.model.specs.Settings.{usable_at}
use Rattle.model.specs.Register.{Register}
use Rattle.model.specs.RegisterWords.{register_form}
use Rattle.model.specs.Words.{registers_form, register_width}
use Rattle.vet.proofs.Bounds.{register_wide}

abbrev pub form_at : Settings → ℕ → Form Register
form_at s r = register_form (usable_at s r)

module _ (s : Settings) (ws : List ℕ) (long : (registers_form s).wide ≤ length ws) (i a : ℕ) (all : Bool)
    (w : Passed (form_at s) s.registers ws i a all) (h : i < s.registers) (k : ℕ) (e : k ≡ register_width (usable_at s i)) where
  ends : a + k ≡ a + (form_at s i).wide
  ends = rw (e, register_wide (usable_at s i))

  within : a + k ≤ (registers_form s).wide
  within = pass_within (form_at s) s.registers ws i a all w (a + k) ends h

  pub turn_inside : a + k ≤ length ws
  turn_inside = let p = within in omega arith

  pub turn_long : length (mid_of a (a + k - a) ws) ≡ register_width (usable_at s i)
  turn_long = mid_len a (a + k) ws turn_inside ∙ (let m : a + k - a ≡ k = omega arith in m ∙ e)

  pub turn_on : (b : Bool) → b ≡ (form_at s i).test (mid_of a (a + k - a) ws) → Passed (form_at s) s.registers ws (i + 1) (a + k) (all && b)
  turn_on b t = pass_on (form_at s) s.registers ws i a all w (a + k) ends h b t
