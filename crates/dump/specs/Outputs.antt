-- What a register has to show (a dump's bytes, a view's words), written into an output: said of every register that the words may be.
use Rattle.std.specs.Prelude.{ℕ, ◌≤◌, ◌≡◌, List, length}
use Rattle.model.specs.declared.Usable.{Usable}
use Rattle.model.specs.Register.{Register}
use Rattle.model.specs.RegisterWords.{register_form}
use Rattle.model.specs.Calls.{written_over}
use Rattle.register.specs.Words.{RegisterReads}

-- the output has room for it
pub record Holds (shown : Register → List ℕ) (u : Usable) (ws out : List ℕ) : Type 0 where
  pub room : (reg : Register) → (register_form u).Ok reg → ws ≡ (register_form u).enc reg → length (shown reg) ≤ length out

-- it is written over the output's first, and n is how long it is
pub record Outputs (shown : Register → List ℕ) (u : Usable) (ws before after : List ℕ) (n : ℕ) : Type 0 where
  pub out : RegisterReads u (λ reg. written_over (shown reg) before) ws after
  pub count : RegisterReads u (λ reg. length (shown reg)) ws n
