-- What a restore does to the run, said of a register and a book: a state is that of the start with another register and another
-- book in it.
use Rattle.std.specs.Prelude.{ℕ, ◌<◌, ◌≡◌, List, length}
use Rattle.model.specs.declared.Settings.{Settings}
use Rattle.model.specs.Book.{Book}
use Rattle.model.specs.Register.{Register}
use Rattle.model.specs.Words.{State, state_form}
use Rattle.model.specs.Calls.{with_register, with_book}

abbrev pub put : ℕ → Register → Book → State → State
put r reg k t = with_book k (with_register r reg t)

-- the words are those of t with this register at r and this book
pub record Now (s : Settings) (r : ℕ) (t : State) (ws : List ℕ) (reg : Register) (k : Book) : Type 0 where
  pub there : r < length t.registers
  pub ok : (state_form s).Ok (put r reg k t)
  pub words : ws ≡ (state_form s).enc (put r reg k t)

-- a function that makes of a register and a book others
pub record Acts {R : Type 0} (s : Settings) (r : ℕ) (f : Register → Book → Register) (g : Register → Book → Book) (out : Register → Book → R) (before after : List ℕ) (v : R) : Type 0 where
  pub does : (t : State) (reg : Register) (k : Book) → Now s r t before reg k → Now s r t after (f reg k) (g reg k) × (v ≡ out reg k)
