-- A restore step by step: of every register and book that the words were, what is still to be done to those that they are now is
-- all that was to be done. Assumes nothing.
use Prim.Native.Nat.{ℕ}
use mathlib.Core.Path.{◌≡◌, sym, ap, subst, ◌∙◌}
use mathlib.Core.List.{List}
use Rattle.model.specs.declared.Settings.{Settings}
use Rattle.model.specs.Book.{Book}
use Rattle.model.specs.Register.{Register}
use Rattle.model.specs.Words.{State}
use Rattle.restoring.specs.Words.{Now, Acts}

pub record Reached {A : Type 0} (s : Settings) (r : ℕ) (t : State) (ws : List ℕ) (go : Register → Book → A) (goal : A) : Type 0 where
  pub register : Register
  pub book : Book
  pub now : Now s r t ws register book
  pub same : go register book ≡ goal

pub record Rest {A : Type 0} (s : Settings) (r : ℕ) (before ws : List ℕ) (go goal : Register → Book → A) : Type 0 where
  pub left : (t : State) (reg : Register) (k : Book) → Now s r t before reg k → Reached s r t ws go (goal reg k)

module _ (s : Settings) (r : ℕ) where
  pub rest_start : {A : Type 0} (ws : List ℕ) (go goal : Register → Book → A) → ((reg : Register) (k : Book) → go reg k ≡ goal reg k) → Rest s r ws ws go goal
  rest_start ws go goal e = record { left = λ t reg k n. record { register = reg; book = k; now = n; same = e reg k } }

  pub rest_step : {A R : Type 0} {f : Register → Book → Register} {g : Register → Book → Book} {out : Register → Book → R} {v : R} (before ws last : List ℕ)
      (go goal new : Register → Book → A) → Rest s r before ws go goal → Acts s r f g out ws last v
      → ((reg : Register) (k : Book) → v ≡ out reg k → new (f reg k) (g reg k) ≡ go reg k) → Rest s r before last new goal
  rest_step {f = f} {g = g} before ws last go goal new w a e = record {
    left = λ t reg k n.
        let x = w.left t reg k n in
        let d = a.does t x.register x.book x.now in
        record {
          register = f x.register x.book;
          book = g x.register x.book;
          now = d.0;
          same = e x.register x.book d.1 ∙ x.same;
        };
  }

  pub rest_end : {A R : Type 0} (before ws : List ℕ) (go goal : Register → Book → A) (f : A → Register) (g : A → Book) (out : A → R) (v : R)
      → Rest s r before ws go goal
      → ((reg : Register) (k : Book) → f (go reg k) ≡ reg) → ((reg : Register) (k : Book) → g (go reg k) ≡ k) → ((reg : Register) (k : Book) → v ≡ out (go reg k))
      → Acts s r (λ reg k. f (goal reg k)) (λ reg k. g (goal reg k)) (λ reg k. out (goal reg k)) before ws v
  rest_end before ws go goal f g out v w p q o = record {
    does = λ t reg k n.
        let x = w.left t reg k n in
        let a : x.register ≡ f (goal reg k) = sym (p x.register x.book) ∙ ap f x.same in
        let b : x.book ≡ g (goal reg k) = sym (q x.register x.book) ∙ ap g x.same in (
          subst (λ (y : Register). Now s r t ws y (g (goal reg k))) a (subst (λ (y : Book). Now s r t ws x.register y) b x.now),
          o x.register x.book ∙ ap out x.same,
        );
  }
