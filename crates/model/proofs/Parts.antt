-- Where each part lies in the whole run of words, and that it is put back there: the front, a class's share book, a register, a class's ring.
use Prim.Native.Nat.{ℕ, zero, suc, ◌*◌, ◌<◌}
use native.Mathlib.Nat.{zero-mul, suc-mul}
use native.Mathlib.Omega.{arith}
use mathlib.Core.Path.{◌≡◌, refl, sym, subst}
use mathlib.Core.List.{List}
use Rattle.model.specs.declared.Class.{Class}
use Rattle.model.specs.declared.Class.TheVariants.{Feeders, Peers, Own}
use Rattle.model.specs.declared.Usable.{Usable}
use Rattle.model.specs.declared.Settings.{Settings}
use Rattle.runs.specs.Form.{Form, Exact}
use Rattle.runs.specs.Combine.{Both, both, wide_row, free}
use Rattle.runs.proofs.Exact.{both_exact, free_exact}
use Rattle.runs.proofs.Parts.{Part, head_part, body_part, row_part, seen_part, in_part}
use Rattle.model.specs.Settings.{usable_at}
use Rattle.model.specs.Class.{class_number, pick, swap}
use Rattle.model.specs.Book.{Held}
use Rattle.model.specs.Register.{Register}
use Rattle.model.specs.BookWords.{class_form}
use Rattle.model.specs.RegisterWords.{each_of, of_each, each_form, heading_form, ring_form, register_of, of_register, register_form}
use Rattle.model.specs.Words.{State, Front, front_form, book_form, registers_form, unused_width, state_of, of_state, state_form, class_width, class_start}
use Rattle.model.specs.Words.{ring_width, ring_start, after_registers, register_start}
use Rattle.model.specs.Calls.{no_register, register_at, with_register}
use Rattle.model.proofs.RegisterWords.{each_exact, heading_exact}
use Rattle.model.proofs.BookWords.{class_exact}
use Rattle.model.proofs.Words.{front_exact, ring_exact, register_at_exact, registers_exact, book_exact}

-- a part that starts at a number which is another way to say its start
moved : {A B : Type 0} {F : Form A} {G : Form B} {a b : ℕ} {get : A → B} {put : A → B → A} → a ≡ b → Part F G a get put → Part F G b get put
moved {F = F} {G = G} {get = get} {put = put} e p = subst (λ (n : ℕ). Part F G n get put) e p

-- ---- one of three, for each class, of one width
module _ {A : Type 0} (F : Class → Form A) (exact : (c : Class) → Exact (F c)) (k : ℕ) (wide : (c : Class) → (F c).wide ≡ k) where
  pub each_part : (c : Class) → Part (each_form F) (F c) (class_number c * k) (pick c) (λ e y. swap c y e)
  unfolding class_number
  each_part Feeders =
      moved (sym (zero-mul k)) (seen_part each_of of_each (λ x. refl) (head_part (F Feeders) (both (F Peers) (F Own)) (exact Feeders)))
  each_part Peers =
      moved (let w = wide Feeders in let m = suc-mul 0 k in omega (arith, zero-mul k))
      (seen_part each_of of_each (λ x. refl)
      (in_part (body_part (F Feeders) (both (F Peers) (F Own)) (exact Feeders) (both_exact (F Peers) (F Own) (exact Peers) (exact Own)))
      (head_part (F Peers) (F Own) (exact Peers))))
  each_part Own =
      moved (let w = wide Feeders in let v = wide Peers in omega arith)
      (seen_part each_of of_each (λ x. refl)
      (in_part (body_part (F Feeders) (both (F Peers) (F Own)) (exact Feeders) (both_exact (F Peers) (F Own) (exact Peers) (exact Own)))
      (body_part (F Peers) (F Own) (exact Peers) (exact Own))))

-- ---- within a register: a class's ring
module _ (u : Usable) where
  pub ring_part : (c : Class) → Part (register_form u) (ring_form u) (ring_start u c) (λ reg. pick c reg.rings)
      (λ reg ring. register_of (record { head = (of_register reg).head; body = swap c ring reg.rings }))
  ring_part c =
      seen_part register_of of_register (λ x. refl)
      (in_part (body_part (heading_form u) (each_form (λ c. ring_form u)) (heading_exact u) (each_exact (λ c. ring_form u) (λ c. ring_exact u)))
      (each_part (λ c. ring_form u) (λ c. ring_exact u) (ring_width u) (λ c. refl) c))

-- ---- within the whole
abbrev pub with_class : Class → Held → State → State
with_class c h t = record {
  book = record { limits = t.book.limits; closed = t.book.closed; classes = swap c h t.book.classes };
  registers = t.registers;
  spare = t.spare;
  unused = t.unused;
}

abbrev pub front_of : State → Front
front_of t = (of_state t).head

abbrev pub with_front : Front → State → State
with_front f t = state_of (record { head = f; body = (of_state t).body })

module _ (s : Settings) where
  abbrev tail : Form (Both (List Register) (List ℕ))
  tail = both (registers_form s) (free (unused_width s))

  tail_exact : Exact tail
  tail_exact = both_exact (registers_form s) (free (unused_width s)) (registers_exact s) (free_exact (unused_width s))

  rest_exact : Exact (both (book_form s) tail)
  rest_exact = both_exact (book_form s) tail (book_exact s) tail_exact

  pub front_part : Part (state_form s) (front_form s) 0 front_of (λ t f. with_front f t)
  front_part = seen_part state_of of_state (λ x. refl) (head_part (front_form s) (both (book_form s) tail) (front_exact s))

  pub class_part : (c : Class) → Part (state_form s) (class_form s.shares c) (class_start s c) (λ t. pick c t.book.classes) (λ t h. with_class c h t)
  class_part c =
      moved (omega arith)
      (seen_part state_of of_state (λ x. refl)
      (in_part (body_part (front_form s) (both (book_form s) tail) (front_exact s) rest_exact)
      (in_part (head_part (book_form s) tail (book_exact s))
      (each_part (class_form s.shares) (class_exact s.shares) (class_width s.shares) (λ c. omega arith) c))))

  pub registers_start_is : (r n : ℕ) → wide_row (λ i. register_form (usable_at s i)) r n ≡ after_registers s r n
  unfolding wide_row after_registers
  registers_start_is r zero = refl
  registers_start_is r (suc n) = omega (arith, registers_start_is (suc r) n)

  pub register_part : (r : ℕ) → r < s.registers
      → Part (state_form s) (register_form (usable_at s r)) (register_start s r) (register_at r) (λ t reg. with_register r reg t)
  register_part r h =
      moved (let e = registers_start_is 0 r in omega arith)
      (seen_part state_of of_state (λ x. refl)
      (in_part (body_part (front_form s) (both (book_form s) tail) (front_exact s) rest_exact)
      (in_part (body_part (book_form s) tail (book_exact s) tail_exact)
      (in_part (head_part (registers_form s) (free (unused_width s)) (registers_exact s))
      (row_part (λ i. register_form (usable_at s i)) (register_at_exact s) s.registers r no_register h)))))
