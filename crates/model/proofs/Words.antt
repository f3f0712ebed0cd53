-- The whole run of words: the front is exact, and so all of it; and it takes exactly the words that the settings need.
use Prim.Native.Nat.{ℕ, zero, suc, ◌+◌, ◌*◌, ◌≤◌}
use native.Mathlib.Nat.{mul_assoc}
use native.Mathlib.Omega.{arith}
use mathlib.Core.Path.{◌≡◌, refl, subst, subst⁻¹}
use mathlib.Core.Bool.{true, ◌&&◌}
use mathlib.Core.List.{List, [], ◌∷◌}
use lib.ListN.{length, get_or, drop, length-drop}
use lib.Dec.{eqb, leb}
use borrow.Author.Tests.{eqb-true, leb-true}
use Rattle.model.specs.declared.Usable.{Usable}
use Rattle.model.specs.declared.Settings.{Settings}
use Rattle.runs.specs.Form.{Exact}
use Rattle.runs.specs.Combine.{both, wide_row, free}
use Rattle.runs.proofs.Cases.{each_true}
use Rattle.runs.proofs.Firsts.{firsts, firsts_are}
use Rattle.runs.proofs.Exact.{both_exact, seen_exact, row_exact, many_exact, free_exact}
use Rattle.model.specs.Widths.{generation_width, place_width}
use Rattle.model.specs.Settings.{limits_of, limits_fit, usable_at, settings_fit, fit_at, shares_fit, ring_of, register_words, registers_words, book_words, words_needed}
use Rattle.model.specs.GenerationWords.{generation_place}
use Rattle.model.specs.BookWords.{class_form}
use Rattle.model.specs.RegisterWords.{heading_width, ring_form, register_form}
use Rattle.model.specs.Words.{Front, front_width, front_spare, encode_front, read_front, kept_shares, front_sound, FrontOk, front_form, book_form, registers_form}
use Rattle.model.specs.Words.{unused_width, state_of, of_state, state_form}
use Rattle.model.proofs.GenerationWords.{generation_exact}
use Rattle.model.proofs.BookWords.{class_exact}
use Rattle.model.proofs.RegisterWords.{each_exact, flag_back, flag_test, flag_read, same, register_exact}

-- ---- the front
module _ (s : Settings) (a b c d e f g h i j k : ℕ) (rest : List ℕ) where
  abbrev all : List ℕ
  all = a ∷ b ∷ c ∷ d ∷ e ∷ f ∷ g ∷ h ∷ i ∷ j ∷ k ∷ rest

  words_back : length rest ≡ front_spare → front_sound s all ≡ true → FrontOk (read_front all) × (all ≡ encode_front s (read_front all))
  unfolding front_sound
  words_back long t =
      let p = each_true (kept_shares s all) (limits_fit (limits_of (drop 5 all)) ∷ leb k 1 ∷ []) t in
      let q = each_true (eqb a s.registers) (eqb b s.shares.places ∷ eqb c s.shares.pairs ∷ eqb d s.shares.feeder ∷ eqb e s.shares.peer ∷ []) p.0 in
      let e0 = eqb-true a s.registers q.0 in
      let e1 = eqb-true b s.shares.places q.1.0 in
      let e2 = eqb-true c s.shares.pairs q.1.1.0 in
      let e3 = eqb-true d s.shares.feeder q.1.1.1.0 in
      let e4 = eqb-true e s.shares.peer q.1.1.1.1 in
      let e10 = flag_back k p.1.1 in
      (record { limits = p.1.0; spare = long }, (cc))

front_back : (s : Settings) (ws : List ℕ) → length ws ≡ front_width → front_sound s ws ≡ true → FrontOk (read_front ws) × (ws ≡ encode_front s (read_front ws))
front_back s ws long t =
    let e : ws ≡ firsts 11 0 ws (drop 11 ws) = firsts_are 11 0 ws (omega arith) in
    let l : length (drop 11 ws) ≡ front_spare = rw length-drop (omega arith) in
    subst⁻¹ (λ (l : List ℕ). FrontOk (read_front l) × (l ≡ encode_front s (read_front l))) e
    (words_back s (get_or ws 0 0) (get_or ws 1 0) (get_or ws 2 0) (get_or ws 3 0) (get_or ws 4 0) (get_or ws 5 0) (get_or ws 6 0) (get_or ws 7 0) (get_or ws 8 0)
    (get_or ws 9 0) (get_or ws 10 0) (drop 11 ws) l (subst (λ (l : List ℕ). front_sound s l ≡ true) e t))

module _ (s : Settings) (f : Front) (ok : FrontOk f) where
  front_test : front_sound s (encode_front s f) ≡ true
  unfolding front_sound
  front_test =
      rw (
        same s.registers,
        same s.shares.places,
        same s.shares.pairs,
        same s.shares.feeder,
        same s.shares.peer,
        ok.limits,
      )
      (flag_test f.closed)

  front_read : read_front (encode_front s f) ≡ f
  front_read i = record { limits = f.limits; closed = flag_read f.closed i; spare = f.spare }

pub front_exact : (s : Settings) → Exact (front_form s)
front_exact s = record {
  width = λ f ok. let l = ok.spare in omega arith;
  back = front_back s;
  forth = λ f ok. (front_test s f ok, front_read s f ok);
}

-- ---- all of it
pub ring_exact : (u : Usable) → Exact (ring_form u)
ring_exact u = many_exact (generation_place u.slots (ring_of u)) (generation_exact u.slots (ring_of u)) (ring_of u)

pub register_at_exact : (s : Settings) (r : ℕ) → Exact (register_form (usable_at s r))
register_at_exact s r = register_exact (usable_at s r) (ring_exact (usable_at s r))

pub registers_exact : (s : Settings) → Exact (registers_form s)
registers_exact s = row_exact (λ r. register_form (usable_at s r)) (register_at_exact s) s.registers

pub book_exact : (s : Settings) → Exact (book_form s)
book_exact s = each_exact (class_form s.shares) (class_exact s.shares)

pub state_exact : (s : Settings) → Exact (state_form s)
state_exact s =
    seen_exact state_of of_state (both (front_form s) (both (book_form s) (both (registers_form s) (free (unused_width s))))) (λ x. refl) (λ y. refl)
    (both_exact (front_form s) (both (book_form s) (both (registers_form s) (free (unused_width s)))) (front_exact s)
    (both_exact (book_form s) (both (registers_form s) (free (unused_width s))) (book_exact s)
    (both_exact (registers_form s) (free (unused_width s)) (registers_exact s) (free_exact (unused_width s)))))

-- ---- the words needed
pub register_wide : (u : Usable) → (register_form u).wide ≡ heading_width + register_words u
unfolding register_words
register_wide u = let e = mul_assoc 3 (ring_of u) (generation_width u.slots) in omega arith

registers_wide : (s : Settings) (r n : ℕ) → wide_row (λ i. register_form (usable_at s i)) r n ≡ n * heading_width + registers_words s r n
unfolding wide_row registers_words
registers_wide s r zero = refl
registers_wide s r (suc n) = omega (arith, register_wide (usable_at s r), registers_wide s (suc r) n)

pub book_wide : (s : Settings) → (book_form s).wide ≡ 12 + book_words s.shares
unfolding book_words
book_wide s = let b = mul_assoc 3 s.shares.places (place_width s.shares.pairs) in omega arith

pub registers≤4 : (s : Settings) → settings_fit s ≡ true → s.registers ≤ 4
unfolding settings_fit
registers≤4 s fit =
    let p = each_true (leb 1 s.registers && leb s.registers 4) (shares_fit s.shares ∷ fit_at s 0 ∷ fit_at s 1 ∷ fit_at s 2 ∷ fit_at s 3 ∷ []) fit in
    let q = each_true (leb 1 s.registers) (leb s.registers 4 ∷ []) p.0 in
    leb-true s.registers 4 q.1

pub state_wide : (s : Settings) → settings_fit s ≡ true → (state_form s).wide ≡ words_needed s
unfolding words_needed
state_wide s fit = let l = registers≤4 s fit in let r = registers_wide s 0 s.registers in omega (arith, book_wide s)
