-- A register's words: its heading is exact, and so is one thing for each class where each is, and a register where its rings are.
use Prim.Native.Nat.{ℕ}
use native.Mathlib.Omega.{arith}
use mathlib.Core.Path.{◌≡◌, refl, subst, subst⁻¹}
use mathlib.Core.Bool.{Bool, true, false, ◌||◌}
use Rattle.std.specs.Prelude.{Option, Some, None}
use mathlib.Core.List.{List, [], ◌∷◌}
use lib.ListN.{length, get_or, drop, length-drop}
use lib.Dec.{eqb, leb}
use borrow.Author.Tests.{eq-eqb, eqb-true, eqb-false, leb-true}
use Rattle.model.specs.declared.Class.{Class}
use Rattle.model.specs.declared.Class.TheVariants.{Feeders, Peers, Own}
use Rattle.model.specs.declared.Usable.{Usable}
use Rattle.runs.specs.Form.{Form, Exact}
use Rattle.runs.specs.Combine.{both}
use Rattle.runs.proofs.Cases.{by_test, both_true, each_true}
use Rattle.runs.proofs.Firsts.{firsts, firsts_are}
use Rattle.runs.proofs.Exact.{both_exact, seen_exact}
use Rattle.model.specs.Register.{published, spare_words}
use Rattle.model.specs.RegisterWords.{each_of, of_each, each_form, flag_word, floor_flag, floor_word, read_floor, floor_sound, Heading, heading_width}
use Rattle.model.specs.RegisterWords.{encode_heading, read_heading, kept_usable, published_sound, heading_sound, heading_form, ring_form, register_of, of_register}
use Rattle.model.specs.RegisterWords.{register_form}

-- ---- one for each class
pub each_exact : {A : Type 0} (F : Class → Form A) → ((c : Class) → Exact (F c)) → Exact (each_form F)
each_exact F exact =
    seen_exact each_of of_each (both (F Feeders) (both (F Peers) (F Own))) (λ x. refl) (λ e. refl)
    (both_exact (F Feeders) (both (F Peers) (F Own)) (exact Feeders) (both_exact (F Peers) (F Own) (exact Peers) (exact Own)))

-- ---- flags and floors, from the words to what is read and back
pub flag_back : (w : ℕ) → leb w 1 ≡ true → w ≡ flag_word (eqb w 1)
flag_back w t = by_test (eqb w 1) (λ e. rw e (eqb-true w 1 e)) (λ e. rw e (omega (arith, leb-true w 1 t, eqb-false w 1 e)))

pub flag_test : (b : Bool) → leb (flag_word b) 1 ≡ true
flag_test true = refl
flag_test false = refl

pub flag_read : (b : Bool) → eqb (flag_word b) 1 ≡ b
flag_read true = refl
flag_read false = refl

floor_back : (v w : ℕ) → floor_sound v w ≡ true → (v ≡ floor_flag (read_floor v w)) × (w ≡ floor_word (read_floor v w))
floor_back v w t =
    let p = both_true (leb v 1) (eqb v 1 || eqb w 0) t in
    by_test (eqb v 1)
    (λ e. (rw e (eqb-true v 1 e), rw e))
    (λ e. (rw e (omega (arith, leb-true v 1 p.0, eqb-false v 1 e)), rw e (eqb-true w 0 (rw e at p.1))))

floor_test : (f : Option ℕ) → floor_sound (floor_flag f) (floor_word f) ≡ true
floor_test None = refl
floor_test (Some f) = refl

floor_read : (f : Option ℕ) → read_floor (floor_flag f) (floor_word f) ≡ f
floor_read None = refl
floor_read (Some f) = refl

pub same : (a : ℕ) → eqb a a ≡ true
same a = eq-eqb a a refl

-- ---- the heading
module _ (u : Usable) (a b c d e f g h i j k : ℕ) (rest : List ℕ) where
  abbrev all : List ℕ
  all = a ∷ b ∷ c ∷ d ∷ e ∷ f ∷ g ∷ h ∷ i ∷ j ∷ k ∷ rest

  words_back : length rest ≡ spare_words → heading_sound u all ≡ true
      → (length (read_heading all).spare ≡ spare_words) × (all ≡ encode_heading u (read_heading all))
  unfolding heading_sound
  words_back long t =
      let p = each_true (kept_usable u all) (published_sound u all ∷ floor_sound i j ∷ leb k 1 ∷ []) t in
      let q = each_true (eqb a u.origin.behind) (eqb b u.origin.ahead ∷ eqb c u.copy.behind ∷ eqb d u.copy.ahead ∷ eqb e u.bucket ∷ eqb f u.slots ∷ []) p.0 in
      let e0 = eqb-true a u.origin.behind q.0 in
      let e1 = eqb-true b u.origin.ahead q.1.0 in
      let e2 = eqb-true c u.copy.behind q.1.1.0 in
      let e3 = eqb-true d u.copy.ahead q.1.1.1.0 in
      let e4 = eqb-true e u.bucket q.1.1.1.1.0 in
      let e5 = eqb-true f u.slots q.1.1.1.1.1 in
      let e7 = eqb-true h (published u g) p.1.0 in
      let fl = floor_back i j p.1.1.0 in
      let e10 = flag_back k p.1.1.1 in
      (long, (cc))

heading_back : (u : Usable) (ws : List ℕ) → length ws ≡ heading_width → heading_sound u ws ≡ true
    → (length (read_heading ws).spare ≡ spare_words) × (ws ≡ encode_heading u (read_heading ws))
heading_back u ws long t =
    let e : ws ≡ firsts 11 0 ws (drop 11 ws) = firsts_are 11 0 ws (omega arith) in
    let l : length (drop 11 ws) ≡ spare_words = rw length-drop (omega arith) in
    subst⁻¹ (λ (l : List ℕ). (length (read_heading l).spare ≡ spare_words) × (l ≡ encode_heading u (read_heading l))) e
    (words_back u (get_or ws 0 0) (get_or ws 1 0) (get_or ws 2 0) (get_or ws 3 0) (get_or ws 4 0) (get_or ws 5 0) (get_or ws 6 0) (get_or ws 7 0) (get_or ws 8 0)
    (get_or ws 9 0) (get_or ws 10 0) (drop 11 ws) l (subst (λ (l : List ℕ). heading_sound u l ≡ true) e t))

module _ (u : Usable) (h : Heading) where
  heading_test : heading_sound u (encode_heading u h) ≡ true
  unfolding heading_sound
  heading_test =
      rw (
        same u.origin.behind,
        same u.origin.ahead,
        same u.copy.behind,
        same u.copy.ahead,
        same u.bucket,
        same u.slots,
        same (published u h.swept),
        floor_test h.floor,
      )
      (flag_test h.pending)

  heading_read : read_heading (encode_heading u h) ≡ h
  heading_read i = record { swept = h.swept; floor = floor_read h.floor i; pending = flag_read h.pending i; spare = h.spare }

pub heading_exact : (u : Usable) → Exact (heading_form u)
heading_exact u = record {
  width = λ h ok. omega arith;
  back = heading_back u;
  forth = λ h ok. (heading_test u h, heading_read u h);
}

-- ---- a register
pub register_exact : (u : Usable) → Exact (ring_form u) → Exact (register_form u)
register_exact u ring =
    seen_exact register_of of_register (both (heading_form u) (each_form (λ c. ring_form u))) (λ x. refl) (λ y. refl)
    (both_exact (heading_form u) (each_form (λ c. ring_form u)) (heading_exact u) (each_exact (λ c. ring_form u) (λ c. ring)))
