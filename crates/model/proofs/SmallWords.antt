-- The words of a dump are 64-bit numbers where the register's own words are.
use mathlib.Core.Path.{◌≡◌}
use mathlib.Core.List.{List, [], ◌∷◌, ◌++◌}
use Rattle.std.specs.Prelude.{Option, Some, None}
use Prim.Native.Nat.{ℕ, zero, suc, ◌+◌, ◌-◌, ◌≤◌, ◌<◌}
use native.Mathlib.Omega.{arith}
use lib.Dec.{eqb}
use lib.ListN.{length, get_or, replicate}
use Rattle.model.specs.declared.Usable.{Usable}
use Rattle.runs.specs.Form.{Form}
use Rattle.runs.specs.Chunks.{flat}
use Rattle.runs.specs.Combine.{EachOk, enc_row}
use Rattle.runs.proofs.Cases.{by_test, split_if}
use Rattle.runs.proofs.Words.{pad_fits}
use Rattle.model.specs.Numbers.{top64, cap64}
use Rattle.model.specs.Settings.{ring_of}
use Rattle.model.specs.Generation.{held}
use Rattle.model.specs.Register.{Ring, Register}
use Rattle.model.specs.Dump.{dumped_floor, fingerprints, held_list, generation_words, class_words, dump_words}
use Rattle.model.specs.GenerationWords.{encode_generation, GenerationOk}
use Rattle.model.specs.RegisterWords.{encode_heading, register_form, of_register}
use Rattle.model.specs.RoundTrip.{Words64}

-- ---- two runs of words, one after the other
pub first_words : (a b : List ℕ) → Words64 (a ++ b) → Words64 a
first_words [] b h = tt
first_words (w ∷ a) b h = (h.0, first_words a b h.1)

pub last_words : (a b : List ℕ) → Words64 (a ++ b) → Words64 b
last_words [] b h = h
last_words (w ∷ a) b h = last_words a b h.1

both_words : (a b : List ℕ) → Words64 a → Words64 b → Words64 (a ++ b)
both_words [] b h k = k
both_words (w ∷ a) b h k = (h.0, both_words a b h.1 k)

-- one of a row
pub row_words : {A : Type 0} (F : ℕ → Form A) (i : ℕ) (xs : List A) (j : ℕ) (d : A) → j < length xs → Words64 (enc_row F i xs) → Words64 ((F (i + j)).enc (get_or xs j d))
unfolding enc_row
row_words F i [] j d h w = absurd (omega arith)
row_words F i (x ∷ xs) zero d h w = let e : i + 0 ≡ i = omega arith in rw e (first_words ((F i).enc x) (enc_row F (suc i) xs) w)
row_words F i (x ∷ xs) (suc j) d h w =
    let e : i + suc j ≡ suc i + j = omega arith in rw e (row_words F (suc i) xs j d (omega arith) (last_words ((F i).enc x) (enc_row F (suc i) xs) w))

-- ---- a class
prints_small : (s : List ℕ) → Words64 s → Words64 (fingerprints s)
unfolding fingerprints
prints_small [] h = tt
prints_small (x ∷ xs) h = split_if Words64 (eqb x 0) (λ e. prints_small xs h.1) (λ e. (h.0, prints_small xs h.1))

few_held : (ring : Ring) → length (held_list ring) ≤ length ring
unfolding held_list
few_held [] = omega arith
few_held (g ∷ gs) = by_test (eqb (held g) 0) (λ e. simp e (omega (arith, few_held gs))) (λ e. simp e (omega (arith, few_held gs)))

generations_small : (S n i : ℕ) (ring : Ring) → EachOk (GenerationOk S n) i ring → Words64 (flat (encode_generation S) ring) → Words64 (flat generation_words (held_list ring))
unfolding EachOk flat held_list
generations_small S n i [] ok w = tt
generations_small S n i (g ∷ gs) ok w =
    let one = first_words (encode_generation S g) (flat (encode_generation S) gs) w in
    let rest = generations_small S n (suc i) gs ok.1 (last_words (encode_generation S g) (flat (encode_generation S) gs) w) in
    let pad = one.1.1.1.1.1 in
    let slots : Words64 g.slots = first_words g.slots (replicate (S - length g.slots) 0) (rw (pad_fits S g.slots ok.0.fits) at pad) in
    by_test (eqb (held g) 0) (λ e. rw e rest)
    (λ e.
    rw e (
      one.1.1.1.0,
      (one.1.1.0, (one.1.0, both_words (fingerprints g.slots) (flat generation_words (held_list gs)) (prints_small g.slots slots) rest)),
    ))

ring_small : (u : Usable) → ring_of u ≤ top64
unfolding ring_of cap64
ring_small u = omega arith

floor_small : (f : Option ℕ) → dumped_floor f ≤ top64
unfolding dumped_floor cap64
floor_small None = omega arith
floor_small (Some f) = omega arith

class_small : (u : Usable) (ring : Ring) → length ring ≡ ring_of u → EachOk (GenerationOk u.slots (ring_of u)) 0 ring
    → Words64 (flat (encode_generation u.slots) ring) → Words64 (class_words ring)
unfolding class_words
class_small u ring long ok w = ((omega (arith, few_held ring, ring_small u)), generations_small u.slots (ring_of u) 0 ring ok w)

-- ---- a register
module _ (u : Usable) (reg : Register) (ok : (register_form u).Ok reg) (w : Words64 ((register_form u).enc reg)) where
  abbrev heading : List ℕ
  heading = encode_heading u (of_register reg).head

  abbrev words_of_ring : Ring → List ℕ
  words_of_ring ring = flat (encode_generation u.slots) ring

  abbrev feeders : List ℕ
  feeders = words_of_ring reg.rings.of_feeders

  abbrev peers : List ℕ
  peers = words_of_ring reg.rings.of_peers

  abbrev own : List ℕ
  own = words_of_ring reg.rings.of_own

  rings_words : Words64 (feeders ++ (peers ++ own))
  rings_words = last_words heading (feeders ++ (peers ++ own)) w

  pub dump_small : Words64 (dump_words reg)
  unfolding dump_words
  dump_small =
      let a = class_small u reg.rings.of_feeders ok.1.0.0 ok.1.0.1 (first_words feeders (peers ++ own) rings_words) in
      let r = last_words feeders (peers ++ own) rings_words in
      let b = class_small u reg.rings.of_peers ok.1.1.0.0 ok.1.1.0.1 (first_words peers own r) in
      let c = class_small u reg.rings.of_own ok.1.1.1.0 ok.1.1.1.1 (last_words peers own r) in (
        floor_small reg.floor,
        both_words (class_words reg.rings.of_feeders) (class_words reg.rings.of_peers ++ class_words reg.rings.of_own) a
            (both_words (class_words reg.rings.of_peers) (class_words reg.rings.of_own) b c),
      )

  pub floor_word_small : (f : ℕ) → reg.floor ≡ Some f → f ≤ top64
  floor_word_small f e =
      let h = first_words heading (feeders ++ (peers ++ own)) w in
      let k = h.1.1.1.1.1.1.1.1.1.0 in
      rw e at k
