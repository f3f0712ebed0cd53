-- Of the words of a well-formed register, what the code writes is the model's dump, and its length that of the model's.
use Prim.Native.Nat.{ℕ, suc, ◌+◌, ◌*◌, ◌/◌, ◌<◌, ◌≤◌}
use native.Mathlib.Nat.{mul-pos}
use native.Mathlib.Omega.{arith}
use mathlib.Core.Path.{◌≡◌, refl, ap, ◌∙◌}
use mathlib.Core.Bool.{cond}
use mathlib.Core.List.{List, [], ◌∷◌, ◌++◌}
use Rattle.std.specs.Prelude.{Option, Some, None}
use lib.Dec.{eqb}
use lib.ListN.{length, get_or, take, drop, length-append}
use lib.Seq.{take_at, drop_at}
use Rattle.runs.specs.Chunks.{flat}
use Rattle.runs.specs.Combine.{EachOk}
use Rattle.runs.proofs.Cases.{by_test}
use Rattle.runs.proofs.Chunks.{length_flat}
use Rattle.model.specs.declared.Usable.{Usable}
use Rattle.model.specs.Widths.{generation_width}
use Rattle.model.specs.Settings.{ring_of}
use Rattle.model.specs.Register.{Register}
use Rattle.model.specs.RegisterWords.{floor_flag, floor_word, heading_width, encode_heading, of_register, register_form}
use Rattle.model.specs.Generation.{Generation, count}
use Rattle.model.specs.GenerationWords.{encode_generation, GenerationOk}
use Rattle.model.specs.Dump.{word_bytes, dumped_floor, held_list, generation_words, class_words, dump_words, dump_bytes}
use Rattle.model.proofs.BytesRead.{bytes_long}
use Rattle.model.proofs.Bounds.{ring_positive}
use Rattle.model.proofs.GenerationWords.{generation_wide, live_pad}
use Rattle.model.proofs.DumpRead.{prints_length}
use Rattle.generation.proofs.Looking.{bounded}
use Rattle.generation.specs.Words.{Bounded}
use Rattle.dump.specs.Parts.{part_words, part_length, one_held, parts, parts_total, AllParts, shown, total}
use Rattle.dump.specs.Parts.{Laid, ring_shown, count_before, floor_of, register_shown, register_words, register_long, LaidOut}
use Rattle.dump.proofs.Joined.{count_of, count_all, total_all, each_all, shown_three, each_three}
use Rattle.runs.specs.Over.{written}
use Rattle.dump.specs.Bytes.{Fits, Puts}

-- what a generation comes to: nothing where it holds nothing
abbrev pub if_held : Generation → List ℕ → List ℕ
if_held g words = cond (eqb (count g.slots) 0) [] words

-- ---- one generation
module _ (S : ℕ) (g : Generation) (fits : length g.slots ≤ S) where
  part_is : part_words (encode_generation S g) ≡ if_held g (generation_words g)
  unfolding part_words
  part_is = rw (live_pad S g fits) (by_test (eqb (count g.slots) 0) (λ e. rw e) (λ e. rw e))

  part_long : part_length (encode_generation S g) ≡ length (part_words (encode_generation S g))
  unfolding part_words part_length
  part_long =
      let p = prints_length g.slots in
      rw (live_pad S g fits) (by_test (eqb (count g.slots) 0) (λ e. rw e) (λ e. rw e (omega arith)))

-- ---- a ring, from position i on
module _ (S n : ℕ) where
  front : (g : Generation) (us : List ℕ) → take (generation_width S) (encode_generation S g ++ us) ≡ encode_generation S g
  front g us = take_at (encode_generation S g) us (generation_width S) (generation_wide S g)

  behind : (g : Generation) (us : List ℕ) → drop (generation_width S) (encode_generation S g ++ us) ≡ us
  behind g us = drop_at (encode_generation S g) us (generation_width S) (generation_wide S g)

  -- what each part comes to is what each held generation comes to, in dump sequence
  pub parts_are : (f : List ℕ → List ℕ) (words : Generation → List ℕ)
      → ((g : Generation) → length g.slots ≤ S → f (encode_generation S g) ≡ if_held g (words g))
      → (i : ℕ) (gs : List Generation) → EachOk (GenerationOk S n) i gs
      → parts f (generation_width S) (length gs) (flat (encode_generation S) gs) ≡ flat words (held_list gs)
  unfolding parts held_list flat EachOk
  parts_are f words one i [] ok = refl
  parts_are f words one i (g ∷ gs) ok =
      rw (front g (flat (encode_generation S) gs), behind g (flat (encode_generation S) gs), parts_are f words one (suc i) gs ok.1, one g ok.0.fits)
      (by_test (eqb (count g.slots) 0) (λ e. rw e) (λ e. rw e))

  words_are : (i : ℕ) (gs : List Generation) → EachOk (GenerationOk S n) i gs
      → parts part_words (generation_width S) (length gs) (flat (encode_generation S) gs) ≡ flat generation_words (held_list gs)
  words_are i gs ok = parts_are part_words generation_words (part_is S) i gs ok

  held_are : (gs : List Generation) → parts_total one_held (generation_width S) (length gs) (flat (encode_generation S) gs) ≡ length (held_list gs)
  unfolding parts_total one_held held_list flat
  held_are [] = refl
  held_are (g ∷ gs) =
      rw (front g (flat (encode_generation S) gs), behind g (flat (encode_generation S) gs), held_are gs)
      (by_test (eqb (count g.slots) 0) (λ e. rw e (omega arith)) (λ e. rw e (omega arith)))

  long_are : (i : ℕ) (gs : List Generation) → EachOk (GenerationOk S n) i gs
      → parts_total part_length (generation_width S) (length gs) (flat (encode_generation S) gs)
      ≡ length (parts part_words (generation_width S) (length gs) (flat (encode_generation S) gs))
  unfolding parts_total parts flat EachOk
  long_are i [] ok = refl
  long_are i (g ∷ gs) ok =
      rw (front g (flat (encode_generation S) gs), behind g (flat (encode_generation S) gs), long_are (suc i) gs ok.1, part_long S g ok.0.fits, length-append)

  bounds_are : (i : ℕ) (gs : List Generation) → EachOk (GenerationOk S n) i gs → S ≤ 1_024
      → AllParts Bounded (generation_width S) (length gs) (flat (encode_generation S) gs)
  unfolding AllParts flat EachOk
  bounds_are i [] ok small = tt
  bounds_are i (g ∷ gs) ok small =
      rw (front g (flat (encode_generation S) gs), behind g (flat (encode_generation S) gs))
      (bounded S n i g ok.0 small (encode_generation S g) refl, bounds_are (suc i) gs ok.1 small)

  -- all of it, of n positions
  module _ (gs : List Generation) (ok : (length gs ≡ n) × EachOk (GenerationOk S n) 0 gs) where
    pub ring_long : length (flat (encode_generation S) gs) ≡ n * generation_width S
    ring_long = let l = length_flat (encode_generation S) (generation_width S) (generation_wide S) gs in l ∙ ap (λ (m : ℕ). m * generation_width S) ok.0

    ring_count : length (flat (encode_generation S) gs) / generation_width S ≡ n
    ring_count = count_of (generation_width S) n (flat (encode_generation S) gs) (omega arith) ring_long

    pub ring_parts : (f : List ℕ → List ℕ) (words : Generation → List ℕ)
        → ((g : Generation) → length g.slots ≤ S → f (encode_generation S g) ≡ if_held g (words g))
        → shown f (generation_width S) (flat (encode_generation S) gs) ≡ flat words (held_list gs)
    ring_parts f words one = rw (ring_count, ← ok.0) (parts_are f words one 0 gs ok.1)

    pub ring_held : total one_held (generation_width S) (flat (encode_generation S) gs) ≡ length (held_list gs)
    ring_held = rw (ring_count, ← ok.0) (held_are gs)

    ring_is : ring_shown count_before part_words (generation_width S) (flat (encode_generation S) gs) ≡ class_words gs
    unfolding class_words
    ring_is = rw (ring_held, ring_parts part_words generation_words (part_is S))

    ring_counted : total part_length (generation_width S) (flat (encode_generation S) gs) + 1 ≡ length (class_words gs)
    unfolding class_words
    ring_counted =
        let e = long_are 0 gs ok.1 ∙ ap length (words_are 0 gs ok.1) in
        let q = rw ok.0 at e in
        rw ring_count (omega arith)

    ring_laid : S ≤ 1_024 → n ≤ 256 → Laid (generation_width S) (flat (encode_generation S) gs)
    ring_laid small few =
        let b = bounds_are 0 gs ok.1 small in
        let c = ring_count in
        record { wide = omega arith; few = omega arith; bounded = rw (ring_count, ← ok.0) b }

-- ---- a register
floor_is : (f : Option ℕ) → floor_of (floor_flag f) (floor_word f) ≡ dumped_floor f
floor_is None = refl
floor_is (Some f) = refl

module _ (u : Usable) (reg : Register) (ok : (register_form u).Ok reg) (ws : List ℕ) (is : ws ≡ (register_form u).enc reg) where
  abbrev pub wide : ℕ
  wide = generation_width u.slots

  abbrev pub words_of_ring : List Generation → List ℕ
  words_of_ring gs = flat (encode_generation u.slots) gs

  abbrev A : List ℕ
  A = words_of_ring reg.rings.of_feeders

  abbrev B : List ℕ
  B = words_of_ring reg.rings.of_peers

  abbrev C : List ℕ
  C = words_of_ring reg.rings.of_own

  a_long : length A ≡ ring_of u * wide
  a_long = ring_long u.slots (ring_of u) reg.rings.of_feeders ok.1.0

  b_long : length B ≡ ring_of u * wide
  b_long = ring_long u.slots (ring_of u) reg.rings.of_peers ok.1.1.0

  c_long : length C ≡ ring_of u * wide
  c_long = ring_long u.slots (ring_of u) reg.rings.of_own ok.1.1.1

  some : 0 < ring_of u * wide
  some = mul-pos (ring_positive u) (omega arith)

  rings_are : drop heading_width ws ≡ A ++ (B ++ C)
  rings_are = let l = ok.0 in rw is (drop_at (encode_heading u (of_register reg).head) (A ++ (B ++ C)) heading_width (omega arith))

  pub classes_shown : (head : ℕ → List ℕ → List ℕ) (f : List ℕ → List ℕ)
      → register_shown head f wide (ring_of u) ws ≡ ring_shown head f wide A ++ (ring_shown head f wide B ++ ring_shown head f wide C)
  unfolding register_shown
  classes_shown head f = rw rings_are (shown_three wide (ring_of u) (omega arith) A B C a_long b_long c_long some (ring_shown head f wide))

  pub classes_total : (f : List ℕ → ℕ) → total f wide (drop heading_width ws) ≡ total f wide A + (total f wide B + total f wide C)
  classes_total f = rw rings_are (total_all wide (ring_of u) (omega arith) A B C a_long b_long c_long f)

  -- what is written
  pub register_is : register_words wide (ring_of u) ws ≡ dump_words reg
  unfolding register_words dump_words
  register_is =
      let a = ap (λ (l : List ℕ). get_or l 8 0) is in
      let b = ap (λ (l : List ℕ). get_or l 9 0) is in
      let x = ring_is u.slots (ring_of u) reg.rings.of_feeders ok.1.0 in
      let y = ring_is u.slots (ring_of u) reg.rings.of_peers ok.1.1.0 in
      let z = ring_is u.slots (ring_of u) reg.rings.of_own ok.1.1.1 in
      rw (a, b, floor_is reg.floor, classes_shown count_before part_words) (λ i. dumped_floor reg.floor ∷ x i ++ (y i ++ z i))

  -- how many bytes it has
  pub register_counted : register_long wide ws ≡ length (dump_bytes reg)
  unfolding register_long dump_bytes dump_words
  register_counted =
      let a = ring_counted u.slots (ring_of u) reg.rings.of_feeders ok.1.0 in
      let b = ring_counted u.slots (ring_of u) reg.rings.of_peers ok.1.1.0 in
      let c = ring_counted u.slots (ring_of u) reg.rings.of_own ok.1.1.1 in
      let l = length-append (class_words reg.rings.of_feeders) (class_words reg.rings.of_peers ++ class_words reg.rings.of_own) in
      let m = length-append (class_words reg.rings.of_peers) (class_words reg.rings.of_own) in
      rw (classes_total part_length, bytes_long (dump_words reg)) (omega arith)

  -- the output after a dump
  pub dumped : {out after : List ℕ} {r : ℕ} → Puts 0 (register_words wide (ring_of u) ws) out after r
      → (after ≡ dump_bytes reg ++ drop (length (dump_bytes reg)) out) × (r ≡ length (dump_bytes reg))
  unfolding dump_bytes written
  dumped d =
      let e = register_is in
      let n = rw e at d.next in
      let l = bytes_long (dump_words reg) in
      let z : 0 + length (flat word_bytes (dump_words reg)) ≡ length (flat word_bytes (dump_words reg)) = omega arith in
      (rw (← z) (rw e at d.out), omega arith)

  -- that there is room for it
  pub room_for : {out : List ℕ} → length (dump_bytes reg) ≤ length out → Fits 0 (register_words wide (ring_of u) ws) out
  unfolding dump_bytes
  room_for h = let l = bytes_long (dump_words reg) in rw register_is (record { room = omega arith })

  -- that the code may go over it
  pub laid_out : u.slots ≤ 1_024 → ring_of u ≤ 256 → LaidOut wide (ring_of u) ws
  laid_out small few =
      let l = ok.0 in
      let h = length-append (encode_heading u (of_register reg).head) (A ++ (B ++ C)) in
      let x = ring_laid u.slots (ring_of u) reg.rings.of_feeders ok.1.0 small few in
      let y = ring_laid u.slots (ring_of u) reg.rings.of_peers ok.1.1.0 small few in
      let z = ring_laid u.slots (ring_of u) reg.rings.of_own ok.1.1.1 small few in
      let c = count_all wide (ring_of u) (omega arith) A B C a_long b_long c_long in
      record {
        narrow = omega arith;
        some = ring_positive u;
        few = few;
        heading = rw is (omega arith);
        generations =
            rw rings_are (record {
              wide = omega arith;
              few = omega arith;
              bounded = each_all wide (ring_of u) (omega arith) A B C a_long b_long c_long Bounded x.bounded y.bounded z.bounded;
            });
        rings = rw rings_are (each_three wide (ring_of u) (omega arith) A B C a_long b_long c_long some (Laid wide) x y z);
      }
