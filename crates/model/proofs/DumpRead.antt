-- What a dump wrote is read back, whatever bytes follow it: the floor word, every held generation, and how many words there are.
use mathlib.Core.Path.{◌≡◌, refl, ap, ◌∙◌}
use mathlib.Core.Bool.{true}
use mathlib.Core.List.{List, [], ◌∷◌, ◌++◌, map, append_assoc}
use Rattle.std.specs.Prelude.{Some}
use Prim.Native.Nat.{ℕ, zero, suc, ◌-◌, ◌/◌, ◌≤◌}
use native.Mathlib.Omega.{arith}
use lib.Dec.{leb, eqb}
use lib.ListN.{length, length-append}
use lib.Seq.{take_at, drop_at}
use borrow.Author.Tests.{le-leb, ne_eqb}
use Rattle.runs.specs.Chunks.{flat}
use Rattle.runs.proofs.Cases.{by_test}
use Rattle.model.specs.Class.{each}
use Rattle.model.specs.Generation.{Generation, count, held}
use Rattle.model.specs.Register.{Ring, Register}
use Rattle.model.specs.Dump.{words_in, dumped_floor, fingerprints, held_list, generation_words, class_words, dump_words, dump_bytes, Dumped, Dump}
use Rattle.model.specs.Dump.{found_first, read_generations, read_class, read_own, read_peers, read_feeders, read_words, read_dump}
use Rattle.model.specs.RoundTrip.{Words64}
use Rattle.model.proofs.BytesRead.{words_of_bytes}

-- ---- a register's held generations, as a dump has them
abbrev pub as_dumped : Generation → Dumped
as_dumped g = record { bucket = g.bucket; newest = g.newest; prints = fingerprints g.slots }

unfoldable pub dumped_of : Ring → List Dumped
unfolding held_list
dumped_of ring = map as_dumped (held_list ring)

abbrev pub dump_of : Register → Dump
dump_of reg = record { floor = dumped_floor reg.floor; classes = each dumped_of reg.rings; words = length (dump_words reg) }

-- the length that is written is that of the fingerprints
pub prints_length : (s : List ℕ) → length (fingerprints s) ≡ count s
unfolding fingerprints count
prints_length [] = refl
prints_length (x ∷ xs) = by_test (eqb x 0) (λ e. simp e (omega (arith, prints_length xs))) (λ e. simp e (omega (arith, prints_length xs)))

-- ---- generations
pub read_none : (most : ℕ) (ws : List ℕ) → read_generations most 0 ws ≡ Some (record { found = []; rest = ws })
unfolding read_generations
read_none zero ws = refl
read_none (suc most) [] = refl
read_none (suc most) (b ∷ []) = refl
read_none (suc most) (b ∷ t ∷ []) = refl
read_none (suc most) (b ∷ t ∷ l ∷ ws) = refl

read_one : (most n b t l : ℕ) (fps more : List ℕ) → length fps ≡ l
    → read_generations (suc most) (suc n) (b ∷ t ∷ l ∷ (fps ++ more))
    ≡ found_first (record { bucket = b; newest = t; prints = fps }) (read_generations most n more)
unfolding read_generations
read_one most n b t l fps more e =
    let enough : leb l (length (fps ++ more)) ≡ true = le-leb l (length (fps ++ more)) (rw length-append (omega arith)) in
    let less : suc n - 1 ≡ n = omega arith in
    rw (ne_eqb (suc n) 0 (λ z. omega arith), enough, less, take_at fps more l e, drop_at fps more l e)

read_back : (gs : List Generation) (most : ℕ) (rest : List ℕ) → length gs ≤ most
    → read_generations most (length gs) (flat generation_words gs ++ rest) ≡ Some (record { found = map as_dumped gs; rest = rest })
unfolding flat found_first
read_back [] most rest h = read_none most rest
read_back (g ∷ gs) zero rest h = absurd (omega arith)
read_back (g ∷ gs) (suc m) rest h =
    rw append_assoc
    (read_one m (length gs) g.bucket g.newest (held g) (fingerprints g.slots) (flat generation_words gs ++ rest) (prints_length g.slots)
    ∙ ap (found_first (as_dumped g)) (read_back gs m rest (omega arith)))

-- each generation has three words at least, so there are enough to bound how many are read
few : (gs : List Generation) (rest : List ℕ) → length gs ≤ length (flat generation_words gs ++ rest)
unfolding flat
few [] rest = omega arith
few (g ∷ gs) rest =
    let k = few gs rest in
    let l = length-append (flat generation_words gs) rest in
    let m = length-append (fingerprints g.slots) (flat generation_words gs) in
    rw length-append (omega arith)

class_back : (ring : Ring) (rest : List ℕ) → read_class (class_words ring ++ rest) ≡ Some (record { found = dumped_of ring; rest = rest })
unfolding read_class class_words dumped_of
class_back ring rest = let gs = held_list ring in read_back gs (length (flat generation_words gs ++ rest)) rest (few gs rest)

-- ---- the whole of it
words_back : (reg : Register) (rest : List ℕ) → read_words (dump_words reg ++ rest) ≡ Some (dump_of reg)
unfolding read_words dump_words read_feeders read_peers read_own
words_back reg rest =
    let a = class_words reg.rings.of_feeders in
    let b = class_words reg.rings.of_peers in
    let c = class_words reg.rings.of_own in
    let l : suc (length (a ++ (b ++ (c ++ rest)))) - length rest ≡ suc (length (a ++ (b ++ c))) =
    let p = length-append a (b ++ (c ++ rest)) in
    let q = length-append b (c ++ rest) in
    let r = length-append c rest in
    let v = length-append a (b ++ c) in
    let w = length-append b c in
    omega arith in
    rw (append_assoc a (b ++ c) rest, append_assoc b c rest, class_back, class_back, class_back, l)

pub dump_back : (reg : Register) (more : List ℕ) → Words64 (dump_words reg) → read_dump (dump_bytes reg ++ more) ≡ Some (dump_of reg)
unfolding read_dump dump_bytes
dump_back reg more h = rw (words_of_bytes (dump_words reg) more h) (words_back reg (words_in (length more / 8) more))
