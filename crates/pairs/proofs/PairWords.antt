-- Pairs in words, for src/lib.rt: what a cell holds, and what a store or a move in the cells does to the list of pairs.
use Prim.Native.Nat.{ℕ, zero, suc, ◌+◌, ◌-◌, ◌*◌, ◌/◌, ◌<◌, ◌≤◌}
use native.Mathlib.Numerals.{add-one}
use native.Mathlib.Omega.{arith}
use mathlib.Core.Path.{◌≡◌, refl, ap, ap₂, sym, ◌∙◌}
use mathlib.Core.Bool.{false}
use mathlib.Core.List.{List, [], ◌∷◌, ◌++◌, append_assoc, map}
use lib.ListN.{length, get_or, set, take, drop, replicate, length-append, length-drop, take-append-drop, drop_of_length-le, length-map, get_or-map}
use Rattle.std.specs.List.{copy_within}
use Rattle.std.specs.Simd.{first_chunks}
use lib.Seq.{take-append-add, drop-append-add, take_at, drop_at, drop-cons, take-suc, get_or-drop, length-take-le, drop-drop}
use lib.Dec.{eqb}
use borrow.Author.Tests.{le-leb, lt-leb}
use borrow.Rule.Slice.PartMut.{mid_of, put_mid}
use Rattle.runs.specs.Chunks.{flat}
use Rattle.runs.specs.Turns.{Turns}
use Rattle.runs.proofs.Chunks.{flat_append}
use Rattle.model.specs.Book.{Pair, total}
use Rattle.model.specs.BookWords.{pair_words, read_pairs}
use Rattle.model.proofs.BookWords.{length_read, length_pairs, flat_read}
use Rattle.pairs.specs.declared.Passed.{Passed}
use Rattle.pairs.specs.Pairs.{Cells, cells_words, before, passed_in, second_at, count_at, raise_at, lower_at, insert_at, remove_at, raised, lowered, inserted, removed, Holds, Takes, Loses}
use Rattle.runs.proofs.Shifts.{mid_of_append, put_of}

-- ---- pairs as they are read
pub none : Pair
none = record { second = 0; count = 0 }

pub second_word : (n i : ℕ) (ws : List ℕ) → i < n → get_or ws (2 * i) 0 ≡ (get_or (read_pairs n ws) i none).second
unfolding read_pairs
second_word zero i ws h = absurd (omega arith)
second_word (suc n) zero ws h = refl
second_word (suc n) (suc i) ws h =
    let e : 2 * suc i ≡ 2 + 2 * i = omega arith in
    rw e (sym (get_or-drop 2 ws (2 * i) 0) ∙ second_word n i (drop 2 ws) (omega arith))

pub count_word : (n i : ℕ) (ws : List ℕ) → i < n → get_or ws (2 * i + 1) 0 ≡ (get_or (read_pairs n ws) i none).count
unfolding read_pairs
count_word zero i ws h = absurd (omega arith)
count_word (suc n) zero ws h = refl
count_word (suc n) (suc i) ws h =
    let e : 2 * suc i + 1 ≡ 2 + (2 * i + 1) = omega arith in
    rw e (sym (get_or-drop 2 ws (2 * i + 1) 0) ∙ count_word n i (drop 2 ws) (omega arith))

-- the same by chunks of two words
abbrev pub pair_of : List ℕ → Pair
pair_of ws = record { second = get_or ws 0 0; count = get_or ws 1 0 }

abbrev pub chunks_of : ℕ → List ℕ → List (List ℕ)
chunks_of n ws = first_chunks 2 (length (take (2 * n) ws) / 2) (take (2 * n) ws)

read_chunks : (n : ℕ) (ws : List ℕ) → 2 * n ≤ length ws → map pair_of (first_chunks 2 n (take (2 * n) ws)) ≡ read_pairs n ws
unfolding read_pairs
read_chunks zero ws h = refl
read_chunks (suc n) [] h = absurd (omega arith)
read_chunks (suc n) (x ∷ []) h = absurd (omega arith)
read_chunks (suc n) (x ∷ y ∷ ws) h =
    let e : 2 * suc n ≡ suc (suc (2 * n)) = omega arith in
    rw e (ap (λ (qs : List Pair). record { second = x; count = y } ∷ qs) (read_chunks n ws (omega arith)))

pub parts_read : (n : ℕ) (ws : List ℕ) (parts : List (List ℕ)) → 2 * n ≤ length ws → parts ≡ chunks_of n ws → map pair_of parts ≡ read_pairs n ws
parts_read n ws parts h is =
    let l = length-take-le (2 * n) ws h in
    let e : length (take (2 * n) ws) / 2 ≡ n = omega arith in
    rw (is, e) (read_chunks n ws h)

pub total_append : (a b : List Pair) → total (a ++ b) ≡ total a + total b
unfolding total
total_append [] b = omega arith
total_append (q ∷ a) b = omega (arith, total_append a b)

pub total_part : (k : ℕ) (qs : List Pair) → total (take k qs) + total (drop k qs) ≡ total qs
total_part k qs = sym (total_append (take k qs) (drop k qs)) ∙ ap total (take-append-drop k qs)

-- ---- earlier: at chunk i, `entries` are those of the pairs before
pub record Walked (parts : List (List ℕ)) (n s : ℕ) (ws : List ℕ) (i entries : ℕ) : Type 0 where
  pub all : map pair_of parts ≡ read_pairs n ws
  pub left : before s (read_pairs n ws) ≡ i + before s (map pair_of (drop i parts))
  pub sum : entries ≡ total (take i (map pair_of parts))

module _ (parts : List (List ℕ)) (n s : ℕ) (ws : List ℕ) where
  pub walked_none : 2 * n ≤ length ws → parts ≡ chunks_of n ws → Walked parts n s ws 0 0
  unfolding total
  walked_none h is = let e = parts_read n ws parts h is in record { all = e; left = rw e (omega arith); sum = refl }

  module _ (i entries : ℕ) (w : Walked parts n s ws i entries) where
    passed_at : (m : ℕ) → m ≡ i → before s (read_pairs n ws) ≡ i → ◌≡◌ {A = Passed} (record { pairs = m; entries = entries }) (passed_in s (read_pairs n ws))
    passed_at m k e = rw (k, e, w.sum, w.all)

    pub walked_all : i ≤ length parts → length parts ≤ i → ◌≡◌ {A = Passed} (record { pairs = n; entries = entries }) (passed_in s (read_pairs n ws))
    unfolding before
    walked_all low h =
        let d = drop_of_length-le parts {i = i} h in
        let l = sym (length-map parts pair_of) ∙ ap length w.all ∙ length_read n ws in
        passed_at n (omega arith) (w.left ∙ rw d (omega arith))

    module _ (h : i < length parts) where
      abbrev this : List ℕ
      this = get_or parts i []

      here : drop i parts ≡ this ∷ drop (suc i) parts
      here = drop-cons parts i [] h

      pub walked_stop : s ≤ get_or this 0 0 → ◌≡◌ {A = Passed} (record { pairs = i; entries = entries }) (passed_in s (read_pairs n ws))
      unfolding before
      walked_stop g = let e = le-leb s (get_or this 0 0) g in passed_at i refl (w.left ∙ rw (here, e) (omega arith))

      pub sum_on : entries + get_or this 1 0 ≡ total (take (suc i) (map pair_of parts))
      unfolding total
      sum_on =
          let l : i < length (map pair_of parts) = rw length-map h in
          let k = get_or-map pair_of parts i [] in
          let t = w.sum in
          rw (take-suc (map pair_of parts) i (pair_of []) l, total_append, k) (omega arith)

      pub sum_fits : (m : ℕ) → total (read_pairs n ws) ≤ m → entries + get_or this 1 0 ≤ m
      sum_fits m g = let k = total_part (suc i) (map pair_of parts) in let t = sum_on in let e = ap total w.all in omega arith

      pub walked_on : get_or this 0 0 < s → Walked parts n s ws (i + 1) (entries + get_or this 1 0)
      unfolding before
      walked_on g =
          let e = lt-leb s (get_or this 0 0) g in
          let f = rw (here, e) at w.left in
          record { all = w.all; left = rw add-one (f ∙ omega arith); sum = rw (add-one i) sum_on }

-- ---- has_second and count
pub second_none : (s k : ℕ) (qs : List Pair) → length qs ≤ k → false ≡ second_at s k qs
unfolding second_at
second_none s k [] h = refl
second_none s zero (q ∷ qs) h = absurd (omega arith)
second_none s (suc k) (q ∷ qs) h = second_none s k qs (omega arith)

pub second_is : (s k : ℕ) (qs : List Pair) → k < length qs → eqb (get_or qs k none).second s ≡ second_at s k qs
unfolding second_at
second_is s k [] h = absurd (omega arith)
second_is s zero (q ∷ qs) h = refl
second_is s (suc k) (q ∷ qs) h = second_is s k qs (omega arith)

pub second_past : (n s k : ℕ) (ws : List ℕ) → n ≤ k → false ≡ second_at s k (read_pairs n ws)
second_past n s k ws h = second_none s k (read_pairs n ws) (let l = length_read n ws in omega arith)

pub second_here : (n s k : ℕ) (ws : List ℕ) → k < n → eqb (get_or ws (2 * k) 0) s ≡ second_at s k (read_pairs n ws)
second_here n s k ws h =
    let w = second_word n k ws h in
    rw w (second_is s k (read_pairs n ws) (let l = length_read n ws in omega arith))

pub count_is : (k : ℕ) (qs : List Pair) → k < length qs → (get_or qs k none).count ≡ count_at k qs
unfolding count_at
count_is k [] h = absurd (omega arith)
count_is zero (q ∷ qs) h = refl
count_is (suc k) (q ∷ qs) h = count_is k qs (omega arith)

pub count_here : (n k : ℕ) (ws : List ℕ) → k < n → get_or ws (2 * k + 1) 0 ≡ count_at k (read_pairs n ws)
count_here n k ws h = let l = length_read n ws in count_word n k ws h ∙ count_is k (read_pairs n ws) (omega arith)

-- ---- list: the words of the first n pairs are the first 2n words
pub flat_taken : (n : ℕ) (ws : List ℕ) → 2 * n ≤ length ws → flat pair_words (read_pairs n ws) ≡ take (2 * n) ws
flat_taken n ws h =
    let qs = read_pairs n ws in
    let l : length (flat pair_words qs) ≡ 2 * n = length_pairs qs ∙ rw length_read in
    sym (take_at (flat pair_words qs) (drop (2 * n) ws) (2 * n) l) ∙ ap (take (2 * n)) (flat_read n ws h)

pub lists : (n : ℕ) (ws out ys : List ℕ) → 2 * n ≤ length ws → ys ≡ take (2 * n) ws
    → ys ++ drop (2 * n) out ≡ flat pair_words (read_pairs n ws) ++ drop (2 * n) out
lists n ws out ys h is = rw (is, flat_taken n ws h)

-- ---- raise and lower
pub raise_word : (k : ℕ) (qs : List Pair) (past : List ℕ) → k < length qs
    → set (flat pair_words qs ++ past) (2 * k + 1) (get_or (flat pair_words qs ++ past) (2 * k + 1) 0 + 1) ≡ flat pair_words (raise_at k qs) ++ past
unfolding flat raise_at
raise_word k [] past h = absurd (omega arith)
raise_word zero (q ∷ qs) past h = rw add-one
raise_word (suc k) (q ∷ qs) past h =
    let e : 2 * suc k + 1 ≡ suc (suc (2 * k + 1)) = omega arith in
    rw e (ap (λ (l : List ℕ). q.second ∷ q.count ∷ l) (raise_word k qs past (omega arith)))

pub lower_word : (k : ℕ) (qs : List Pair) (past : List ℕ) → k < length qs
    → set (flat pair_words qs ++ past) (2 * k + 1) (get_or (flat pair_words qs ++ past) (2 * k + 1) 0 - 1) ≡ flat pair_words (lower_at k qs) ++ past
unfolding flat lower_at
lower_word k [] past h = absurd (omega arith)
lower_word zero (q ∷ qs) past h = refl
lower_word (suc k) (q ∷ qs) past h =
    let e : 2 * suc k + 1 ≡ suc (suc (2 * k + 1)) = omega arith in
    rw e (ap (λ (l : List ℕ). q.second ∷ q.count ∷ l) (lower_word k qs past (omega arith)))

pub raises : (n k : ℕ) (ws : List ℕ) → Turns cells_words (Holds n k) (raised k) (λ x. tt {0}) ws (set ws (2 * k + 1) (get_or ws (2 * k + 1) 0 + 1)) (tt {0})
raises n k ws = record { does = λ x ok is. let l = ok.many in let b = ok.below in (rw is (raise_word k x.pairs x.past (omega arith)), refl) }

pub lowers : (n k : ℕ) (ws : List ℕ) → Turns cells_words (Holds n k) (lowered k) (λ x. tt {0}) ws (set ws (2 * k + 1) (get_or ws (2 * k + 1) 0 - 1)) (tt {0})
lowers n k ws = record { does = λ x ok is. let l = ok.many in let b = ok.below in (rw is (lower_word k x.pairs x.past (omega arith)), refl) }

-- ---- pairs cut in two, and their words
pub flat_cut : (k : ℕ) (qs : List Pair) → flat pair_words qs ≡ flat pair_words (take k qs) ++ flat pair_words (drop k qs)
flat_cut k qs = ap (flat pair_words) (sym (take-append-drop k qs)) ∙ flat_append pair_words (take k qs) (drop k qs)

-- ---- insert: the two words at the front of what moved up are overwritten
two_over : (u m v : List ℕ) (a b s : ℕ) → length u ≡ a → b ≡ a + 1 → 2 ≤ length m
    → set (set (u ++ (take 2 m ++ v)) a s) b 1 ≡ u ++ (s ∷ 1 ∷ v)
two_over [] [] v a b s e f h = absurd (omega arith)
two_over [] (x ∷ []) v a b s e f h = absurd (omega arith)
two_over [] (x ∷ y ∷ m) v a b s e f h = let z : a ≡ 0 = omega arith in let o : b ≡ 1 = omega arith in rw (z, o)
two_over (x ∷ u) m v zero b s e f h = absurd (omega arith)
two_over (x ∷ u) m v (suc a) zero s e f h = absurd (omega arith)
two_over (x ∷ u) m v (suc a) (suc b) s e f h = ap (λ (l : List ℕ). x ∷ l) (two_over u m v a b s (omega arith) (omega arith) h)

new_first : (s : ℕ) (qs : List Pair) (u : List ℕ) → u ++ flat pair_words (record { second = s; count = 1 } ∷ qs) ≡ u ++ (s ∷ 1 ∷ flat pair_words qs)
unfolding flat
new_first s qs u = refl

-- after k pairs the others move up by one
moved_up : (u v past : List ℕ) (a e : ℕ) → length u ≡ a → length v ≡ e - a → a ≤ e
    → copy_within (u ++ (v ++ past)) a e (a + 2) ≡ u ++ (take 2 (v ++ past) ++ (v ++ drop 2 past))
moved_up u v past a e lu lv h =
    let d = drop_at u (v ++ past) a lu in
    let t = take_at v past (e - a) lv in
    let f : a + 2 ≡ length u + 2 = omega arith in
    let x : take (a + 2) (u ++ (v ++ past)) ≡ u ++ take 2 (v ++ past) = rw f (take-append-add u (v ++ past) 2) in
    let g : a + 2 + (e - a) ≡ length u + (length v + 2) = omega arith in
    let y : drop (a + 2 + (e - a)) (u ++ (v ++ past)) ≡ drop 2 past =
    rw g (drop-append-add u (v ++ past) (length v + 2) ∙ drop-append-add v past 2) in
    rw (x, y, d, t) (append_assoc (u ++ take 2 (v ++ past)) v (drop 2 past) ∙ append_assoc u (take 2 (v ++ past)) (v ++ drop 2 past))

pub inserts : (n k s : ℕ) (ws ys : List ℕ) → ys ≡ copy_within ws (2 * k) (2 * n) (2 * k + 2)
    → Turns cells_words (Takes n k) (inserted k s) (λ x. tt {0}) ws (set (set ys (2 * k) s) (2 * k + 1) 1) (tt {0})
inserts n k s ws ys moved = record { does = λ x ok is. (turned x ok is, refl) }
  where
    turned : (x : Cells) → Takes n k x → ws ≡ cells_words x → set (set ys (2 * k) s) (2 * k + 1) 1 ≡ cells_words (inserted k s x)
    turned x ok is =
        let l = ok.many in
        let kn = ok.below in
        let room = ok.room in
        let u = flat pair_words (take k x.pairs) in
        let v = flat pair_words (drop k x.pairs) in
        let lu : length u ≡ 2 * k = length_pairs (take k x.pairs) ∙ rw (length-take-le k x.pairs (omega arith)) (omega arith) in
        let lv : length v ≡ 2 * n - 2 * k = length_pairs (drop k x.pairs) ∙ rw (length-drop, l) (omega arith) in
        let w : ws ≡ u ++ (v ++ x.past) = is ∙ ap (λ (z : List ℕ). z ++ x.past) (flat_cut k x.pairs) ∙ append_assoc u v x.past in
        let p = moved ∙ ap (λ (z : List ℕ). copy_within z (2 * k) (2 * n) (2 * k + 2)) w ∙ moved_up u v x.past (2 * k) (2 * n) lu lv (omega arith) in
        let q : flat pair_words (insert_at k s x.pairs) ≡ u ++ (s ∷ 1 ∷ v) = flat_append pair_words (take k x.pairs)
        (record { second = s; count = 1 } ∷ drop k x.pairs) ∙ new_first s (drop k x.pairs) u in
        let t : flat pair_words (insert_at k s x.pairs) ++ drop 2 x.past ≡ u ++ (s ∷ 1 ∷ (v ++ drop 2 x.past)) = rw q (append_assoc u (s ∷ 1 ∷ v) (drop 2 x.past)) in
        let some : 2 ≤ length (v ++ x.past) = rw length-append (omega arith) in
        ap (λ (z : List ℕ). set (set z (2 * k) s) (2 * k + 1) 1) p ∙ two_over u (v ++ x.past) (v ++ drop 2 x.past) (2 * k) (2 * k + 1) s lu refl some ∙ sym t

-- ---- remove
module _ (n k m a e d : ℕ) (ws ys : List ℕ) (ha : a ≡ 2 * k) (he : e ≡ 2 * n) (hd : d ≡ 2 * m)
    (is_up : ys ≡ drop d (mid_of a (e - a) ws) ++ replicate d 0) where
  pub removes : Turns cells_words (Loses n k m) (removed k m) (λ x. tt {0}) ws (put_mid a (e - a) ws ys) (tt {0})
  removes = record { does = λ x ok is. (moved x ok is, refl) }
    where
      moved : (x : Cells) → Loses n k m x → ws ≡ cells_words x → put_mid a (e - a) ws ys ≡ cells_words (removed k m x)
      moved x ok is =
          let l = ok.many in
          let kn = ok.within in
          let qs = x.pairs in
          let u = flat pair_words (take k qs) in
          let g = flat pair_words (take m (drop k qs)) in
          let v = flat pair_words (drop (k + m) qs) in
          let ld : length (drop k qs) ≡ n - k = length-drop k qs ∙ rw l in
          let lu : length u ≡ a = length_pairs (take k qs) ∙ rw (length-take-le k qs (omega arith)) (omega arith) in
          let lg : length g ≡ d = length_pairs (take m (drop k qs)) ∙ rw (length-take-le m (drop k qs) (omega arith)) (omega arith) in
          let lv : length v ≡ 2 * (n - (k + m)) = length_pairs (drop (k + m) qs) ∙ rw (length-drop, l) in
          let lm : length (g ++ v) ≡ e - a = length-append g v ∙ omega arith in
          let cut : flat pair_words (drop k qs) ≡ g ++ v = flat_cut m (drop k qs) ∙ rw drop-drop in
          let w : ws ≡ u ++ ((g ++ v) ++ x.past) = is ∙ ap (λ (z : List ℕ). z ++ x.past) (flat_cut k qs ∙ ap (λ (z : List ℕ). u ++ z) cut) ∙ append_assoc u (g ++ v) x.past in
          let mid : mid_of a (e - a) ws ≡ g ++ v = ap (mid_of a (e - a)) w ∙ mid_of_append u (g ++ v) x.past a (e - a) lu lm in
          let y : ys ≡ v ++ replicate d 0 = is_up ∙ rw mid (ap (λ (z : List ℕ). z ++ replicate d 0) (drop_at g v d lg)) in
          let p : put_mid a (e - a) ws ys ≡ u ++ ((v ++ replicate d 0) ++ x.past) = ap₂ (put_mid a (e - a)) w y ∙ put_of u (g ++ v) x.past (v ++ replicate d 0) a (e - a) lu lm in
          let q : flat pair_words (remove_at k m qs) ≡ u ++ v = flat_append pair_words (take k qs) (drop (k + m) qs) in
          p ∙ rw (q, ← hd, append_assoc, append_assoc)
