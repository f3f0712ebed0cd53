-- A place's words, its head and its cells: what src/place.rt does to them, said of the place.
use Prim.Native.Nat.{ℕ, suc, ◌+◌, ◌-◌, ◌*◌, ◌<◌, ◌≤◌}
use native.Mathlib.Nat.{zero-add}
use native.Mathlib.Omega.{arith}
use mathlib.Core.Path.{◌≡◌, refl, ap, sym, ◌∙◌}
use mathlib.Core.List.{List, [], ◌∷◌, ◌++◌, append-nil}
use lib.ListN.{length, get_or, set, take, drop, replicate, length-drop, drop_of_length-le}
use lib.Seq.{take_all, drop-drop}
use borrow.Rule.Slice.PartMut.{mid_of, put_mid}
use Rattle.runs.specs.Chunks.{flat}
use Rattle.runs.specs.Turns.{Turns}
use Rattle.runs.proofs.Firsts.{firsts_are}
use Rattle.model.specs.declared.Deliverer.{Deliverer}
use Rattle.model.specs.declared.DelivererCode.{DelivererCode}
use Rattle.model.specs.Widths.{place_head, place_width}
use Rattle.model.specs.Class.{kind_of}
use Rattle.model.specs.Book.{Pair, Place, total, entries, with_pairs, later_pairs}
use Rattle.model.specs.BookWords.{pair_words, read_pairs, encode_place, number_word}
use Rattle.model.proofs.BookWords.{read_flat, length_read}
use Rattle.pairs.specs.declared.Passed.{Passed}
use Rattle.pairs.specs.Pairs.{Cells, cells_words, before, passed_in, count_at, raise_at, lower_at, insert_at, remove_at, raised, lowered, inserted, removed, Holds, Takes, Loses}
use Rattle.book.specs.PlaceRules.{pairs_in, Wide, Has, Single, Fits, Summed, raised_place, lowered_place, shorter_place, longer_place, later_place, left_of, headed, opened_words}
use Rattle.pairs.proofs.PairWords.{total_part, count_here}
use Rattle.pairs.proofs.PairLists.{before_le, later_drop, length_raise, length_lower_at, total_raise, total_lower_at, length_insert, total_insert, length_remove, total_remove}

-- ---- the words after the head
-- as they are lent: `&place[PLACE_HEAD..]`, and the place with others behind its head
abbrev pub cells_in : List ℕ → List ℕ
cells_in ws = mid_of place_head (length ws - place_head) ws

abbrev pub with_cells : List ℕ → List ℕ → List ℕ
with_cells ws ys = put_mid place_head (length ws - place_head) ws ys

pub tail_is : (ws : List ℕ) → cells_in ws ≡ drop place_head ws
tail_is ws = take_all (length ws - place_head) (drop place_head ws) (rw length-drop (omega arith))

put_tail : (a b e n : ℕ) (cells ys : List ℕ) → with_cells (a ∷ b ∷ e ∷ n ∷ cells) ys ≡ a ∷ b ∷ e ∷ n ∷ ys
put_tail a b e n cells ys =
    let d = drop_of_length-le cells {i = length (a ∷ b ∷ e ∷ n ∷ cells) - place_head} (omega arith) in
    ap (λ (z : List ℕ). a ∷ b ∷ e ∷ n ∷ z) (rw (d, append-nil))

-- the head stays where others come behind it
pub entries_kept : (ws ys : List ℕ) → place_head ≤ length ws → get_or (with_cells ws ys) 2 0 ≡ get_or ws 2 0
entries_kept [] ys h = absurd (omega arith)
entries_kept (a ∷ []) ys h = absurd (omega arith)
entries_kept (a ∷ b ∷ []) ys h = absurd (omega arith)
entries_kept (a ∷ b ∷ e ∷ ws) ys h = refl

pub pairs_kept : (ws ys : List ℕ) (m : ℕ) → place_head ≤ length ws → get_or (set (with_cells ws ys) 2 m) 3 0 ≡ get_or ws 3 0
pairs_kept [] ys m h = absurd (omega arith)
pairs_kept (a ∷ []) ys m h = absurd (omega arith)
pairs_kept (a ∷ b ∷ []) ys m h = absurd (omega arith)
pairs_kept (a ∷ b ∷ e ∷ []) ys m h = absurd (omega arith)
pairs_kept (a ∷ b ∷ e ∷ n ∷ ws) ys m h = refl

-- ---- a new place: its head, and then its first pair
pub new_head : (who : Deliverer) (d : DelivererCode) (ws : List ℕ) → place_width 1 ≤ length ws → d ≡ record { kind = kind_of who; number = number_word who 0 }
    → set (set (set (set ws 0 d.kind) 1 d.number) 2 1) 3 1 ≡ headed who (drop place_head ws)
new_head who d ws h is =
    let e = firsts_are place_head 0 ws (omega arith) in
    ap (λ (z : List ℕ). set (set (set (set z 0 d.kind) 1 d.number) 2 1) 3 1) e ∙ rw is

pub opens : (who : Deliverer) (s : ℕ) (ws zs ys : List ℕ) → place_width 1 ≤ length ws → zs ≡ headed who (drop place_head ws)
    → Turns cells_words (Takes 0 0) (inserted 0 s) (λ x. tt {0}) (cells_in zs) ys (tt {0})
    → with_cells zs ys ≡ opened_words who s ws
unfolding flat
opens who s ws zs ys h is t =
    let cells = drop place_head ws in
    let long = length-drop place_head ws in
    let seen : cells_in zs ≡ cells = tail_is zs ∙ ap (drop place_head) is in
    let y = (t.does (record { pairs = []; past = cells }) (record { many = refl; below = omega arith; room = omega arith }) seen).0 in
    ap (λ (z : List ℕ). with_cells z ys) is ∙ put_tail (kind_of who) (number_word who 0) 1 1 cells ys ∙ rw (y, drop-drop)

-- ---- the cells after other pairs
same_past : (n m : ℕ) (past : List ℕ) → m ≡ n → past ≡ replicate (2 * (n - m)) 0 ++ drop (2 * (m - n)) past
same_past n m past e =
    let a : 2 * (n - m) ≡ 0 = omega arith in
    let b : 2 * (m - n) ≡ 0 = omega arith in
    rw (a, b)

more_past : (n m : ℕ) (past : List ℕ) → m ≡ suc n → drop 2 past ≡ replicate (2 * (n - m)) 0 ++ drop (2 * (m - n)) past
more_past n m past e =
    let a : 2 * (n - m) ≡ 0 = omega arith in
    let b : 2 * (m - n) ≡ 2 = omega arith in
    rw (a, b)

less_past : (n m d : ℕ) (past : List ℕ) → m + d ≡ n → replicate (2 * d) 0 ++ past ≡ replicate (2 * (n - m)) 0 ++ drop (2 * (m - n)) past
less_past n m d past e =
    let a : 2 * (n - m) ≡ 2 * d = omega arith in
    let b : 2 * (m - n) ≡ 0 = omega arith in
    rw (a, b)

-- ---- a place's words with other cells and another head
module _ (ws ys : List ℕ) (p : Place) (is : ws ≡ encode_place p) where
  cells_are : cells_in ws ≡ flat pair_words p.pairs ++ p.past
  cells_are = tail_is ws ∙ ap (drop place_head) is

  many : length p.pairs ≡ get_or ws 3 0
  many = sym (ap (λ (l : List ℕ). get_or l 3 0) is)

  sum : entries p ≡ get_or ws 2 0
  sum = sym (ap (λ (l : List ℕ). get_or l 2 0) is)

  module _ (qs : List Pair) (past : List ℕ) (e n : ℕ) (cells : ys ≡ flat pair_words qs ++ past) (he : e ≡ total qs) (hn : n ≡ length qs)
      (hp : past ≡ replicate (2 * (length p.pairs - length qs)) 0 ++ drop (2 * (length qs - length p.pairs)) p.past) where
    with_both : set (set (with_cells ws ys) 2 e) 3 n ≡ encode_place (with_pairs qs p)
    unfolding with_pairs
    with_both =
        rw is (ap (λ (z : List ℕ). set (set z 2 e) 3 n) (put_tail (kind_of p.who) (number_word p.who p.mark) (entries p) (length p.pairs) (flat pair_words p.pairs ++ p.past) ys)
        ∙ rw (cells, he, hn, hp))

    with_sum : length p.pairs ≡ length qs → set (with_cells ws ys) 2 e ≡ encode_place (with_pairs qs p)
    unfolding with_pairs
    with_sum l =
        rw is (ap (λ (z : List ℕ). set z 2 e) (put_tail (kind_of p.who) (number_word p.who p.mark) (entries p) (length p.pairs) (flat pair_words p.pairs ++ p.past) ys)
        ∙ rw (cells, he, hp, l))

abbrev cells_of : Place → Cells
cells_of p = record { pairs = p.pairs; past = p.past }

-- ---- each function on a place
module _ (ws ys : List ℕ) (k : ℕ) where
  pub place_raises : Wide ws → ((n : ℕ) → Turns cells_words (Holds n k) (raised k) (λ x. tt {0}) (cells_in ws) ys (tt {0}))
      → Turns encode_place (Has k) (raised_place k) (λ p. tt {0}) ws (set (with_cells ws ys) 2 (get_or (with_cells ws ys) 2 0 + 1)) (tt {0})
  place_raises w every = let long = w.long in let t = every (get_or ws 3 0) in rw (entries_kept ws ys (omega arith)) (record {
    does = λ p ok is.
        let m = many ws ys p is in
        let s = sum ws ys p is in
        let h = ok.there in
        let y = t.does (cells_of p) (record { many = m; below = omega arith }) (cells_are ws ys p is) in
        let l = length_raise k p.pairs in
        let e = total_raise k p.pairs h in (
          with_sum ws ys p is (raise_at k p.pairs) p.past (get_or ws 2 0 + 1) (length (raise_at k p.pairs)) y.0 (omega arith) refl
              (same_past (length p.pairs) (length (raise_at k p.pairs)) p.past l) (sym l),
          refl,
        );
  })

  pub place_lowers : Wide ws → ((n : ℕ) → Turns cells_words (Holds n k) (lowered k) (λ x. tt {0}) (cells_in ws) ys (tt {0}))
      → Turns encode_place (Has k) (lowered_place k) (λ p. tt {0}) ws (set (with_cells ws ys) 2 (get_or (with_cells ws ys) 2 0 - 1)) (tt {0})
  place_lowers w every = let long = w.long in let t = every (get_or ws 3 0) in rw (entries_kept ws ys (omega arith)) (record {
    does = λ p ok is.
        let m = many ws ys p is in
        let s = sum ws ys p is in
        let h = ok.there in
        let y = t.does (cells_of p) (record { many = m; below = omega arith }) (cells_are ws ys p is) in
        let l = length_lower_at k p.pairs in
        let e = total_lower_at k p.pairs h ok.some in (
          with_sum ws ys p is (lower_at k p.pairs) p.past (get_or ws 2 0 - 1) (length (lower_at k p.pairs)) y.0 (omega arith) refl
              (same_past (length p.pairs) (length (lower_at k p.pairs)) p.past l) (sym l),
          refl,
        );
  })

  pub place_inserts : (s : ℕ) → Turns cells_words (Takes (get_or ws 3 0) k) (inserted k s) (λ x. tt {0}) (cells_in ws) ys (tt {0})
      → Turns encode_place (Fits k) (longer_place k s) (λ p. tt {0}) ws (set (set (with_cells ws ys) 2 (get_or ws 2 0 + 1)) 3 (get_or ws 3 0 + 1)) (tt {0})
  place_inserts s t = record {
    does = λ p ok is.
        let m = many ws ys p is in
        let u = sum ws ys p is in
        let h = ok.there in
        let y = t.does (cells_of p) (record { many = m; below = omega arith; room = ok.room }) (cells_are ws ys p is) in
        let l = length_insert k s p.pairs h in
        let e = total_insert k s p.pairs in (
          with_both ws ys p is (insert_at k s p.pairs) (drop 2 p.past) (get_or ws 2 0 + 1) (get_or ws 3 0 + 1) y.0 (omega arith) (omega arith)
              (more_past (length p.pairs) (length (insert_at k s p.pairs)) p.past l),
          refl,
        );
  }

  pub place_removes : Turns cells_words (Loses (get_or ws 3 0) k 1) (removed k 1) (λ x. tt {0}) (cells_in ws) ys (tt {0})
      → Turns encode_place (Single k) (shorter_place k) (λ p. tt {0}) ws (set (set (with_cells ws ys) 2 (get_or ws 2 0 - 1)) 3 (get_or ws 3 0 - 1)) (tt {0})
  place_removes t = record {
    does = λ p ok is.
        let m = many ws ys p is in
        let u = sum ws ys p is in
        let h = ok.there in
        let y = t.does (cells_of p) (record { many = m; within = omega arith }) (cells_are ws ys p is) in
        let l = length_remove k 1 p.pairs (omega arith) in
        let e = total_remove k p.pairs h in
        let o = ok.one in (
          with_both ws ys p is (remove_at k 1 p.pairs) (replicate 2 0 ++ p.past) (get_or ws 2 0 - 1) (get_or ws 3 0 - 1) y.0 (omega arith) (omega arith)
              (less_past (length p.pairs) (length (remove_at k 1 p.pairs)) 1 p.past l),
          refl,
        );
  }

-- ---- an expiry: m pairs with `gone` entries go
module _ (ws ys : List ℕ) (t m gone : ℕ) (hm : m ≡ before t (pairs_in ws)) (hg : gone ≡ total (take m (pairs_in ws))) where
  pub place_expires : Turns cells_words (Loses (get_or ws 3 0) 0 m) (removed 0 m) (λ x. tt {0}) (cells_in ws) ys (tt {0})
      → Turns encode_place Summed (later_place t) (left_of t) ws
      (set (set (with_cells ws ys) 2 (get_or ws 2 0 - gone)) 3 (get_or ws 3 0 - m)) (record { pairs = get_or ws 3 0 - m; gone = gone })
  place_expires c = record {
    does = λ p ok is.
        let k = many ws ys p is in
        let u = sum ws ys p is in
        let r : pairs_in ws ≡ p.pairs = rw is (read_flat p.pairs p.past) in
        let b : m ≡ before t p.pairs = hm ∙ ap (before t) r in
        let g : gone ≡ total (take m p.pairs) = hg ∙ ap (λ (z : List Pair). total (take m z)) r in
        let le = before_le t p.pairs in
        let y = c.does (cells_of p) (record { many = k; within = omega arith }) (cells_are ws ys p is) in
        let q : remove_at 0 m p.pairs ≡ later_pairs t p.pairs = rw zero-add (rw b (sym (later_drop 0 t p.pairs ok.rise))) in
        let l = length_remove 0 m p.pairs (omega arith) in
        let z : total (take m p.pairs) + total (remove_at 0 m p.pairs) ≡ total p.pairs = rw zero-add (total_part m p.pairs) in
        let w = with_both ws ys p is (remove_at 0 m p.pairs) (replicate (2 * m) 0 ++ p.past) (get_or ws 2 0 - gone) (get_or ws 3 0 - m) y.0 (omega arith) (omega arith)
        (less_past (length p.pairs) (length (remove_at 0 m p.pairs)) m p.past l) in
        let n : get_or ws 3 0 - m ≡ length (remove_at 0 m p.pairs) = omega arith in
        let v : gone ≡ entries p - total (remove_at 0 m p.pairs) = omega arith in (
          w ∙ ap (λ (x : List Pair). encode_place (with_pairs x p)) q,
          λ i. record { pairs = (n ∙ ap length q) i; gone = (v ∙ ap (λ (x : List Pair). entries p - total x) q) i },
        );
  }

-- ---- what the functions on cells ask, of a place's words
pub tail_long : (ws : List ℕ) → Wide ws → 2 * get_or ws 3 0 ≤ length (cells_in ws)
tail_long ws w = let k = w.long in rw (tail_is ws, length-drop) (omega arith)

-- the count of pair k, as it lies among the cells
pub count_word : (ws : List ℕ) (k : ℕ) → Wide ws → k < get_or ws 3 0
    → (2 * k + 1 < length (cells_in ws)) × (get_or (cells_in ws) (2 * k + 1) 0 ≡ count_at k (pairs_in ws))
count_word ws k w h = let l = tail_long ws w in (omega arith, rw (tail_is ws) (count_here (get_or ws 3 0) k (drop place_head ws) h))

-- what the walk over the earlier pairs found
pub record Went (ws : List ℕ) (t : ℕ) (r : Passed) : Type 0 where
  pub pairs : r.pairs ≡ before t (pairs_in ws)
  pub entries : r.entries ≡ total (take r.pairs (pairs_in ws))
  pub few : r.pairs ≤ get_or ws 3 0
  pub small : r.entries ≤ total (pairs_in ws)

pub went : (ws : List ℕ) (t : ℕ) (r : Passed) → r ≡ passed_in t (read_pairs (get_or ws 3 0) (cells_in ws)) → Went ws t r
went ws t r e =
    let f : r ≡ passed_in t (pairs_in ws) = rw (tail_is ws) at e in
    let k = before_le t (pairs_in ws) in
    let l = length_read (get_or ws 3 0) (drop place_head ws) in
    let m = total_part (before t (pairs_in ws)) (pairs_in ws) in
    rw f (record { pairs = refl; entries = refl; few = omega arith; small = omega arith })
