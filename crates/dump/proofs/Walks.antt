-- What a restore stands on after the lengths have been read: where each class starts and ends (`whole`), one generation after the
-- other (`walk_next`, `walk_done`), and one fingerprint after the other (`prints_next`, `prints_end`).
use Prim.Native.Nat.{ℕ, ◌+◌, ◌-◌, ◌*◌, ◌/◌, ◌<◌, ◌≤◌}
use native.Mathlib.Numerals.{add-one}
use native.Mathlib.Omega.{arith}
use mathlib.Core.Path.{◌≡◌, refl, sym, ◌∙◌}
use mathlib.Core.List.{List, [], ◌∷◌}
use lib.Dec.{leb}
use lib.ListN.{length, get_or, take, drop, length-drop, drop_of_length-le}
use lib.Seq.{drop-cons, get_or-take, get_or-drop, length-take-le}
use borrow.Author.Tests.{leb-true}
use Rattle.std.specs.Prelude.{None, Some}
use Rattle.runs.proofs.Cases.{by_test, no}
use Rattle.model.specs.Dump.{words_of, read_dump}
use Rattle.dump.specs.Walk.{next_at, dumped_from, end_from, class_end, peers_at, own_at, dump_end, lengths_of, Walks, Steps, ClassWalks, Whole}
use Rattle.dump.proofs.Reading.{words_long}
use Rattle.dump.proofs.Walking.{end_next, dumped_next, end_after, class_after, words_read}
use Rattle.dump.proofs.Passing.{lengths_are}

-- ---- what the lengths tell
pub cut : (bs : List ℕ) → None ≡ lengths_of (read_dump bs) → read_dump bs ≡ None
unfolding read_dump
cut bs t =
    let l = words_long (length bs / 8) bs in
    let e = dump_end (words_of bs) in
    by_test (leb e (length bs / 8)) (λ b. no (let q = rw (lengths_are bs, b) at t in cc)) (λ b. rw (words_read (words_of bs), l, b))

class_walks : (bs : List ℕ) (p : ℕ) → class_end (words_of bs) p ≤ length bs / 8 → ClassWalks bs p (class_end (words_of bs) p)
unfolding class_end
class_walks bs p h = record {
  count = omega (arith, class_after (words_of bs) p);
  walks = record { ends = refl; inside = h };
}

pub whole : (bs : List ℕ) (words : ℕ) → Some words ≡ lengths_of (read_dump bs) → Whole bs words
unfolding read_dump
whole bs words t =
    let ws = words_of bs in
    let l = words_long (length bs / 8) bs in
    by_test (leb (dump_end ws) (length bs / 8))
    (λ b.
    let q = rw (lengths_are bs, b) at t in
    let h = leb-true (dump_end ws) (length bs / 8) b in
    let o = class_after ws (own_at ws) in
    let p = class_after ws (peers_at ws) in
    let f = class_after ws 1 in
    record {
      reads = rw (words_read ws, l, b);
      long = cc;
      floor = omega arith;
      feeders = class_walks bs 1 (omega arith);
      peers = class_walks bs (peers_at ws) (omega arith);
      own = class_walks bs (own_at ws) h;
    })
    (λ b. no (let q = rw (lengths_are bs, b) at t in cc))

-- ---- one generation after the other
module _ (bs : List ℕ) (p n e : ℕ) (w : Walks bs p n e) where
  pub walk_next : 0 < n → Steps bs p n e
  walk_next h =
      let ws = words_of bs in
      let k = end_next ws p n h in
      record {
        inside = omega (arith, end_after ws (next_at ws p) (n - 1), w.ends, w.inside);
        dumped = dumped_next ws p n h;
        walks = record { ends = sym k ∙ w.ends; inside = w.inside };
      }

  pub walk_done : n ≡ 0 → (dumped_from (words_of bs) p n ≡ []) × (p ≡ e)
  unfolding dumped_from end_from
  walk_done z = let q = w.ends in (rw z, rw z at q)

-- ---- one fingerprint after the other: n words from position p on
module _ (bs : List ℕ) (p n : ℕ) (inside : p + n ≤ length bs / 8) where
  abbrev prints : List ℕ
  prints = take n (drop p (words_of bs))

  prints_long : length prints ≡ n
  prints_long =
      let l = words_long (length bs / 8) bs in
      let d = length-drop p (words_of bs) in
      length-take-le n (drop p (words_of bs)) (omega arith)

  pub prints_next : (k : ℕ) → k < n → drop k (take n (drop p (words_of bs))) ≡ get_or (words_of bs) (p + k) 0 ∷ drop (k + 1) (take n (drop p (words_of bs)))
  prints_next k h =
      let l = prints_long in
      rw (drop-cons prints k 0 (omega arith), get_or-take n (drop p (words_of bs)) k 0 h, get_or-drop p (words_of bs) k 0, add-one)

  pub prints_end : (k : ℕ) → n ≤ k → drop k (take n (drop p (words_of bs))) ≡ []
  prints_end k h = let l = prints_long in drop_of_length-le prints {i = k} (omega arith)

-- the bytes bound how many there are
pub within_bytes : (bs : List ℕ) (words : ℕ) → Whole bs words → 8 * words ≤ length bs
within_bytes bs words w = let k = w.long in let i = w.own.walks.inside in omega arith
