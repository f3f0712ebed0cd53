-- The test of one place: its deliverer and the number of its pairs first, then the pairs.
use Prim.Native.Nat.{ℕ, ◌-◌, ◌*◌, ◌≤◌, ◌<◌}
use native.Mathlib.Omega.{arith}
use mathlib.Core.Path.{◌≡◌, sym}
use mathlib.Core.Bool.{Bool, true, false, ◌&&◌, and-false, and_assoc}
use mathlib.Core.List.{List, [], ◌∷◌}
use lib.ListN.{length, get_or, take, drop, length-drop}
use lib.Seq.{take_all}
use lib.Dec.{leb, eqb}
use borrow.Author.Tests.{leb-true, eqb-true, le-leb, lt-leb}
use Rattle.runs.proofs.Cases.{each_true}
use Rattle.model.specs.declared.Class.{Class}
use Rattle.model.specs.Widths.{place_head, place_width}
use Rattle.model.specs.Book.{total, entries}
use Rattle.model.specs.BookWords.{most_entries, read_pairs, pairs_sound, kind_sound, place_sound, read_place}

module _ (ws : List ℕ) (c : Class) (E : ℕ) where
  abbrev kind_part : Bool
  kind_part = kind_sound c (get_or ws 0 0)

  abbrev room_part : Bool
  room_part = leb 1 (get_or ws 3 0) && leb (get_or ws 3 0) E

  -- a place that passed: its third word is its entries, and they are few
  pub passed_place : place_sound c E ws ≡ true → (get_or ws 2 0 ≡ entries (read_place c ws)) × (get_or ws 2 0 ≤ 2_000_000)
  unfolding place_sound
  passed_place t =
      let qs = read_pairs (get_or ws 3 0) (drop place_head ws) in
      let p = each_true kind_part (room_part ∷ pairs_sound 0 qs ∷ eqb (total qs) (get_or ws 2 0) ∷ leb (get_or ws 2 0) most_entries ∷ []) t in
      (sym (eqb-true (total qs) (get_or ws 2 0) p.1.1.1.0), leb-true (get_or ws 2 0) most_entries p.1.1.1.1)

  pub kind_bad : kind_part ≡ false → false ≡ place_sound c E ws
  unfolding place_sound
  kind_bad k = rw k

  pub pairs_none : get_or ws 3 0 < 1 → false ≡ place_sound c E ws
  unfolding place_sound
  pairs_none h = let k : leb 1 (get_or ws 3 0) ≡ false = lt-leb 1 (get_or ws 3 0) h in rw k (sym (and-false kind_part))

  pub pairs_many : E < get_or ws 3 0 → 1 ≤ get_or ws 3 0 → false ≡ place_sound c E ws
  unfolding place_sound
  pairs_many h l =
      let k : leb 1 (get_or ws 3 0) ≡ true = le-leb 1 (get_or ws 3 0) l in
      let m : leb (get_or ws 3 0) E ≡ false = lt-leb (get_or ws 3 0) E h in
      rw (k, m) (sym (and-false kind_part))

  -- the cells of its pairs lie within it
  module _ (long : length ws ≡ place_width E) where
    body_is : take (length ws - place_head) (drop place_head ws) ≡ drop place_head ws
    body_is = take_all (length ws - place_head) (drop place_head ws) (rw length-drop (omega arith))

    pub place_room : get_or ws 3 0 ≤ E → 2 * get_or ws 3 0 ≤ length (take (length ws - place_head) (drop place_head ws))
    place_room h = rw (body_is, length-drop) (omega arith)

    module _ (k : kind_part ≡ true) (l : 1 ≤ get_or ws 3 0) (h : get_or ws 3 0 ≤ E) (s : Bool)
        (hs : s ≡ (pairs_sound 0 (read_pairs (get_or ws 3 0) (take (length ws - place_head) (drop place_head ws)))
        && eqb (total (read_pairs (get_or ws 3 0) (take (length ws - place_head) (drop place_head ws)))) (get_or ws 2 0))) where
      rest : (s && leb (get_or ws 2 0) most_entries) ≡ place_sound c E ws
      unfolding place_sound
      rest =
          let qs = read_pairs (get_or ws 3 0) (drop place_head ws) in
          let r : s ≡ (pairs_sound 0 qs && eqb (total qs) (get_or ws 2 0)) = rw body_is at hs in
          let a : leb 1 (get_or ws 3 0) ≡ true = le-leb 1 (get_or ws 3 0) l in
          let b : leb (get_or ws 3 0) E ≡ true = le-leb (get_or ws 3 0) E h in
          rw (k, a, b, r) (and_assoc (pairs_sound 0 qs) (eqb (total qs) (get_or ws 2 0)) (leb (get_or ws 2 0) most_entries))

      pub place_good : s ≡ true → leb (get_or ws 2 0) 2_000_000 ≡ place_sound c E ws
      place_good t = rw t at rest

      pub place_bad : s ≡ false → false ≡ place_sound c E ws
      place_bad t = rw t at rest
