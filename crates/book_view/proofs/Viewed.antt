-- A deliverer's view: as it is written from its place's words, and what it is of its class.
use Prim.Native.Nat.{ℕ, suc, ◌+◌, ◌-◌, ◌*◌, ◌<◌, ◌≤◌}
use native.Mathlib.Omega.{arith}
use mathlib.Core.Path.{◌≡◌, refl, ap, sym, ◌∙◌}
use Rattle.std.proofs.Common.{Some, None}
use mathlib.Core.List.{List, [], ◌∷◌, ◌++◌, append_assoc}
use lib.ListN.{length, get_or, set, drop, length-append}
use lib.Seq.{drop-cons, set_at}
use borrow.Rule.Slice.PartMut.{mid_of}
use Rattle.model.specs.declared.Deliverer.{Deliverer}
use Rattle.model.specs.declared.Shares.{Shares}
use Rattle.runs.specs.Chunks.{flat}
use Rattle.model.specs.Widths.{class_head, place_width}
use Rattle.model.specs.Class.{class_of}
use Rattle.model.specs.Book.{Place, entries, entries_of, pairs_of}
use Rattle.model.specs.BookWords.{pair_words, read_pairs}
use Rattle.model.specs.Calls.{written_over}
use Rattle.model.proofs.BookWords.{length_pairs, length_read, read_flat}
use Rattle.book.specs.PlaceRules.{Wide, pairs_in}
use Rattle.book.specs.ClassRules.{ClassIs, ClassReads, place_of}
use Rattle.book.proofs.ClassWords.{nobody, reads_one, holders_are}
use Rattle.book.proofs.ClassLists.{entries_at, pairs_at, entries_none, pairs_none}
use Rattle.book.proofs.PlaceTurns.{cells_in, tail_is}
use Rattle.book.proofs.Finding.{in_part, in_use, nowhere, part_wide, part_here, index_is}
use Rattle.book_view.specs.Views.{places_view, place_view, Writes, HoldsView, ViewsPlaces}

-- ---- one place
pairs_long : (ws : List ℕ) → length (flat pair_words (pairs_in ws)) ≡ 2 * get_or ws 3 0
pairs_long ws = length_pairs (pairs_in ws) ∙ rw length_read

pub place_counted : (ws : List ℕ) → 2 * get_or ws 3 0 + 1 ≡ length (place_view ws)
place_counted ws = let l = pairs_long ws in rw length-append (omega arith)

-- the entries behind the pairs
last_over : (qs out : List ℕ) (k v : ℕ) → length qs ≡ k → k < length out → set (qs ++ drop k out) k v ≡ written_over (qs ++ (v ∷ [])) out
last_over qs out k v l h =
    let n : length (qs ++ (v ∷ [])) ≡ suc k = length-append qs (v ∷ []) ∙ omega arith in
    rw (drop-cons out k 0 h, set_at qs (get_or out k 0) (drop (suc k) out) v k l, n) (sym (append_assoc qs (v ∷ []) (drop (suc k) out)))

pub place_written : (ws out : List ℕ) {mid : List ℕ} → 2 * get_or ws 3 0 + 1 ≤ length out
    → mid ≡ flat pair_words (read_pairs (get_or ws 3 0) (cells_in ws)) ++ drop (2 * get_or ws 3 0) out
    → Writes (place_view ws) out (set mid (2 * get_or ws 3 0) (get_or ws 2 0)) (2 * get_or ws 3 0 + 1)
place_written ws out h is = record {
  out = rw (is, tail_is ws) (last_over (flat pair_words (pairs_in ws)) out (2 * get_or ws 3 0) (get_or ws 2 0) (pairs_long ws) (omega arith));
  count = place_counted ws;
}

-- ---- a class
module _ {b : Shares} (who : Deliverer) {ws : List ℕ} (w : ClassIs b (class_of who) ws) where
  abbrev all : List Place
  all = w.is.value.places

  view_fits : {out : List ℕ} → HoldsView b who ws out → length (places_view who all) ≤ length out
  view_fits f = f.room w.is.value w.is.ok w.is.words

  pub view_some : {out : List ℕ} → HoldsView b who ws out → 0 < length out
  view_some f = let r = view_fits f in let l = length-append (flat pair_words (pairs_of who all)) (entries_of who all ∷ []) in omega arith

  -- what is written is the view of the one class that has these words
  view_is : {shown out after : List ℕ} {n : ℕ} → shown ≡ places_view who all → Writes shown out after n → ViewsPlaces b who ws out after n
  view_is {out = out} e d = record {
    out = reads_one b (class_of who) ws w.is (d.out ∙ ap (λ (v : List ℕ). written_over v out) e);
    count = reads_one b (class_of who) ws w.is (d.count ∙ ap length e);
  }

  -- ---- a deliverer without a place
  module _ (r : ClassReads b (class_of who) (λ h. place_of who h.places) ws None) where
    stranger_is : 0 ∷ [] ≡ places_view who all
    unfolding flat
    stranger_is = let l = nowhere b who ws w r in rw (pairs_none who 0 all l, entries_none who 0 all l)

    pub stranger_counted : ClassReads b (class_of who) (λ x. length (places_view who x.places)) ws 1
    stranger_counted = reads_one b (class_of who) ws w.is (ap length stranger_is)

    pub stranger_viewed : {out : List ℕ} → HoldsView b who ws out → ViewsPlaces b who ws out (set out 0 0) 1
    stranger_viewed {out} f = view_is stranger_is (record { out = last_over [] out 0 0 refl (view_some f); count = refl })

  -- ---- one that has a place, at word a
  module _ {at : ℕ} (r : ClassReads b (class_of who) (λ h. place_of who h.places) ws (Some at)) where
    h : at < get_or ws 1 0
    h = in_use b who ws w at r

    module _ {a e : ℕ} (ha : a ≡ class_head + at * place_width b.pairs) (he : e ≡ a + place_width b.pairs) where
      abbrev here : List ℕ
      here = mid_of a (e - a) ws

      pub here_inside : e ≤ length ws
      here_inside = let k = in_part b (class_of who) ws w at h in omega arith

      pub here_wide : Wide here
      here_wide = part_wide b (class_of who) ws w at a e h ha he

      here_is : place_view here ≡ places_view who all
      here_is =
          let k = holders_are b (class_of who) ws w in
          let l = h in
          let i = index_is b who ws w at r in
          let p = get_or all at nobody in
          let s = part_here b (class_of who) ws w at a e h ha he in
          let q : pairs_of who all ≡ p.pairs = rw (← i) at (pairs_at who 0 all (omega arith)) in
          let u : entries_of who all ≡ entries p = rw (← i) at (entries_at who 0 all (omega arith)) in
          rw (s, q, u, read_flat p.pairs p.past)

      pub here_fits : {out : List ℕ} → HoldsView b who ws out → 2 * get_or here 3 0 + 1 ≤ length out
      here_fits f = let r = view_fits f in let l = place_counted here ∙ ap length here_is in omega arith

      pub here_counted : {k : ℕ} → k ≡ length (place_view here) → ClassReads b (class_of who) (λ x. length (places_view who x.places)) ws k
      here_counted e = reads_one b (class_of who) ws w.is (e ∙ ap length here_is)

      pub here_viewed : {out after : List ℕ} {k : ℕ} → Writes (place_view here) out after k → ViewsPlaces b who ws out after k
      here_viewed d = view_is here_is d
