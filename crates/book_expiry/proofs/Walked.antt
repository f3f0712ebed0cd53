-- One place of an expiry in the class's words: it goes and leaves its words to the gap, or it moves down behind those kept.
use Prim.Native.Nat.{ℕ, suc, ◌+◌, ◌-◌, ◌*◌, ◌<◌, ◌≤◌}
use native.Mathlib.Nat.{zero-add, suc-mul}
use Rattle.std.specs.List.{copy_within}
use Rattle.std.proofs.lemmas.List.Edits.{paste_all}
use native.Mathlib.Numerals.{add-one}
use native.Mathlib.Omega.{arith}
use mathlib.Core.Path.{◌≡◌, ap, ap₂, sym, ◌∙◌}
use mathlib.Core.List.{List, [], ◌∷◌, ◌++◌, append_assoc, append-nil}
use lib.ListN.{length, get_or, take, drop, length-append, length-drop}
use lib.Seq.{drop-cons, drop_at}
use borrow.Rule.Slice.PartMut.{mid_of, put_mid}
use Rattle.model.specs.declared.Class.{Class}
use Rattle.model.specs.declared.Shares.{Shares}
use Rattle.runs.specs.Chunks.{flat}
use Rattle.runs.specs.Turns.{Is, Turns}
use Rattle.runs.proofs.Chunks.{flat_append}
use Rattle.runs.proofs.Each.{each_at}
use Rattle.model.specs.Widths.{class_head, place_head, place_width}
use Rattle.model.specs.Book.{Pair, Place, total, entries_in, place_units, units, with_pairs, later_pairs, later_places}
use Rattle.model.specs.BookWords.{most_entries, read_who, encode_place, PlaceOk}
use Rattle.model.proofs.BookWords.{read_flat, named_back}
use Rattle.model.proofs.Pairs.{length_later, total_later}
use Rattle.model.proofs.Places.{PlacesOk}
use Rattle.book.specs.declared.place.Left.{Left}
use Rattle.book.specs.PlaceRules.{pairs_in, Wide, Summed, later_place, left_of}
use Rattle.runs.proofs.Shifts.{mid_of_append, put_of}
use Rattle.book.proofs.ClassWords.{nobody, flat_cons, flat_long, place_long}
use Rattle.book.proofs.ClassLists.{entries_append, units_append}
use Rattle.book.proofs.Finding.{place_wide}
use Rattle.numbers.specs.declared.units.Sums.{Sums}
use Rattle.numbers.specs.Sums.{with_place}
use Rattle.book_expiry.specs.Walks.{Walk, Standing, Steps}
use Rattle.book_expiry.proofs.Lists.{later_gone, later_here, between_gone, between_here, fewer_long, kept_ok}

-- words moved down to the first, the last d staying as they were
moved_down : (xs : List ℕ) (d : ℕ) → copy_within xs d (length xs) 0 ≡ drop d xs ++ drop (length xs - d) xs
moved_down xs d = paste_all xs 0 (drop d xs) (length xs - d) (sym (length-drop d xs)) ∙ rw zero-add

-- ---- place i in words of which the places before it have been seen
module _ (b : Shares) (c : Class) (t i : ℕ) (lead : List ℕ) (ps : List Place) (rest : List ℕ) (k : Sums) (ws : List ℕ)
    (totals : length lead ≡ class_head) (ok : PlacesOk c b.pairs 0 ps) (below : i < length ps) (w : Walk b t i lead ps rest k ws) where
  abbrev W : ℕ
  W = place_width b.pairs

  abbrev p : Place
  p = get_or ps i nobody

  abbrev kept : List Place
  kept = later_places t (take i ps)

  -- the words before the gap, and those after place i
  abbrev u : List ℕ
  u = lead ++ flat encode_place (later_places t (take i ps))

  abbrev v : List ℕ
  v = flat encode_place (drop (suc i) ps) ++ rest

  fine : PlaceOk c b.pairs p
  fine = each_at (λ (j : ℕ). PlaceOk c b.pairs) ps i nobody ok below

  u_long : length u ≡ class_head + k.holders * W
  u_long =
      let l = length-append lead (flat encode_place kept) in
      let f = flat_long c b.pairs 0 kept (kept_ok b c t i ps ok) in
      let m = ap (λ (n : ℕ). n * W) w.holders in
      omega arith

  gap_long : k.holders * W + length w.gap ≡ i * W
  gap_long = let m = ap (λ (n : ℕ). n * W) w.holders in let s = w.size in omega arith

  until_long : length (u ++ w.gap) ≡ class_head + i * W
  until_long = let l = length-append u w.gap in let a = u_long in let g = gap_long in omega arith

  after_here : flat encode_place (drop i ps) ++ rest ≡ encode_place p ++ v
  after_here =
      ap (λ (l : List Place). flat encode_place l ++ rest) (drop-cons ps i nobody below)
      ∙ ap (λ (l : List ℕ). l ++ rest) (flat_cons p (drop (suc i) ps)) ∙ append_assoc (encode_place p) (flat encode_place (drop (suc i) ps)) rest

  cut : ws ≡ (u ++ w.gap) ++ (encode_place p ++ v)
  cut = w.words ∙ ap (λ (l : List ℕ). u ++ (w.gap ++ l)) after_here ∙ sym (append_assoc u w.gap (encode_place p ++ v))

  module _ (a e : ℕ) (ha : a ≡ class_head + i * W) (he : e ≡ a + W) where
    size : e - a ≡ W
    size = omega arith

    seen : mid_of a (e - a) ws ≡ encode_place p
    seen = rw size (ap (mid_of a W) cut ∙ mid_of_append (u ++ w.gap) (encode_place p) v a W (until_long ∙ sym ha) (place_long c b.pairs p fine))

    sums : Summed p
    sums = record { rise = fine.pairs; small = fine.few }

    pub expire_asks : b.pairs ≤ 512 → Wide (mid_of a (e - a) ws) × (total (pairs_in (mid_of a (e - a) ws)) ≡ get_or (mid_of a (e - a) ws) 2 0)
        × Is encode_place Summed (mid_of a (e - a) ws)
    expire_asks h = (
      rw seen (place_wide c b.pairs p fine h),
      rw seen (ap total (read_flat p.pairs p.past)),
      record { value = p; ok = sums; words = seen },
    )

    -- ---- its pairs before t have gone
    module _ (ys : List ℕ) (left : Left) (x : Turns encode_place Summed (later_place t) (left_of t) (mid_of a (e - a) ws) ys left) where
      abbrev qs : List Pair
      qs = later_pairs t (get_or ps i nobody).pairs

      abbrev q : Place
      q = with_pairs (later_pairs t (get_or ps i nobody).pairs) (get_or ps i nobody)

      turned : (ys ≡ encode_place q) × (left ≡ left_of t p)
      turned = x.does p sums seen

      many : left.pairs ≡ length qs
      many = ap (λ (l : Left). l.pairs) turned.1

      q_long : length (encode_place q) ≡ W
      q_long = fewer_long c b.pairs qs p fine (length_later t p.pairs)

      mid_is : put_mid a (e - a) ws ys ≡ (u ++ w.gap) ++ (encode_place q ++ v)
      mid_is =
          rw size (ap₂ (put_mid a W) cut turned.0 ∙ put_of (u ++ w.gap) (encode_place p) v (encode_place q) a W (until_long ∙ sym ha) (place_long c b.pairs p fine))

      -- none is left: the place goes
      pub goes : left.pairs ≡ 0 → Walk b t (suc i) lead ps rest k (put_mid a (e - a) ws ys)
      goes z =
          let g : later_places t (take (suc i) ps) ≡ kept = later_gone t i ps below (sym many ∙ z) in
          let l = length-append w.gap (encode_place q) in
          let n = q_long in
          let s = w.size in
          let m = suc-mul i W in
          let word : put_mid a (e - a) ws ys ≡ u ++ ((w.gap ++ encode_place q) ++ v) =
          mid_is ∙ append_assoc u w.gap (encode_place q ++ v) ∙ ap (λ (y : List ℕ). u ++ y) (sym (append_assoc w.gap (encode_place q) v)) in
          record {
            gap = w.gap ++ encode_place q;
            left = between_gone W t i ps below w.gap w.left (sym many ∙ z);
            words = rw g word;
            size = rw g (omega arith);
            holders = rw g w.holders;
            entries = rw g w.entries;
            units = rw g w.units;
          }

      -- ---- some are left
      pub with_asks : (place_head ≤ length ys) × (get_or ys 2 0 ≤ most_entries)
      unfolding with_pairs
      with_asks = rw turned.0 (let n = q_long in omega arith, let f = fine.few in let l = total_later t p.pairs in omega arith)

      module _ (j : ℕ) (hj : j ≡ class_head + k.holders * W) (zs : List ℕ)
          (is : zs ≡ drop (a - j) (mid_of j (e - j) (put_mid a (e - a) ws ys))
          ++ drop (length (mid_of j (e - j) (put_mid a (e - a) ws ys)) - (a - j)) (mid_of j (e - j) (put_mid a (e - a) ws ys))) where
        abbrev m : List ℕ
        m = w.gap ++ encode_place (with_pairs (later_pairs t (get_or ps i nobody).pairs) (get_or ps i nobody))

        abbrev stale : List ℕ
        stale =
            drop (length (w.gap ++ encode_place (with_pairs (later_pairs t (get_or ps i nobody).pairs) (get_or ps i nobody))) - (a - j))
            (w.gap ++ encode_place (with_pairs (later_pairs t (get_or ps i nobody).pairs) (get_or ps i nobody)))

        gap_is : length w.gap ≡ a - j
        gap_is = let g = gap_long in omega arith

        m_long : length m ≡ e - j
        m_long = let l = length-append w.gap (encode_place q) in let n = q_long in let g = gap_long in omega arith

        grouped : put_mid a (e - a) ws ys ≡ u ++ (m ++ v)
        grouped = mid_is ∙ append_assoc u w.gap (encode_place q ++ v) ∙ ap (λ (y : List ℕ). u ++ y) (sym (append_assoc w.gap (encode_place q) v))

        lent : mid_of j (e - j) (put_mid a (e - a) ws ys) ≡ m
        lent = ap (mid_of j (e - j)) grouped ∙ mid_of_append u m v j (e - j) (u_long ∙ sym hj) m_long

        moved : zs ≡ encode_place q ++ stale
        moved = is ∙ rw lent (ap (λ (y : List ℕ). y ++ stale) (drop_at w.gap (encode_place q) (a - j) gap_is))

        put_back : put_mid j (e - j) (put_mid a (e - a) ws ys) zs ≡ u ++ ((encode_place q ++ stale) ++ v)
        put_back = ap₂ (put_mid j (e - j)) grouped moved ∙ put_of u m v (encode_place q ++ stale) j (e - j) (u_long ∙ sym hj) m_long

        stale_long : length stale ≡ a - j
        stale_long =
            let d = length-drop (length m - (a - j)) m in
            let n = m_long in
            let g = gap_long in
            omega arith

        -- the words but for the first place of them
        stale_is : stale ≡ drop W m
        stale_is =
            let n : length m - (a - j) ≡ W = let l = m_long in let g = gap_long in omega arith in
            rw n

        flat_more : flat encode_place (kept ++ q ∷ []) ≡ flat encode_place kept ++ encode_place q
        unfolding flat
        flat_more = flat_append encode_place kept (q ∷ []) ∙ ap (λ (y : List ℕ). flat encode_place kept ++ y) (append-nil (encode_place q))

        more_words : put_mid j (e - j) (put_mid a (e - a) ws ys) zs ≡ (lead ++ flat encode_place (kept ++ q ∷ [])) ++ (stale ++ v)
        more_words =
            put_back ∙ ap (λ (y : List ℕ). u ++ y) (append_assoc (encode_place q) stale v) ∙ sym (append_assoc u (encode_place q) (stale ++ v))
            ∙ ap (λ (y : List ℕ). y ++ (stale ++ v)) (append_assoc lead (flat encode_place kept) (encode_place q) ∙ ap (λ (y : List ℕ). lead ++ y) (sym flat_more))

        more_length : length (kept ++ q ∷ []) ≡ suc (length kept)
        more_length = length-append kept (q ∷ []) ∙ add-one (length kept)

        more_entries : entries_in (kept ++ q ∷ []) ≡ entries_in kept + total qs
        unfolding entries_in with_pairs
        more_entries = let l = entries_append kept (q ∷ []) in omega arith

        more_units : units b (kept ++ q ∷ []) ≡ units b kept + total qs + place_units b p.who
        unfolding units with_pairs
        more_units = let l = units_append b kept (q ∷ []) in omega arith

        module _ (r : Sums) (hr : r ≡ with_place b (read_who c (get_or ys 0 0) (get_or ys 1 0)) (get_or ys 2 0) k) where
          counted : r ≡ record { entries = k.entries + total qs; holders = k.holders + 1; units = k.units + total qs + place_units b p.who }
          unfolding with_pairs
          counted = hr ∙ rw turned.0 (rw (named_back c p.who p.mark fine.class).1)

          pub stays : (left.pairs ≡ 0 → ⊥) → Walk b t (suc i) lead ps rest r (put_mid j (e - j) (put_mid a (e - a) ws ys) zs)
          stays some =
              let g : later_places t (take (suc i) ps) ≡ kept ++ q ∷ [] = later_here t i ps below (λ z. some (many ∙ z)) in
              let l = more_length in
              let n = more_entries in
              let o = more_units in
              let d = stale_long in
              let h = gap_long in
              let y = w.holders in
              let z = w.entries in
              let f = w.units in
              let s1 = suc-mul i W in
              let s2 : length (kept ++ q ∷ []) * W ≡ k.holders * W + W = ap (λ (x : ℕ). x * W) (l ∙ ap suc (sym y)) ∙ suc-mul k.holders W in
              rw counted (record {
                gap = stale;
                left = stale_is ∙ between_here W t i ps below w.gap w.left (λ z. some (many ∙ z));
                words = rw g more_words;
                size = rw g (omega arith);
                holders = rw g (omega arith);
                entries = rw g (omega arith);
                units = rw g (omega arith);
              })

-- ---- the same as contracts: what the calls ask, and what is left
module _ (b : Shares) (c : Class) (t i : ℕ) (k : Sums) (ws : List ℕ) (a e : ℕ) (ha : a ≡ class_head + i * place_width b.pairs) (he : e ≡ a + place_width b.pairs) where
  pub asks_expire : Standing b c t i k ws → Wide (mid_of a (e - a) ws) × (total (pairs_in (mid_of a (e - a) ws)) ≡ get_or (mid_of a (e - a) ws) 2 0)
      × Is encode_place Summed (mid_of a (e - a) ws)
  asks_expire s = expire_asks b c t i s.lead s.ps s.rest k ws s.totals s.ok s.below s.walk a e ha he s.pairs

  module _ (ys : List ℕ) (left : Left) (x : Turns encode_place Summed (later_place t) (left_of t) (mid_of a (e - a) ws) ys left) where
    pub asks_with : Standing b c t i k ws
        → (place_head ≤ length ys) × (get_or ys 2 0 ≤ most_entries)
    asks_with s = with_asks b c t i s.lead s.ps s.rest k ws s.totals s.ok s.below s.walk a e ha he ys left x

    pub place_goes : left.pairs ≡ 0 → Steps b c t i k ws (put_mid a (e - a) ws ys) k
    place_goes z = record { does = λ lead ps rest totals ok below w. goes b c t i lead ps rest k ws totals ok below w a e ha he ys left x z }

    pub place_stays : (left.pairs ≡ 0 → ⊥) → (j : ℕ) → j ≡ class_head + k.holders * place_width b.pairs → (zs : List ℕ)
        → zs ≡ copy_within (mid_of j (e - j) (put_mid a (e - a) ws ys)) (a - j) (length (mid_of j (e - j) (put_mid a (e - a) ws ys))) 0
        → (r : Sums) → r ≡ with_place b (read_who c (get_or ys 0 0) (get_or ys 1 0)) (get_or ys 2 0) k
        → Steps b c t i k ws (put_mid j (e - j) (put_mid a (e - a) ws ys) zs) r
    place_stays some j hj zs is r hr = record {
      does = λ lead ps rest totals ok below w. stays b c t i lead ps rest k ws totals ok below w a e ha he ys left x j hj
          zs (is ∙ moved_down (mid_of j (e - j) (put_mid a (e - a) ws ys)) (a - j)) r hr some;
    }
