-- A draw given back: the class's words after it are those of the model's `give_back`.
use Prim.Native.Nat.{ℕ, zero, suc, ◌+◌, ◌-◌, ◌*◌, ◌<◌, ◌≤◌}
use native.Mathlib.Nat.{suc-mul, mul-le-mul_right, add-mul, add_comm}
use native.Mathlib.Omega.{arith}
use mathlib.Core.Path.{◌≡◌, refl, ap, ap₂, sym, subst, ◌∙◌}
use mathlib.Core.Bool.{true, false}
use mathlib.Core.List.{List, [], ◌∷◌, ◌++◌, append_assoc}
use Rattle.std.proofs.Common.{Option, Ok, Err}
use lib.ListN.{length, get_or, take, drop, replicate, length-append, replicate-append-replicate}
use lib.Seq.{drop_at}
use lib.Dec.{eqb, ltb}
use borrow.Author.Tests.{eqb-true, eqb-false, ltb-true, ltb-false}
use borrow.Rule.Slice.PartMut.{mid_of, put_mid}
use Rattle.model.specs.declared.Deliverer.{Deliverer}
use Rattle.model.specs.declared.Shares.{Shares}
use Rattle.runs.specs.Chunks.{flat}
use Rattle.runs.specs.Combine.{enc_up}
use Rattle.runs.specs.Turns.{Is, Turns}
use Rattle.runs.proofs.Cases.{by_test}
use Rattle.runs.proofs.Chunks.{flat_append}
use Rattle.model.specs.Widths.{class_head, place_width}
use Rattle.model.specs.Class.{class_of, same_deliverer}
use Rattle.model.specs.Book.{Pair, Place, total, entries, place_units, entries_in, units, pairs_of, listed, with_pairs, lower_pair, keep_place, give_back}
use Rattle.model.specs.BookWords.{pairs_sound, encode_place, PlaceOk, place_form, class_form}
use Rattle.model.proofs.Pairs.{total_some, total_lower, lower_sound}
use Rattle.model.proofs.Places.{holds_some, same_is}
use Rattle.book.specs.declared.Spot.{Spot}
use Rattle.book.specs.declared.totals.Totals.{Totals}
use Rattle.book.specs.Sums.{totals_in, totals_of, untaken, CanUntake}
use Rattle.pairs.specs.Pairs.{before, second_at, count_at, lower_at, remove_at}
use Rattle.book.specs.PlaceRules.{pairs_in, Wide, Has, Single, lowered_place, shorter_place}
use Rattle.book.specs.ClassRules.{ClassIs, ClassReads, ClassTurns, place_index, spot_of, Found, Listed, BodyTurns, returned}
use Rattle.runs.proofs.Shifts.{mid_of_append, put_of}
use Rattle.pairs.proofs.PairLists.{second_below, lower_many, lower_last, lower_none, listed_at}
use Rattle.book.proofs.ClassWords.{nobody, turns_one, flat_long, up_flat, few, cut, back_ok, holders_are, totals_are, words_cut, lead, lead_long, rest, here_ok}
use Rattle.book.proofs.ClassWords.{seen_here, put_here, front_long, place_long}
use Rattle.book.proofs.ClassLists.{index_same, entries_at, pairs_at, pairs_none, back_at, back_none, entries_append, units_append}
use Rattle.book.proofs.Spots.{at_index, at_entries, at_listed, at_unlisted, has_one}
use Rattle.book.proofs.Finding.{place_if, place_few, place_one, place_wide}
use Rattle.book.proofs.Entering.{body_one, same_many, class_words, count_in, count_some, second_is, found_of}

-- ---- what is left of a place's pairs
gone_pairs : (qs : List Pair) → pairs_sound 0 qs ≡ true → total qs ≡ 0 → qs ≡ []
gone_pairs [] t e = refl
gone_pairs (q ∷ qs) t e = absurd (let k = total_some 0 (q ∷ qs) t (omega arith) in omega arith)

pub keep_some : (qs : List Pair) (p : Place) (ps : List Place) → 1 ≤ total qs → keep_place qs p ps ≡ with_pairs qs p ∷ ps
unfolding keep_place total
keep_some [] p ps h = absurd (omega arith)
keep_some (q ∷ qs) p ps h = refl

pub keep_none : (qs : List Pair) (p : Place) (ps : List Place) → qs ≡ [] → keep_place qs p ps ≡ ps
unfolding keep_place
keep_none qs p ps e = rw e

with_same : (p : Place) → with_pairs p.pairs p ≡ p
unfolding with_pairs
with_same p =
    let a : 2 * (length p.pairs - length p.pairs) ≡ 0 = omega arith in
    let e : replicate (2 * (length p.pairs - length p.pairs)) 0 ++ drop (2 * (length p.pairs - length p.pairs)) p.past ≡ p.past = rw a in
    λ i. record { who = p.who; mark = p.mark; pairs = p.pairs; past = e i }

absurd_listed : (s : ℕ) → listed s [] ≡ true → ◌≡◌ {A = ℕ} 0 1
unfolding listed
absurd_listed s e = cc

positive : (n : ℕ) → (n ≡ 0 → ⊥) → 1 ≤ n
positive zero h = absurd (h refl)
positive (suc n) h = omega arith

above : (n : ℕ) → 1 ≤ n → (n ≡ 1 → ⊥) → 1 < n
above zero h k = absurd (omega arith)
above (suc zero) h k = absurd (k refl)
above (suc (suc n)) h k = omega arith

module _ (b : Shares) (who : Deliverer) (ws : List ℕ) (spot : Spot) (f : Found b who ws spot) where
  abbrev xs : List Place
  xs = f.class.is.value.places

  -- ---- the second is not listed
  pub back_unlisted : (nth : ℕ) → spot.seen.pair ≡ Err nth → give_back who spot.second xs ≡ xs
  back_unlisted nth no-entry =
      let i = at_index b who ws spot f in
      let h : listed spot.second (pairs_of who xs) ≡ false = (at_unlisted b who ws spot f nth no-entry).0 in
      by_test (ltb spot.place (length xs))
      (λ t.
      let k = ltb-true spot.place (length xs) t in
      let p = get_or xs spot.place nobody in
      let q : pairs_of who xs ≡ p.pairs = rw (← i) at (pairs_at who spot.second xs (omega arith)) in
      let n : lower_pair spot.second p.pairs ≡ p.pairs = lower_none spot.second p.pairs (rw q at h) in
      let ok = here_ok b (class_of who) ws f.class spot.place k in
      let g = keep_some p.pairs p (drop (suc spot.place) xs) (holds_some (class_of who) b.pairs p ok) in
      back_at who spot.second xs spot.place (sym i) k ∙ rw (n, g, with_same p) (sym (cut b (class_of who) ws f.class spot.place k)))
      (λ e. back_none who spot.second xs (let k = ltb-false spot.place (length xs) e in omega arith))

  -- ---- the second is listed
  module _ (nth : ℕ) (yes : spot.seen.pair ≡ Ok nth) where
    pub some_held : spot.seen.entries ≡ 0 → ⊥
    some_held z =
        let i = at_index b who ws spot f in
        let n = at_entries b who ws spot f in
        by_test (ltb (place_index who xs) (length xs))
        (λ t.
        let k = ltb-true (place_index who xs) (length xs) t in
        let e = entries_at who spot.second xs k in
        let g = holds_some (class_of who) b.pairs (get_or xs (place_index who xs) nobody) (here_ok b (class_of who) ws f.class (place_index who xs) k) in
        omega arith)
        (λ e.
        let q = pairs_none who spot.second xs (ltb-false (place_index who xs) (length xs) e) in
        let u : listed spot.second [] ≡ true = rw q at (at_listed b who ws spot f nth yes).0 in
        let o : ◌≡◌ {A = ℕ} 0 1 = absurd_listed spot.second u in
        omega arith)

    abbrev now : Place
    now = get_or f.class.is.value.places spot.place nobody

    abbrev front : List Place
    front = take spot.place f.class.is.value.places

    abbrev back : List Place
    back = drop (suc spot.place) f.class.is.value.places

    at_one : spot.place < length xs
    at_one = has_one b who ws spot f some_held

    fine : PlaceOk (class_of who) b.pairs now
    fine = here_ok b (class_of who) ws f.class spot.place at_one

    pairs_now : pairs_of who xs ≡ now.pairs
    pairs_now = let i = at_index b who ws spot f in let l = at_one in rw (← i) at (pairs_at who spot.second xs (omega arith))

    entries_now : spot.seen.entries ≡ entries now
    entries_now =
        let i = at_index b who ws spot f in
        let l = at_one in
        at_entries b who ws spot f ∙ (rw (← i) at (entries_at who spot.second xs (omega arith)))

    before_now : nth ≡ before spot.second now.pairs
    before_now = (at_listed b who ws spot f nth yes).1 ∙ ap (before spot.second) pairs_now

    listed_now : listed spot.second now.pairs ≡ true
    listed_now = rw pairs_now at (at_listed b who ws spot f nth yes).0

    hit_now : second_at spot.second nth now.pairs ≡ true
    hit_now = rw before_now (sym (listed_at 0 spot.second now.pairs fine.pairs) ∙ listed_now)

    there : nth < length now.pairs
    there = second_below spot.second nth now.pairs hit_now

    abbrev left : List Pair
    left = lower_pair spot.second (get_or f.class.is.value.places spot.place nobody).pairs

    one_less : suc (total left) ≡ entries now
    one_less = total_lower 0 spot.second now.pairs fine.pairs listed_now

    back_is : give_back who spot.second xs ≡ front ++ keep_place left now back
    back_is = back_at who spot.second xs spot.place (sym (at_index b who ws spot f)) at_one

    whose : who ≡ now.who
    whose =
        let i = at_index b who ws spot f in
        let l = at_one in
        let s : same_deliverer who now.who ≡ true = rw (← i) at (index_same who spot.second xs (omega arith)) in
        same_is who now.who s

    -- sums of the places, cut at this one
    entries_cut : entries_in xs ≡ entries_in front + (entries now + entries_in back)
    unfolding entries_in
    entries_cut = ap entries_in (cut b (class_of who) ws f.class spot.place at_one) ∙ entries_append front (now ∷ back)

    units_cut : units b xs ≡ units b front + (entries now + place_units b now.who + units b back)
    unfolding units
    units_cut = ap (units b) (cut b (class_of who) ws f.class spot.place at_one) ∙ units_append b front (now ∷ back)

    length_cut : length xs ≡ length front + suc (length back)
    length_cut = ap length (cut b (class_of who) ws f.class spot.place at_one) ∙ length-append front (now ∷ back)

    -- ---- the place goes
    module _ (last : spot.seen.entries ≡ 1) where
      none_left : left ≡ []
      none_left = gone_pairs left (lower_sound 0 spot.second now.pairs fine.pairs) (let o = one_less in let e = entries_now in omega arith)

      pub back_shorter : give_back who spot.second xs ≡ front ++ back
      back_shorter = back_is ∙ ap (λ (z : List Place). front ++ z) (keep_none left now back none_left)

      module _ (a e : ℕ) (ha : a ≡ class_head + spot.place * place_width b.pairs) (he : e ≡ class_head + get_or ws 1 0 * place_width b.pairs) where
        pub closes : (ys : List ℕ) → ys ≡ drop (place_width b.pairs) (mid_of a (e - a) ws) ++ replicate (place_width b.pairs) 0
            → BodyTurns b (class_of who) (give_back who spot.second) ws (put_mid a (e - a) ws ys)
        closes ys is =
            let c = class_of who in
            let w = f.class in
            let W = place_width b.pairs in
            let i = spot.place in
            let u = lead b c ws w i at_one in
            let v = encode_place now ++ flat encode_place back in
            let z = rest b c ws w in
            let lu : length u ≡ a = lead_long b c ws w i at_one ∙ sym ha in
            let lp = place_long c b.pairs now fine in
            let lb : length (flat encode_place back) ≡ length back * W = flat_long c b.pairs 0 back (back_ok b c ws w i at_one) in
            let n : get_or ws 1 0 ≡ length xs = holders_are b c ws w in
            let m : length xs ≡ i + suc (length back) = rw (front_long b c ws w i at_one) at length_cut in
            let k : get_or ws 1 0 * W ≡ i * W + (W + length back * W) = ap (λ (y : ℕ). y * W) (n ∙ m) ∙ add-mul i (suc (length back)) W ∙ ap (λ (y : ℕ). i * W + y)
            (suc-mul (length back) W ∙ add_comm (length back * W) W) in
            let lv : length v ≡ e - a = length-append (encode_place now) (flat encode_place back) ∙ omega arith in
            let x : ws ≡ u ++ (v ++ z) = words_cut b c ws w i at_one ∙ ap (λ (y : List ℕ). u ++ y) (sym (append_assoc (encode_place now) (flat encode_place back) z)) in
            let s : mid_of a (e - a) ws ≡ v = ap (mid_of a (e - a)) x ∙ mid_of_append u v z a (e - a) lu lv in
            let y : ys ≡ flat encode_place back ++ replicate W 0 = is ∙ rw s (ap (λ (q : List ℕ). q ++ replicate W 0) (drop_at (encode_place now) (flat encode_place back) W lp)) in
            let p : put_mid a (e - a) ws ys ≡ u ++ ((flat encode_place back ++ replicate W 0) ++ z) = ap₂ (put_mid a (e - a)) x y ∙ put_of u v z
            (flat encode_place back ++ replicate W 0) a (e - a) lu lv in
            let few_now = few b c ws w in
            let fl = front_long b c ws w i at_one in
            let j : length (front ++ back) ≡ length front + length back = length-append front back in
            let o : b.places - length (front ++ back) ≡ suc (b.places - length xs) = omega arith in
            let r : replicate ((b.places - length (front ++ back)) * W) 0 ≡ replicate W 0 ++ z =
            ap (λ (q : ℕ). replicate q 0) (ap (λ (q : ℕ). q * W) o ∙ suc-mul (b.places - length xs) W ∙ add_comm ((b.places - length xs) * W) W) ∙ sym
            (replicate-append-replicate W ((b.places - length xs) * W) 0) in
            let g : flat encode_place (front ++ back) ++ replicate ((b.places - length (front ++ back)) * W) 0 ≡ flat encode_place front ++ ((flat encode_place back ++ replicate W 0) ++ z) =
            rw (r, flat_append encode_place front back, append_assoc, append_assoc) in
            body_one b c ws w a (e - a) (i * W) ys ha (give_back who spot.second)
            (ap (drop class_head) p ∙ sym g ∙ sym (up_flat c b.pairs b.places (front ++ back) (omega arith)) ∙ ap (enc_up (place_form c b.pairs) b.places) (sym back_shorter))

    -- ---- the place stays
    module _ (more : spot.seen.entries ≡ 1 → ⊥) where
      stays : 1 ≤ total left
      stays = positive (total left) (λ z. more (entries_now ∙ sym one_less ∙ ap suc z))

      pub back_same : give_back who spot.second xs ≡ front ++ with_pairs left now ∷ back
      back_same = back_is ∙ ap (λ (z : List Place). front ++ z) (keep_some left now back stays)

      module _ (a e : ℕ) (ha : a ≡ class_head + spot.place * place_width b.pairs) (he : e ≡ a + place_width b.pairs) where
        seen : mid_of a (e - a) ws ≡ encode_place now
        seen = seen_here b (class_of who) ws f.class spot.place at_one a e ha he

        wide_now : Wide (mid_of a (e - a) ws)
        wide_now = rw seen (place_wide (class_of who) b.pairs now fine f.class.pairs)

        below_now : nth < get_or (mid_of a (e - a) ws) 3 0
        below_now = rw seen there

        some_entries : 1 ≤ get_or (mid_of a (e - a) ws) 2 0
        some_entries = rw seen (holds_some (class_of who) b.pairs now fine)

        count_now : count_at nth (pairs_in (mid_of a (e - a) ws)) ≡ count_at nth now.pairs
        count_now = rw seen (count_in now nth)

        pub count_asks : Wide (mid_of a (e - a) ws) × (nth < get_or (mid_of a (e - a) ws) 3 0)
        count_asks = (wide_now, below_now)

        has_now : Has nth now
        has_now = record { there = there; some = count_some 0 nth now.pairs fine.pairs there }

        pub lower_asks : Wide (mid_of a (e - a) ws) × (nth < get_or (mid_of a (e - a) ws) 3 0)
            × (1 ≤ count_at nth (pairs_in (mid_of a (e - a) ws))) × (1 ≤ get_or (mid_of a (e - a) ws) 2 0)
            × Is encode_place (Has nth) (mid_of a (e - a) ws)
        lower_asks = (wide_now, below_now, rw count_now has_now.some, some_entries, record { value = now; ok = has_now; words = seen })

        returns_here : (q : Place) (ys : List ℕ) → ys ≡ encode_place q → q ≡ with_pairs left now
            → BodyTurns b (class_of who) (give_back who spot.second) ws (put_mid a (e - a) ws ys)
        returns_here q ys is same =
            let i = spot.place in
            let l = at_one in
            let p = put_here b (class_of who) ws f.class i l a e ha he q ys is in
            let n : length (front ++ q ∷ back) ≡ length xs = length-append front (q ∷ back) ∙ sym length_cut in
            let x : front ++ q ∷ back ≡ give_back who spot.second xs = ap (λ (z : Place). front ++ z ∷ back) same ∙ sym back_same in
            body_one b (class_of who) ws f.class a (e - a) (i * place_width b.pairs) ys ha (give_back who spot.second)
            (p ∙ same_many b (class_of who) (length xs) (front ++ q ∷ back) n (few b (class_of who) ws f.class) ∙ ap (enc_up (place_form (class_of who) b.pairs) b.places) x)

        hit_before : second_at spot.second (before spot.second now.pairs) now.pairs ≡ true
        hit_before = rw (← before_now) hit_now

        module _ (n : ℕ) (hn : n ≡ count_at nth (pairs_in (mid_of a (e - a) ws))) where
          single_now : n ≡ 1 → Single nth now
          single_now one = record { there = there; one = sym count_now ∙ sym hn ∙ one }

          pub remove_asks : n ≡ 1 → Wide (mid_of a (e - a) ws) × (nth < get_or (mid_of a (e - a) ws) 3 0) × (1 ≤ get_or (mid_of a (e - a) ws) 2 0)
              × Is encode_place (Single nth) (mid_of a (e - a) ws)
          remove_asks one = (wide_now, below_now, some_entries, record { value = now; ok = single_now one; words = seen })

          pub returns_single : n ≡ 1 → (ys : List ℕ) → Turns encode_place (Single nth) (shorter_place nth) (λ p. tt {0}) (mid_of a (e - a) ws) ys (tt {0})
              → BodyTurns b (class_of who) (give_back who spot.second) ws (put_mid a (e - a) ws ys)
          returns_single one ys t =
              let c = (single_now one).one in
              let y = t.does now (single_now one) seen in
              let d : count_at (before spot.second now.pairs) now.pairs ≤ 1 = rw (← before_now) (omega arith) in
              let q : left ≡ remove_at nth 1 now.pairs = lower_last spot.second now.pairs hit_before d ∙ rw before_now in
              returns_here (shorter_place nth now) ys y.0 (ap (λ (z : List Pair). with_pairs z now) (sym q))

          pub returns_lower : (n ≡ 1 → ⊥) → (ys : List ℕ) → Turns encode_place (Has nth) (lowered_place nth) (λ p. tt {0}) (mid_of a (e - a) ws) ys (tt {0})
              → BodyTurns b (class_of who) (give_back who spot.second) ws (put_mid a (e - a) ws ys)
          returns_lower many ys t =
              let s = has_now.some in
              let y = t.does now has_now seen in
              let c : n ≡ count_at nth now.pairs = hn ∙ count_now in
              let g : 1 < count_at nth now.pairs = rw (← c) (above n (rw (← c) at s) many) in
              let d : 1 < count_at (before spot.second now.pairs) now.pairs = rw (← before_now) g in
              let q : left ≡ lower_at nth now.pairs = lower_many spot.second now.pairs hit_before d ∙ rw before_now in
              returns_here (lowered_place nth now) ys y.0 (ap (λ (z : List Pair). with_pairs z now) (sym q))

    -- ---- the totals
    pub untake_asks : (closed : Option ℕ) (t : Totals) → closed ≡ place_if (eqb spot.seen.entries 1) b who → t ≡ totals_in ws → CanUntake t closed
    untake_asks closed t hc ht =
        let s = holds_some (class_of who) b.pairs now fine in
        let e = entries_cut in
        let u = units_cut in
        let n = length_cut in
        let g = place_one (eqb spot.seen.entries 1) b who in
        let h = place_few (eqb spot.seen.entries 1) b who in
        let v : place_units b who ≡ place_units b now.who = ap (place_units b) whose in
        rw (hc, ht ∙ totals_are b (class_of who) ws f.class) (omega arith, omega arith, omega arith)

    pub untaken_are : untaken (totals_of b f.class.is.value) (place_if (eqb spot.seen.entries 1) b who) ≡ totals_of b (returned who spot.second f.class.is.value)
    unfolding entries_in units with_pairs
    untaken_are =
        let e = entries_cut in
        let u = units_cut in
        let n = length_cut in
        let o = one_less in
        let en = entries_now in
        let v : place_units b who ≡ place_units b now.who = ap (place_units b) whose in
        by_test (eqb spot.seen.entries 1)
        (λ t.
        let one = eqb-true spot.seen.entries 1 t in
        let k = back_shorter one in
        let x : entries_in xs - 1 ≡ entries_in (front ++ back) = rw entries_append (omega arith) in
        let y : length xs - 1 ≡ length (front ++ back) = rw length-append (omega arith) in
        let z : units b xs - 1 - place_units b who ≡ units b (front ++ back) = rw units_append (omega arith) in
        rw (k, t) (λ i. record { entries = x i; holders = y i; units = z i; expired = f.class.is.value.expired }))
        (λ t.
        let k = back_same (eqb-false spot.seen.entries 1 t) in
        let x : entries_in xs - 1 ≡ entries_in (front ++ with_pairs left now ∷ back) = rw entries_append (omega arith) in
        let y : length xs - 0 ≡ length (front ++ with_pairs left now ∷ back) = rw length-append (omega arith) in
        let z : units b xs - 1 - 0 ≡ units b (front ++ with_pairs left now ∷ back) = rw units_append (omega arith) in
        rw (k, t) (λ i. record { entries = x i; holders = y i; units = z i; expired = f.class.is.value.expired }))

-- ---- untake
module _ (b : Shares) (who : Deliverer) (s : ℕ) (ws : List ℕ) (w : ClassIs b (class_of who) ws) (spot : Spot)
    (r : ClassReads b (class_of who) (λ h. spot_of who s h.places) ws spot) where
  unfoldable pub found : Found b who ws spot
  found = found_of b who s ws w spot r

  pub untakes_none : (nth : ℕ) → spot.seen.pair ≡ Err nth → ClassTurns b (class_of who) (returned who s) (λ h. tt {0}) ws ws (tt {0})
  unfolding found_of found
  untakes_none nth e =
      let k : give_back who s w.is.value.places ≡ w.is.value.places = subst (λ (z : ℕ). give_back who z w.is.value.places ≡ w.is.value.places)
      (second_is b who s ws w spot r) (back_unlisted b who ws spot found nth e) in
      turns_one b (class_of who) ws w.is (rw k w.is.words) refl

  module _ (nth : ℕ) (yes : spot.seen.pair ≡ Ok nth) where
    pub listed_of : Listed b who ws spot nth
    unfolding found_of found
    listed_of =
        let k = holders_are b (class_of who) ws w in
        let l = has_one b who ws spot found (some_held b who ws spot found nth yes) in
        let at : suc spot.place ≤ get_or ws 1 0 = omega arith in
        let m = mul-le-mul_right (place_width b.pairs) at in
        let n = suc-mul spot.place (place_width b.pairs) in
        let u = w.used in
        record { found = found; yes = yes; within = omega arith; before_end = omega arith }

    pub untakes : (mid : List ℕ) (closed : Option ℕ) (t₀ t : Totals) → closed ≡ place_if (eqb spot.seen.entries 1) b who
        → t₀ ≡ totals_in ws → t ≡ untaken t₀ closed → BodyTurns b (class_of who) (give_back who spot.second) ws mid
        → ClassTurns b (class_of who) (returned who s) (λ h. tt {0}) ws (t.entries ∷ t.holders ∷ t.units ∷ t.expired ∷ drop class_head mid) (tt {0})
    unfolding found_of found
    untakes mid closed t₀ t hc h₀ ht body =
        let h = w.is.value in
        let x : t ≡ totals_of b (returned who spot.second h) = ht ∙ rw (hc, h₀ ∙ totals_are b (class_of who) ws w) (untaken_are b who ws spot found nth yes) in
        let e = second_is b who s ws w spot r in
        let y : t.entries ∷ t.holders ∷ t.units ∷ t.expired ∷ drop class_head mid ≡ (class_form b (class_of who)).enc (returned who spot.second h) =
        class_words b (class_of who) (returned who spot.second h) t (drop class_head mid) x (body.does h w.is.ok w.is.words) in
        turns_one b (class_of who) ws w.is (y ∙ ap (λ (z : ℕ). (class_form b (class_of who)).enc (returned who z h)) e) refl
