-- A draw that enters: the class's words after it are those of the model's `enter`.
use Prim.Native.Nat.{ℕ, zero, suc, ◌+◌, ◌-◌, ◌*◌, ◌<◌, ◌≤◌}
use native.Mathlib.Nat.{suc-mul, mul-le-mul_right}
use native.Mathlib.Omega.{arith}
use mathlib.Core.Path.{◌≡◌, refl, ap, sym, subst, ◌∙◌}
use mathlib.Core.Bool.{Bool, true, false, not, ◌||◌}
use mathlib.Core.List.{List, [], ◌∷◌, ◌++◌, append_assoc}
use Rattle.std.proofs.Common.{Option, Some, None, Ok, Err}
use lib.ListN.{length, get_or, take, drop, replicate, length-append, length-drop, length-replicate, replicate-append-replicate}
use lib.Seq.{length-take-le}
use lib.Dec.{eqb, leb, ltb}
use borrow.Author.Tests.{eq-eqb, leb-true, leb-false, ltb-true, ltb-false}
use borrow.Rule.Slice.PartMut.{mid_of, put_mid}
use Rattle.model.specs.declared.Class.{Class}
use Rattle.model.specs.declared.Deliverer.{Deliverer}
use Rattle.model.specs.declared.Draw.{Draw}
use Rattle.model.specs.declared.Draw.TheVariants.{Granted}
use Rattle.model.specs.declared.Shares.{Shares}
use Rattle.model.specs.declared.Limits.{Limits}
use Rattle.runs.specs.Chunks.{flat}
use Rattle.runs.specs.Combine.{enc_up}
use Rattle.runs.specs.Turns.{Is, Turns}
use Rattle.runs.proofs.Cases.{by_test}
use Rattle.runs.proofs.Chunks.{flat_append}
use Rattle.runs.proofs.Firsts.{firsts_are}
use Rattle.runs.proofs.Words.{drop_zeros}
use Rattle.model.specs.Widths.{class_head, place_width}
use Rattle.model.specs.Class.{class_of}
use Rattle.model.specs.Book.{Pair, Place, Held, total, entries, entries_in, units, entries_of, pairs_of, listed, place_free, pair_free, draw_test, granted}
use Rattle.model.specs.Book.{with_pairs, add_pair, new_place, enter}
use Rattle.model.specs.BookWords.{most_entries, pairs_sound, encode_place, place_form, class_form}
use Rattle.model.proofs.BookKept.{granted_is}
use Rattle.model.proofs.BookWords.{read_flat}
use Rattle.model.proofs.Pairs.{rising}
use Rattle.model.proofs.Places.{PlacesOk, holds_some, entries_enter, units_enter, length_enter, grants, Grants}
use Rattle.book.specs.declared.Spot.{Spot}
use Rattle.book.specs.declared.totals.Totals.{Totals}
use Rattle.book.specs.Sums.{places_in, units_in, totals_in, totals_of, taken}
use Rattle.pairs.specs.Pairs.{before, second_at, count_at, raise_at, insert_at}
use Rattle.book.specs.PlaceRules.{pairs_in, Wide, Has, Fits, raised_place, longer_place, headed, opened_words}
use Rattle.book.specs.ClassRules.{ClassIs, ClassReads, ClassTurns, place_of, place_index, spot_of, Found, Roomy, BodyTurns, entered, drawn_class}
use Rattle.runs.proofs.Shifts.{mid_of_append, put_of}
use Rattle.pairs.proofs.PairLists.{before_le, second_below, add_listed, add_new}
use Rattle.book.proofs.ClassWords.{nobody, only, reads_one, turns_one, flat_cons, flat_long, up_flat, each_ok, few, holders_are, totals_are, words_are, here_ok, put_here, place_long}
use Rattle.book.proofs.ClassLists.{index_le, entries_none, entries_at, enter_at, enter_none}
use Rattle.book.proofs.Spots.{at_index, at_entries, at_listed, at_unlisted, has_one, here_fine, here_seen, here_pairs, listed_here, before_here, wide}
use Rattle.book.proofs.Finding.{place_if, holders_sum, units_sum, entries_le, nowhere, in_use, index_is, word_of}

-- a draw that is not granted, as the rules say it
pub not_granted : (d : Draw) → (d ≡ Granted → ⊥) → granted d ≡ false
not_granted d n = by_test (granted d) (λ t. absurd (n (granted_is d t))) (λ f. f)

-- ---- contracts on the places alone
-- a part put back behind four words leaves these, so a part of the places leaves the totals
behind_four : (x y z v : ℕ) (l ys : List ℕ) (n k : ℕ) → take 4 (put_mid (suc (suc (suc (suc n)))) k (x ∷ y ∷ z ∷ v ∷ l) ys) ≡ x ∷ y ∷ z ∷ v ∷ []
behind_four x y z v l ys n k = refl

totals_stay : (ws : List ℕ) (a k n : ℕ) (ys : List ℕ) → a ≡ class_head + n → class_head ≤ length ws → take class_head (put_mid a k ws ys) ≡ take class_head ws
totals_stay ws a k n ys ha long =
    let e = firsts_are class_head 0 ws long in
    let s : a ≡ suc (suc (suc (suc n))) = omega arith in
    let four = behind_four (get_or ws 0 0) (get_or ws 1 0) (get_or ws 2 0) (get_or ws 3 0) (drop class_head ws) ys n k in
    rw s (ap (λ (l : List ℕ). take class_head (put_mid (suc (suc (suc (suc n)))) k l ys)) e ∙ four ∙ sym (ap (take class_head) e))

pub body_one : (b : Shares) (c : Class) (ws : List ℕ) (w : ClassIs b c ws) (a k n : ℕ) (ys : List ℕ) → a ≡ class_head + n
    → (f : List Place → List Place) → drop class_head (put_mid a k ws ys) ≡ enc_up (place_form c b.pairs) b.places (f w.is.value.places)
    → BodyTurns b c f ws (put_mid a k ws ys)
body_one b c ws w a k n ys ha f e = record {
  totals = let l = w.long in totals_stay ws a k n ys ha (omega arith);
  does = λ h ok is. e ∙ ap (λ (x : Held). enc_up (place_form c b.pairs) b.places (f x.places)) (sym (only b c ws w.is h ok is));
}

-- the words of other places, as many as before
pub same_many : (b : Shares) (c : Class) (n : ℕ) (xs : List Place) → length xs ≡ n → n ≤ b.places
    → flat encode_place xs ++ replicate ((b.places - n) * place_width b.pairs) 0 ≡ enc_up (place_form c b.pairs) b.places xs
same_many b c n xs e h = rw (← e) (sym (up_flat c b.pairs b.places xs (omega arith)))

-- ---- the totals, then the places
pub class_words : (b : Shares) (c : Class) (h : Held) (t : Totals) (body : List ℕ) → t ≡ totals_of b h
    → body ≡ enc_up (place_form c b.pairs) b.places h.places
    → t.entries ∷ t.holders ∷ t.units ∷ t.expired ∷ body ≡ (class_form b c).enc h
class_words b c h t body e f = rw (e, f)

-- ---- a count is at most the sum
pub count_most : (k : ℕ) (qs : List Pair) → count_at k qs ≤ total qs
unfolding count_at total
count_most k [] = omega arith
count_most zero (q ∷ qs) = omega arith
count_most (suc k) (q ∷ qs) = omega (arith, count_most k qs)

-- the count of pair k in a place's words
pub count_in : (p : Place) (k : ℕ) → count_at k (pairs_in (encode_place p)) ≡ count_at k p.pairs
count_in p k = ap (count_at k) (read_flat p.pairs p.past)

new_words : (b : Shares) (who : Deliverer) (s : ℕ)
    → ◌≡◌ {A = List ℕ} (headed who (s ∷ 1 ∷ replicate (2 * b.pairs - 2) 0)) (encode_place (new_place b who s))
unfolding total flat
new_words b who s = refl

nothing_more : (xs : List Place) (p : Place) (left : List ℕ)
    → flat encode_place xs ++ (encode_place p ++ (flat encode_place [] ++ left)) ≡ flat encode_place xs ++ (encode_place p ++ left)
unfolding flat
nothing_more xs p left = refl

-- counts are at least 1 where pairs are sound
pub count_some : (least k : ℕ) (qs : List Pair) → pairs_sound least qs ≡ true → k < length qs → 1 ≤ count_at k qs
unfolding count_at
count_some least k [] t h = absurd (omega arith)
count_some least zero (q ∷ qs) t h = (rising least q qs t).some
count_some least (suc k) (q ∷ qs) t h = count_some (suc q.second) k qs (rising least q qs t).rest (omega arith)

module _ (b : Shares) (who : Deliverer) (ws : List ℕ) (spot : Spot) (r : Roomy b who ws spot) where
  abbrev pub cw : ClassIs b (class_of who) ws
  cw = r.found.class

  abbrev pub xs : List Place
  xs = r.found.class.is.value.places

  -- ---- a new place
  module _ (none_yet : spot.seen.entries ≡ 0) where
    no_place : length xs ≤ spot.place
    no_place =
        let e = (at_entries b who ws spot r.found) in
        let i = (at_index b who ws spot r.found) in
        by_test (leb (length xs) (place_index who xs))
        (λ t. let k = leb-true (length xs) (place_index who xs) t in omega arith)
        (λ f.
        let l : place_index who xs < length xs = leb-false (length xs) (place_index who xs) f in
        let n = entries_at who spot.second xs l in
        let s = holds_some (class_of who) b.pairs (get_or xs (place_index who xs) nobody) (here_ok b (class_of who) ws cw (place_index who xs) l) in
        absurd (omega arith))

    fits : length xs < b.places
    unfolding place_free
    fits =
        let e : eqb (entries_of who xs) 0 ≡ true = eq-eqb (entries_of who xs) 0 (sym (at_entries b who ws spot r.found) ∙ none_yet) in
        ltb-true (length xs) b.places (rw e at r.place)

    -- the words there are 0
    module _ (a e : ℕ) (ha : a ≡ class_head + spot.place * place_width b.pairs) (he : e ≡ a + place_width b.pairs) where
      abbrev W : ℕ
      W = place_width b.pairs

      abbrev lead : List ℕ
      lead =
          entries_in r.found.class.is.value.places ∷ length r.found.class.is.value.places ∷ units b r.found.class.is.value.places
          ∷ r.found.class.is.value.expired ∷ flat encode_place r.found.class.is.value.places

      abbrev left : List ℕ
      left = replicate ((b.places - suc (length r.found.class.is.value.places)) * place_width b.pairs) 0

      last_index : spot.place ≡ length xs
      last_index = let i = index_le who xs in let j = (at_index b who ws spot r.found) in let k = no_place in omega arith

      lead_is : length lead ≡ a
      lead_is = let f = flat_long (class_of who) b.pairs 0 xs (each_ok b (class_of who) ws cw) in let l = ap (λ (n : ℕ). n * place_width b.pairs) last_index in omega arith

      zeros_are : replicate ((b.places - length xs) * place_width b.pairs) 0 ≡ replicate W 0 ++ left
      zeros_are =
          let k = fits in
          let m : b.places - length xs ≡ suc (b.places - suc (length xs)) = omega arith in
          let n : suc (b.places - suc (length xs)) * W ≡ W + (b.places - suc (length xs)) * W = rw (suc-mul (b.places - suc (length xs)) W) (omega arith) in
          rw (m, n) (sym (replicate-append-replicate W ((b.places - suc (length xs)) * place_width b.pairs) 0))

      words_new : ws ≡ lead ++ (replicate W 0 ++ left)
      words_new = words_are b (class_of who) ws cw ∙ ap (λ (l : List ℕ). lead ++ l) zeros_are

      size : e - a ≡ W
      size = omega arith

      seen_new : mid_of a (e - a) ws ≡ replicate W 0
      seen_new = rw (size, words_new) (mid_of_append lead (replicate W 0) left a W lead_is (length-replicate W 0))

      pub enters_new : (ys : List ℕ) → ys ≡ opened_words who spot.second (mid_of a (e - a) ws)
          → BodyTurns b (class_of who) (enter b who spot.second) ws (put_mid a (e - a) ws ys)
      unfolding total
      enters_new ys is =
          let two = cw.two in
          let d : drop {A = ℕ} (place_width 1) (replicate W 0) ≡ replicate (2 * b.pairs - 2) 0 = drop_zeros (place_width 1) W ∙ (let m : W - place_width 1 ≡ 2 * b.pairs - 2 = omega arith in rw m) in
          let y : ys ≡ encode_place (new_place b who spot.second) = is ∙ rw (seen_new, d) (new_words b who spot.second) in
          let n = new_place b who spot.second in
          let p : put_mid a (e - a) ws ys ≡ lead ++ (encode_place n ++ left) = rw (size, words_new, y) (put_of lead (replicate W 0) left (encode_place n) a W lead_is (length-replicate W 0)) in
          let k = fits in
          let l : length (xs ++ n ∷ []) ≡ suc (length xs) = length-append xs (n ∷ []) ∙ omega arith in
          let q : flat encode_place (xs ++ n ∷ []) ++ left ≡ flat encode_place xs ++ (encode_place n ++ left) = rw
          (flat_append encode_place xs (n ∷ []), flat_cons n [], append_assoc, append_assoc) (nothing_more xs n left) in
          body_one b (class_of who) ws cw a (e - a) (spot.place * place_width b.pairs) ys ha (enter b who spot.second)
          (ap (drop class_head) p ∙ sym q ∙ same_many b (class_of who) (suc (length xs)) (xs ++ n ∷ []) l (omega arith)
          ∙ ap (enc_up (place_form (class_of who) b.pairs) b.places) (sym (enter_none who spot.second b xs (let g = no_place in let j = (at_index b who ws spot r.found) in omega arith))))

  -- ---- the deliverer's place
  module _ (some : spot.seen.entries ≡ 0 → ⊥) where
    module _ (a e : ℕ) (ha : a ≡ class_head + spot.place * place_width b.pairs) (he : e ≡ a + place_width b.pairs) where
      abbrev now : Place
      now = get_or r.found.class.is.value.places spot.place nobody

      -- with the deliverer's place as it then is
      enters_here : (q : Place) (ys : List ℕ) → ys ≡ encode_place q → q ≡ with_pairs (add_pair spot.second now.pairs) now
          → BodyTurns b (class_of who) (enter b who spot.second) ws (put_mid a (e - a) ws ys)
      enters_here q ys is same =
          let i = spot.place in
          let l = (has_one b who ws spot r.found some) in
          let p = put_here b (class_of who) ws cw i l a e ha he q ys is in
          let n : length (take i xs ++ q ∷ drop (suc i) xs) ≡ length xs = length-append (take i xs) (q ∷ drop (suc i) xs) ∙ rw (length-take-le i xs (omega arith), length-drop) (omega arith) in
          let x : take i xs ++ q ∷ drop (suc i) xs ≡ enter b who spot.second xs = ap (λ (z : Place). take i xs ++ z ∷ drop (suc i) xs) same ∙ sym
          (enter_at who spot.second b xs i (sym (at_index b who ws spot r.found)) l) in
          body_one b (class_of who) ws cw a (e - a) (spot.place * place_width b.pairs) ys ha (enter b who spot.second)
          (p ∙ same_many b (class_of who) (length xs) (take i xs ++ q ∷ drop (suc i) xs) n (few b (class_of who) ws cw) ∙ ap (enc_up (place_form (class_of who) b.pairs) b.places) x)

      -- its second is listed
      module _ (nth : ℕ) (yes : spot.seen.pair ≡ Ok nth) where
        nth_is : nth ≡ before spot.second now.pairs
        nth_is = (at_listed b who ws spot r.found nth yes).1 ∙ before_here b who ws spot r.found some a e ha he

        hit : second_at spot.second (before spot.second now.pairs) now.pairs ≡ true
        hit = sym (listed_here b who ws spot r.found some a e ha he) ∙ (at_listed b who ws spot r.found nth yes).0

        there : nth < length now.pairs
        there = second_below spot.second nth now.pairs (rw nth_is hit)

        has_now : Has nth now
        has_now = record {
          there = there;
          some = count_some 0 nth now.pairs (here_fine b who ws spot r.found some a e ha he).pairs
              there;
        }

        pub raise_asks : Wide (mid_of a (e - a) ws) × (nth < get_or (mid_of a (e - a) ws) 3 0) × (count_at nth (pairs_in (mid_of a (e - a) ws)) ≤ most_entries)
            × Is encode_place (Has nth) (mid_of a (e - a) ws)
        raise_asks =
            let m = count_most nth now.pairs in
            let f = (here_fine b who ws spot r.found some a e ha he).few in (
              (wide b who ws spot r.found some a e ha he),
              rw (here_seen b who ws spot r.found some a e ha he) there,
              rw
                  ((here_seen b who ws spot r.found some a e ha he), count_in now nth) (omega arith),
              record { value = now; ok = has_now; words = here_seen b who ws spot r.found some a e ha he },
            )

        pub enters_listed : (ys : List ℕ) → Turns encode_place (Has nth) (raised_place nth) (λ p. tt {0}) (mid_of a (e - a) ws) ys (tt {0})
            → BodyTurns b (class_of who) (enter b who spot.second) ws (put_mid a (e - a) ws ys)
        enters_listed ys t =
            let y = t.does now has_now (here_seen b who ws spot r.found some a e ha he) in
            let q : add_pair spot.second now.pairs ≡ raise_at nth now.pairs = add_listed spot.second now.pairs hit ∙ rw nth_is in
            enters_here (raised_place nth now) ys y.0 (ap (λ (z : List Pair). with_pairs z now) (sym q))

      -- it is not, and there are cells for it
      module _ (nth : ℕ) (not_yet : spot.seen.pair ≡ Err nth) where
        next_is : nth ≡ before spot.second now.pairs
        next_is = (at_unlisted b who ws spot r.found nth not_yet).1 ∙ before_here b who ws spot r.found some a e ha he

        missed : second_at spot.second (before spot.second now.pairs) now.pairs ≡ false
        missed = sym (listed_here b who ws spot r.found some a e ha he) ∙ (at_unlisted b who ws spot r.found nth not_yet).0

        below_most : length now.pairs < b.pairs
        unfolding pair_free
        below_most =
            let l : listed spot.second (pairs_of who xs) ≡ false = (at_unlisted b who ws spot r.found nth not_yet).0 in
            let k = ltb-true (length (pairs_of who xs)) b.pairs (rw l at r.pair) in
            rw (here_pairs b who ws spot r.found some a e ha he) at k

        at_most : nth ≤ length now.pairs
        at_most = let k = before_le spot.second now.pairs in let e = next_is in omega arith

        fits_now : Fits nth now
        fits_now =
            let k = below_most in
            let c = (here_fine b who ws spot r.found some a e ha he).cells in
            record { there = at_most; room = omega arith }

        pub insert_asks : Wide (mid_of a (e - a) ws) × (nth ≤ get_or (mid_of a (e - a) ws) 3 0) × (place_width (get_or (mid_of a (e - a) ws) 3 0 + 1) ≤ length (mid_of a (e - a) ws))
            × Is encode_place (Fits nth) (mid_of a (e - a) ws)
        insert_asks =
            let k = below_most in (
              (wide b who ws spot r.found some a e ha he),
              rw (here_seen b who ws spot r.found some a e ha he) at_most,
              rw
                  ((here_seen b who ws spot r.found some a e ha he), place_long (class_of who) b.pairs now (here_fine b who ws spot r.found some a e ha he)) (omega arith),
              record { value = now; ok = fits_now; words = here_seen b who ws spot r.found some a e ha he },
            )

        pub enters_pair : (ys : List ℕ) → Turns encode_place (Fits nth) (longer_place nth spot.second) (λ p. tt {0}) (mid_of a (e - a) ws) ys (tt {0})
            → BodyTurns b (class_of who) (enter b who spot.second) ws (put_mid a (e - a) ws ys)
        enters_pair ys t =
            let y = t.does now fits_now (here_seen b who ws spot r.found some a e ha he) in
            let q : add_pair spot.second now.pairs ≡ insert_at nth spot.second now.pairs = add_new spot.second now.pairs missed ∙ rw next_is in
            enters_here (longer_place nth spot.second now) ys y.0 (ap (λ (z : List Pair). with_pairs z now) (sym q))

-- ---- the totals of a class that a draw entered
pub taken_are : (b : Shares) (c : Class) (who : Deliverer) (s : ℕ) (h : Held) → PlacesOk c b.pairs 0 h.places
    → taken (totals_of b h) (place_if (eqb (entries_of who h.places) 0) b who) ≡ totals_of b (entered b who s h)
taken_are b c who s h ok =
    let e = entries_enter b who s h.places in
    let n : length h.places + places_in (place_if (eqb (entries_of who h.places) 0) b who) ≡ length (enter b who s h.places) = sym
    (length_enter c b.pairs b who s 0 h.places ok ∙ holders_sum b who h.places) in
    let u : units b h.places + 1 + units_in (place_if (eqb (entries_of who h.places) 0) b who) ≡ units b (enter b who s h.places) = sym
    (units_enter c b.pairs b who s 0 h.places ok ∙ units_sum b who h.places) in
    let m : entries_in h.places + 1 ≡ entries_in (enter b who s h.places) = omega arith in
    λ i. record { entries = m i; holders = n i; units = u i; expired = h.expired }

-- ---- enter
module _ (b : Shares) (who : Deliverer) (ws : List ℕ) (spot : Spot) (r : Roomy b who ws spot) where
  pub enters : (mid : List ℕ) (opened : Option ℕ) (t₀ t : Totals) → opened ≡ place_if (eqb spot.seen.entries 0) b who → t₀ ≡ totals_in ws → t ≡ taken t₀ opened
      → BodyTurns b (class_of who) (enter b who spot.second) ws mid
      → ClassTurns b (class_of who) (entered b who spot.second) (λ h. tt {0}) ws (t.entries ∷ t.holders ∷ t.units ∷ t.expired ∷ drop class_head mid) (tt {0})
  enters mid opened t₀ t ho h₀ ht body =
      let w = r.found.class in
      let h = w.is.value in
      let e = at_entries b who ws spot r.found in
      let s : t₀ ≡ totals_of b h = h₀ ∙ totals_are b (class_of who) ws w in
      let o : opened ≡ place_if (eqb (entries_of who h.places) 0) b who = ho ∙ ap (λ (n : ℕ). place_if (eqb n 0) b who) e in
      let x : t ≡ totals_of b (entered b who spot.second h) = ht ∙ rw (s, o) (taken_are b (class_of who) who spot.second h w.is.ok.1.0.1) in
      turns_one b (class_of who) ws w.is
      (class_words b (class_of who) (entered b who spot.second h) t (drop class_head mid) x (body.does h w.is.ok w.is.words)) refl

-- ---- take
module _ (b : Shares) (who : Deliverer) (s : ℕ) (ws : List ℕ) (w : ClassIs b (class_of who) ws) (spot : Spot)
    (f : ClassReads b (class_of who) (λ h. spot_of who s h.places) ws spot) where
  pub spot_is : spot ≡ spot_of who s w.is.value.places
  spot_is = f.says w.is.value w.is.ok w.is.words

  pub second_is : spot.second ≡ s
  second_is = ap (λ (z : Spot). z.second) spot_is

  unfoldable pub found_of : Found b who ws spot
  found_of =
      let e = second_is in
      let n = ap (λ (z : Spot). z.seen.entries) spot_is in
      let l = entries_le who w.is.value.places in
      let k = w.entries in
      let q : get_or ws 0 0 ≡ entries_in w.is.value.places = ap (λ (z : List ℕ). get_or z 0 0) w.is.words in
      record { class = w; at = spot_is ∙ ap (λ (z : ℕ). spot_of who z w.is.value.places) (sym e); few = omega arith }

  module _ (l : Limits) (closed : Bool) (d : Draw)
      (t : ClassReads b (class_of who) (λ h. draw_test b l closed who spot.second h.places) ws d) where
    draw_at : d ≡ draw_test b l closed who s w.is.value.places
    draw_at = t.says w.is.value w.is.ok w.is.words ∙ rw second_is

    pub refused : granted d ≡ false → ClassTurns b (class_of who) (drawn_class b l closed who s) (λ h. draw_test b l closed who s h.places) ws ws d
    unfolding drawn_class
    refused g =
        let x = draw_at in
        let y : granted (draw_test b l closed who s w.is.value.places) ≡ false = rw (← x) g in
        turns_one b (class_of who) ws w.is (rw y w.is.words) x

    module _ (g : granted d ≡ true) where
      free : Grants b l who s w.is.value.places
      free = grants b l closed who s w.is.value.places (sym draw_at ∙ granted_is d g)

      pub roomy_of : Roomy b who ws spot
      unfolding place_free found_of
      roomy_of =
          let xs = w.is.value.places in
          let i : spot.place ≡ place_index who xs = ap (λ (z : Spot). z.place) spot_is in
          let le = index_le who xs in
          let few = w.is.ok.1.0.0 in
          let at : suc spot.place ≤ b.places = by_test (ltb (place_index who xs) (length xs))
          (λ y. let k = ltb-true (place_index who xs) (length xs) y in omega arith)
          (λ n.
          let z = entries_none who s xs (ltb-false (place_index who xs) (length xs) n) in
          let p : (not (eqb 0 0) || ltb (length xs) b.places) ≡ true = rw z at free.place in
          let k = ltb-true (length xs) b.places p in
          omega arith) in
          let m = mul-le-mul_right (place_width b.pairs) at in
          let n = suc-mul spot.place (place_width b.pairs) in
          let long = w.long in
          record { found = found_of; place = free.place; pair = subst (λ (z : ℕ). pair_free b who z xs ≡ true) (sym second_is) free.pair; within = omega arith }

      pub granted_turns : (last : List ℕ) → ClassTurns b (class_of who) (entered b who spot.second) (λ h. tt {0}) ws last (tt {0})
          → ClassTurns b (class_of who) (drawn_class b l closed who s) (λ h. draw_test b l closed who s h.places) ws last d
      unfolding drawn_class
      granted_turns last e =
          let x = draw_at in
          let y : granted (draw_test b l closed who s w.is.value.places) ≡ true = rw (← x) g in
          turns_one b (class_of who) ws w.is (rw y ((e.does w.is.value w.is.ok w.is.words).0 ∙ rw second_is)) x

-- ---- a deliverer's entries
pub held_none : (b : Shares) (who : Deliverer) (ws : List ℕ) (w : ClassIs b (class_of who) ws)
    → ClassReads b (class_of who) (λ h. place_of who h.places) ws None → ClassReads b (class_of who) (λ h. entries_of who h.places) ws 0
held_none b who ws w r = reads_one b (class_of who) ws w.is (sym (entries_none who 0 w.is.value.places (nowhere b who ws w r)))

pub held_here : (b : Shares) (who : Deliverer) (ws : List ℕ) (w : ClassIs b (class_of who) ws) (at : ℕ)
    → ClassReads b (class_of who) (λ h. place_of who h.places) ws (Some at) → (a : ℕ) → a ≡ class_head + at * place_width b.pairs
    → ClassReads b (class_of who) (λ h. entries_of who h.places) ws (get_or ws (a + 2) 0)
held_here b who ws w at r a ha =
    let h = in_use b who ws w at r in
    let k = holders_are b (class_of who) ws w in
    let i = index_is b who ws w at r in
    let v = word_of b (class_of who) ws w at a (a + place_width b.pairs) h ha refl 2 (a + 2) (omega arith) refl in
    let n = entries_at who 0 w.is.value.places (omega arith) in
    let u : entries_of who w.is.value.places ≡ entries (get_or w.is.value.places at nobody) = rw (← i) at n in
    reads_one b (class_of who) ws w.is (v ∙ sym u)
