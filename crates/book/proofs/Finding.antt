-- Looking a deliverer and a second up in a class's words, and the draw's rules on what was found.
use Prim.Native.Nat.{ℕ, suc, ◌+◌, ◌-◌, ◌*◌, ◌<◌, ◌≤◌}
use native.Mathlib.Nat.{mul-le-mul_right}
use native.Mathlib.Omega.{arith}
use mathlib.Core.Path.{◌≡◌, refl, ap, sym, ◌∙◌}
use mathlib.Core.Bool.{Bool, true, false, cond}
use mathlib.Core.List.{List, [], ◌∷◌, ◌++◌, map}
use Rattle.std.proofs.Common.{Option, Some, None, Err, is_ok}
use Rattle.std.specs.declared.slice.ChunksExact.{ChunksExact}
use Rattle.std.specs.Slice.Iter.{chunks_exact_rest, chunks_exact_size, chunks_exact_steps}
use Rattle.std.specs.Iterator.{AlwaysYields}
use Rattle.std.specs.Bool.{then_some}
use Rattle.std.specs.List.{position, position_or_len}
use Rattle.std.proofs.lemmas.Iterator.{YieldsList}
use Rattle.std.proofs.lemmas.List.{length-map}
use Rattle.std.proofs.lemmas.List.Recursion.{is_position_or_len}
use lib.ListN.{length, get_or, take, drop, length-append}
use lib.Seq.{take_at, drop_at}
use lib.Dec.{eqb, leb, ltb}
use borrow.Author.Tests.{leb-true, ltb-true, ltb-false}
use borrow.Rule.Slice.PartMut.{mid_of}
use Rattle.model.specs.declared.Class.{Class}
use Rattle.model.specs.declared.Deliverer.{Deliverer}
use Rattle.model.specs.declared.Draw.{Draw}
use Rattle.model.specs.declared.Shares.{Shares}
use Rattle.model.specs.declared.Limits.{Limits}
use Rattle.runs.specs.Chunks.{flat}
use Rattle.runs.specs.Combine.{EachOk}
use Rattle.runs.specs.Turns.{Is}
use Rattle.runs.proofs.Cases.{by_test, both_true}
use Rattle.runs.proofs.Shifts.{mid_of_append}
use Rattle.runs.proofs.Walk.{inside}
use Rattle.model.specs.Numbers.{top32}
use Rattle.model.specs.Widths.{class_head, place_head, place_width}
use Rattle.model.specs.Settings.{shares_fit}
use Rattle.model.specs.Class.{class_of, same_deliverer}
use Rattle.model.specs.Book.{Place, entries, place_units, entries_in, units, entries_of, pairs_of, listed, holders_with, own_after, units_after, place_free, pair_free}
use Rattle.model.specs.Book.{draw_room, draw_limits, draw_test}
use Rattle.model.specs.BookWords.{most_entries, pair_words, encode_place, PlaceOk, distinct, class_form}
use Rattle.model.proofs.Bounds.{shares_bounds}
use Rattle.model.proofs.Places.{PlacesOk}
use Rattle.model.proofs.BookWords.{read_flat, length_pairs, class_exact, same_class_is}
use Rattle.numbers.proofs.PlaceUnits.{units_small}
use Rattle.book.specs.declared.Spot.{Spot}
use Rattle.book.specs.declared.place.Seen.{Seen}
use Rattle.pairs.specs.Pairs.{before}
use Rattle.book.specs.Sums.{places_in, units_in, taken, totals_in, CanTake}
use Rattle.book.specs.declared.totals.Totals.{Totals}
use Rattle.book.specs.Rules.{room_by, decided, names_by}
use Rattle.book.specs.PlaceRules.{Wide, seen_in, found_at}
use Rattle.book.specs.ClassRules.{ClassIs, ClassReads, place_of, place_index, spot_of, Found}
use Rattle.pairs.proofs.PairLists.{listed_at}
use Rattle.book.proofs.ClassWords.{nobody, reads_one, place_long, flat_long, ps, each_ok, rest, words_are, holders_are, here, here_ok, seen_here, word_here}
use Rattle.book.proofs.ClassLists.{index_le, names_same, entries_at, pairs_at, entries_none, pairs_none}

-- ---- sums that are small
pub units_most : (b : Shares) (xs : List Place) → b.feeder ≤ 4_096 → b.peer ≤ 4_096 → units b xs ≤ entries_in xs + length xs * 4_096
unfolding units entries_in
units_most b [] f p = omega arith
units_most b (x ∷ xs) f p = let k = units_most b xs f p in let u = units_small b x.who f p in omega arith

-- a deliverer's place, where it opens or closes
abbrev pub place_if : Bool → Shares → Deliverer → Option ℕ
place_if holds b who = then_some holds (place_units b who)

pub place_few : (holds : Bool) (b : Shares) (who : Deliverer) → units_in (place_if holds b who) ≤ place_units b who
place_few holds b who = by_test holds (λ e. rw e (omega arith)) (λ e. rw e (omega arith))

pub place_one : (holds : Bool) (b : Shares) (who : Deliverer) → places_in (place_if holds b who) ≤ 1
place_one holds b who = by_test holds (λ e. rw e (omega arith)) (λ e. rw e (omega arith))

pub entries_le : (who : Deliverer) (xs : List Place) → entries_of who xs ≤ entries_in xs
unfolding entries_of entries_in
entries_le who [] = omega arith
entries_le who (x ∷ xs) =
    by_test (same_deliverer who x.who) (λ e. simp e (omega arith)) (λ e. simp e (omega (arith, entries_le who xs)))

-- ---- what a function on a class's words may know of them
pub class_is : (b : Shares) (c : Class) (ws : List ℕ) → shares_fit b ≡ true → Is (class_form b c).enc (class_form b c).Ok ws → ClassIs b c ws
class_is b c ws fit w =
    let k = shares_bounds b fit in
    let feeder = k.feeder in
    let peer = k.peer in
    let places = k.places in
    let h = w.value in
    let few = w.ok.1.0.0 in
    let small = leb-true (entries_in h.places) most_entries (both_true (distinct h.places) (leb (entries_in h.places) most_entries) w.ok.1.1).1 in
    let long : length ws ≡ class_head + b.places * place_width b.pairs = ap length w.words ∙ (class_exact b c).width h w.ok ∙ omega arith in
    let n : get_or ws 1 0 ≡ length h.places = ap (λ (l : List ℕ). get_or l 1 0) w.words in
    let e : get_or ws 0 0 ≡ entries_in h.places = ap (λ (l : List ℕ). get_or l 0 0) w.words in
    let u : get_or ws 2 0 ≡ units b h.places = ap (λ (l : List ℕ). get_or l 2 0) w.words in
    let x : get_or ws 3 0 ≡ h.expired = ap (λ (l : List ℕ). get_or l 3 0) w.words in
    let t : h.expired ≤ top32 = w.ok.0 in
    let most = units_most b h.places feeder peer in
    let holders : get_or ws 1 0 ≤ b.places = omega arith in
    let m = mul-le-mul_right (place_width b.pairs) holders in
    record {
      is = w;
      places = places;
      pairs = k.pairs;
      two = k.some_pairs;
      feeder = feeder;
      peer = peer;
      long = long;
      used = omega arith;
      holders = holders;
      entries = omega arith;
      units = omega arith;
      expired = omega arith;
    }

-- ---- a place's words are wide enough
pub place_wide : (c : Class) (E : ℕ) (p : Place) → PlaceOk c E p → E ≤ 512 → Wide (encode_place p)
place_wide c E p ok h =
    let k = ok.cells in
    let l = length_pairs p.pairs in
    let n = length-append (flat pair_words p.pairs) p.past in
    record { few = omega arith; long = omega arith; small = ok.few; sum = rw (read_flat p.pairs p.past) ok.few }

module _ (b : Shares) (c : Class) (ws : List ℕ) (w : ClassIs b c ws) where
  -- place i lies within the words
  pub in_part : (i : ℕ) → i < get_or ws 1 0 → class_head + i * place_width b.pairs + place_width b.pairs ≤ length ws
  in_part i h = let k = inside (get_or ws 1 0) i (place_width b.pairs) h in let l = w.used in omega arith

  module _ (i a e : ℕ) (h : i < get_or ws 1 0) (ha : a ≡ class_head + i * place_width b.pairs) (he : e ≡ a + place_width b.pairs) where
    pub below : i < length (ps b c ws w)
    below = let k = holders_are b c ws w in omega arith

    pub part_here : mid_of a (e - a) ws ≡ encode_place (here b c ws w i below)
    part_here = seen_here b c ws w i below a e ha he

    pub part_wide : Wide (mid_of a (e - a) ws)
    part_wide = rw part_here (place_wide c b.pairs (here b c ws w i below) (here_ok b c ws w i below) w.pairs)

    pub word_of : (j n : ℕ) → j < place_head → n ≡ a + j → get_or ws n 0 ≡ get_or (encode_place (here b c ws w i below)) j 0
    word_of j n l hn = rw hn (word_here b c ws w i below a e ha he j (omega arith))

-- ---- find_place
-- the index of a deliverer's place, as std counts it
index_position : (who : Deliverer) (xs : List Place) → place_index who xs ≡ position_or_len (λ p. same_deliverer who p.who) xs
unfolding place_index
index_position who = is_position_or_len (place_index who) (λ p. same_deliverer who p.who) refl (λ x xs. let e : suc (place_index who xs) ≡ 1 + place_index who xs = omega arith in rw e)

place_is : (who : Deliverer) (xs : List Place) → place_of who xs ≡ cond (ltb (place_index who xs) (length xs)) (Some (place_index who xs)) None
place_is who xs = rw (index_position who xs)

-- and back
pub place_at : (who : Deliverer) (xs : List Place) (i : ℕ) → place_of who xs ≡ Some i → (place_index who xs ≡ i) × (i < length xs)
place_at who xs i e =
    by_test (ltb (place_index who xs) (length xs))
    (λ t. let k = ltb-true (place_index who xs) (length xs) t in let s : Some (place_index who xs) ≡ Some i = sym (place_is who xs ∙ rw t) ∙ e in
    let j : place_index who xs ≡ i = cc in (j, omega arith))
    (λ f. let s : None ≡ Some i = sym (place_is who xs ∙ rw f) ∙ e in absurd (cc))

pub place_nowhere : (who : Deliverer) (xs : List Place) → place_of who xs ≡ None → length xs ≤ place_index who xs
place_nowhere who xs e =
    by_test (ltb (place_index who xs) (length xs))
    (λ t. let s : Some (place_index who xs) ≡ None = sym (place_is who xs ∙ rw t) ∙ e in absurd (cc))
    (λ f. ltb-false (place_index who xs) (length xs) f)

-- the chunks of the places' words are the places' words, one after the other
chunks : (c : Class) (E i : ℕ) (ps : List Place) → PlacesOk c E i ps → (s : ChunksExact ℕ) → chunks_exact_size s ≡ place_width E → chunks_exact_rest s ≡ flat encode_place ps
    → AlwaysYields chunks_exact_steps (λ x. x.now) s (map encode_place ps)
unfolding flat EachOk
chunks c E i [] ok s n e = λ x t k. let l = ap length (sym k.1.0 ∙ e) in let m = length-append x.now (chunks_exact_rest t) in let d = k.1.1 in absurd (omega arith)
chunks c E i (p ∷ ps) ok s n e =
    let long = place_long c E p ok.0 in (
      (λ t k. let l = ap length e in let m = length-append (encode_place p) (flat encode_place ps) in let d = k.1.0 in omega arith),
      λ x t k.
          let j : x.now ++ chunks_exact_rest t ≡ encode_place p ++ flat encode_place ps = sym k.1.0 ∙ e in
          let l : length x.now ≡ place_width E = k.1.1 ∙ n in (
            sym (take_at x.now (chunks_exact_rest t) (place_width E) l) ∙ ap (take (place_width E)) j ∙ take_at (encode_place p) (flat encode_place ps) (place_width E) long,
            chunks c E (suc i) ps ok.1 t (k.0 ∙ n)
                (sym (drop_at x.now (chunks_exact_rest t) (place_width E) l) ∙ ap (drop (place_width E)) j ∙ drop_at (encode_place p) (flat encode_place ps) (place_width E) long),
          ),
    )

-- a place's words name a deliverer
abbrev pub named : Deliverer → List ℕ → Bool
named who ws = names_by who (get_or ws 0 0) (get_or ws 1 0)

names_place : (who : Deliverer) (E : ℕ) (p : Place) → PlaceOk (class_of who) E p → named who (encode_place p) ≡ same_deliverer who p.who
names_place who E p ok = names_same who p.who p.mark (sym (same_class_is (class_of p.who) (class_of who) ok.class))

named_index : (who : Deliverer) (E i : ℕ) (ps : List Place) → PlacesOk (class_of who) E i ps
    → position_or_len (named who) (map encode_place ps) ≡ position_or_len (λ p. same_deliverer who p.who) ps
unfolding EachOk
named_index who E i [] ok = refl
named_index who E i (p ∷ ps) ok = rw (names_place who E p ok.0, named_index who E (suc i) ps ok.1)

module _ (b : Shares) (who : Deliverer) (ws : List ℕ) (w : ClassIs b (class_of who) ws) where
  -- the words of the places in use
  module _ (e : ℕ) (he : e ≡ class_head + get_or ws 1 0 * place_width b.pairs) (s : ChunksExact ℕ) (n : chunks_exact_size s ≡ place_width b.pairs)
      (r : chunks_exact_rest s ≡ mid_of class_head (e - class_head) ws) where
    used_words : mid_of class_head (e - class_head) ws ≡ flat encode_place w.is.value.places
    used_words =
        let ps = w.is.value.places in
        let k = holders_are b (class_of who) ws w in
        let l : length (flat encode_place ps) ≡ e - class_head = flat_long (class_of who) b.pairs 0 ps (each_ok b (class_of who) ws w) ∙ rw (he, k) (omega arith) in
        rw (words_are b (class_of who) ws w)
        (mid_of_append (entries_in ps ∷ length ps ∷ units b ps ∷ w.is.value.expired ∷ []) (flat encode_place ps) (rest b (class_of who) ws w) class_head (e - class_head) refl l)

    pub used_chunks : YieldsList chunks_exact_steps (λ x. x.now) s (map encode_place w.is.value.places)
    used_chunks = record { runs = chunks (class_of who) b.pairs 0 w.is.value.places (each_ok b (class_of who) ws w) s n (r ∙ used_words) }

  pub place_says : (r : Option ℕ) → r ≡ position (named who) (map encode_place w.is.value.places) → ClassReads b (class_of who) (λ h. place_of who h.places) ws r
  place_says r e = reads_one b (class_of who) ws w.is (e ∙ rw (named_index who b.pairs 0 w.is.value.places (each_ok b (class_of who) ws w), length-map))

-- ---- find
module _ (b : Shares) (who : Deliverer) (ws : List ℕ) (w : ClassIs b (class_of who) ws) where
  pub nowhere : ClassReads b (class_of who) (λ h. place_of who h.places) ws None → length w.is.value.places ≤ place_index who w.is.value.places
  nowhere r = place_nowhere who w.is.value.places (sym (r.says w.is.value w.is.ok w.is.words))

  module _ (at : ℕ) (r : ClassReads b (class_of who) (λ h. place_of who h.places) ws (Some at)) where
    somewhere : (place_index who w.is.value.places ≡ at) × (at < length w.is.value.places)
    somewhere = place_at who w.is.value.places at (sym (r.says w.is.value w.is.ok w.is.words))

    pub index_is : at ≡ place_index who w.is.value.places
    index_is = sym somewhere.0

    pub in_use : at < get_or ws 1 0
    in_use = let k = holders_are b (class_of who) ws w in let l = somewhere.1 in omega arith

module _ (b : Shares) (who : Deliverer) (s : ℕ) (ws : List ℕ) (w : ClassIs b (class_of who) ws) where
  pub found_none : ClassReads b (class_of who) (λ h. place_of who h.places) ws None
      → ClassReads b (class_of who) (λ h. spot_of who s h.places) ws (record { second = s; place = get_or ws 1 0; seen = record { entries = 0; pairs = 0; pair = Err 0 } })
  unfolding before listed
  found_none r =
      let xs = w.is.value.places in
      let k = holders_are b (class_of who) ws w in
      let l = nowhere b who ws w r in
      let m = index_le who xs in
      let i : get_or ws 1 0 ≡ place_index who xs = omega arith in
      let e = entries_none who s xs l in
      let q = pairs_none who s xs l in
      reads_one b (class_of who) ws w.is (rw (e, q, i))

  module _ (at : ℕ) (r : ClassReads b (class_of who) (λ h. place_of who h.places) ws (Some at)) (a e : ℕ) (ha : a ≡ class_head + at * place_width b.pairs)
      (he : e ≡ a + place_width b.pairs) where
    pub found_here : (v : Seen) → v ≡ seen_in s (mid_of a (e - a) ws)
        → ClassReads b (class_of who) (λ x. spot_of who s x.places) ws (record { second = s; place = at; seen = v })
    found_here v is =
        let xs = w.is.value.places in
        let h = in_use b who ws w at r in
        let k = holders_are b (class_of who) ws w in
        let i = index_is b who ws w at r in
        let l : at < length xs = omega arith in
        let p = get_or xs at nobody in
        let ok = here_ok b (class_of who) ws w at l in
        let f : v ≡ seen_in s (encode_place p) = is ∙ ap (seen_in s) (part_here b (class_of who) ws w at a e h ha he) in
        let g = read_flat p.pairs p.past in
        let n = entries_at who s xs (omega arith) in
        let q = pairs_at who s xs (omega arith) in
        let u : entries_of who xs ≡ entries p = rw (← i) at n in
        let z : pairs_of who xs ≡ p.pairs = rw (← i) at q in
        let t = listed_at 0 s p.pairs ok.pairs in
        reads_one b (class_of who) ws w.is (rw (f, g, u, z, t, i))

-- ---- what the totals ask
pub take_asks : (b : Shares) (who : Deliverer) (ws : List ℕ) (spot : Spot) (w : ClassIs b (class_of who) ws) (opened : Option ℕ) (t : Totals)
    → opened ≡ place_if (eqb spot.seen.entries 0) b who → t ≡ totals_in ws → CanTake t opened
take_asks b who ws spot w opened t ho ht =
    let u = units_small b who w.feeder w.peer in
    let o = place_few (eqb spot.seen.entries 0) b who in
    let e = w.entries in
    let n = w.holders in
    let p = w.places in
    let v = w.units in
    rw (ht, ho) (omega arith, omega arith, omega arith, omega arith)

-- ---- draw
own_sum : (b : Shares) (who : Deliverer) (xs : List Place) → own_after b who xs ≡ entries_of who xs + 1 + place_units b who
unfolding own_after
own_sum b who xs = omega arith

pub holders_sum : (b : Shares) (who : Deliverer) (xs : List Place) → holders_with who xs ≡ length xs + places_in (place_if (eqb (entries_of who xs) 0) b who)
unfolding holders_with
holders_sum b who xs = by_test (eqb (entries_of who xs) 0) (λ e. rw e (omega arith)) (λ e. rw e (omega arith))

pub units_sum : (b : Shares) (who : Deliverer) (xs : List Place) → units_after b who xs ≡ units b xs + 1 + units_in (place_if (eqb (entries_of who xs) 0) b who)
unfolding units_after
units_sum b who xs = by_test (eqb (entries_of who xs) 0) (λ e. rw e (omega arith)) (λ e. rw e (omega arith))

module _ (b : Shares) (l : Limits) (closed : Bool) (who : Deliverer) (s : ℕ) (xs : List Place) where
  pub draw_is : draw_test b l closed who s xs
      ≡ decided l closed who (entries_of who xs) (entries_of who xs + 1 + place_units b who) (length xs + places_in (place_if (eqb (entries_of who xs) 0) b who))
      (units b xs + 1 + units_in (place_if (eqb (entries_of who xs) 0) b who)) (room_by (entries_of who xs) (length xs) b.places (listed s (pairs_of who xs)) (length (pairs_of who xs)) b.pairs)
  unfolding draw_test draw_limits draw_room place_free pair_free decided room_by
  draw_is = rw (own_sum b who xs, holders_sum b who xs, units_sum b who xs)

at_least : (b : Shares) (who : Deliverer) (xs : List Place) → 1 ≤ length xs + places_in (place_if (eqb (entries_of who xs) 0) b who)
unfolding entries_of
at_least b who [] = omega arith
at_least b who (x ∷ xs) = omega arith

ok_found : (hit : Bool) (k : ℕ) → is_ok (found_at hit k) ≡ hit
ok_found true k = refl
ok_found false k = refl

module _ (b : Shares) (l : Limits) (closed : Bool) (who : Deliverer) (ws : List ℕ) (spot : Spot) (f : Found b who ws spot) where
  pub draw_says : (place : ℕ) (opened : Option ℕ) (t₀ t : Totals) (room r : Draw) → place ≡ place_units b who
      → opened ≡ place_if (eqb spot.seen.entries 0) b who → t₀ ≡ totals_in ws → t ≡ taken t₀ opened
      → room ≡ room_by spot.seen.entries t₀.holders b.places (is_ok spot.seen.pair) spot.seen.pairs b.pairs
      → r ≡ decided l closed who spot.seen.entries (spot.seen.entries + 1 + place) t.holders t.units room
      → ClassReads b (class_of who) (λ h. draw_test b l closed who spot.second h.places) ws r
  draw_says place opened t₀ t room r hp ho h₀ ht hr e =
      let w = f.class in
      let xs = w.is.value.places in
      let n : get_or ws 1 0 ≡ length xs = holders_are b (class_of who) ws w in
      let u : get_or ws 2 0 ≡ units b xs = ap (λ (z : List ℕ). get_or z 2 0) w.is.words in
      let h : spot.seen.entries ≡ entries_of who xs = ap (λ (z : Spot). z.seen.entries) f.at in
      let k : spot.seen.pairs ≡ length (pairs_of who xs) = ap (λ (z : Spot). z.seen.pairs) f.at in
      let m : is_ok spot.seen.pair ≡ listed spot.second (pairs_of who xs) = ap (λ (z : Spot). is_ok z.seen.pair) f.at ∙ ok_found _ _ in
      reads_one b (class_of who) ws w.is
      (e ∙ sym (rw (hr, ht, h₀, ho, hp) (rw (← m, ← k, ← h, ← n, ← u) at (draw_is b l closed who spot.second xs))))

  pub some_holder : (opened : Option ℕ) (t₀ t : Totals) → opened ≡ place_if (eqb spot.seen.entries 0) b who → t₀ ≡ totals_in ws → t ≡ taken t₀ opened → 1 ≤ t.holders
  some_holder opened t₀ t ho h₀ ht =
      let w = f.class in
      let xs = w.is.value.places in
      let n : get_or ws 1 0 ≡ length xs = holders_are b (class_of who) ws w in
      let h : spot.seen.entries ≡ entries_of who xs = ap (λ (z : Spot). z.seen.entries) f.at in
      rw (ht, h₀, ho, n, h) (at_least b who xs)
