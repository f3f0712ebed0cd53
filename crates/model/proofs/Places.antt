-- A class's places as a list: a granted draw, a return and an expiry keep a class well formed, and what they do to its sums.
use Prim.Native.Nat.{ℕ, suc, ◌+◌, ◌*◌, ◌/◌, ◌≤◌, ◌<◌}
use native.Mathlib.Omega.{arith}
use mathlib.Core.Path.{◌≡◌, refl, ap, subst}
use mathlib.Core.Bool.{Bool, true, false, not, ◌&&◌, ◌||◌}
use mathlib.Core.List.{List, [], ◌∷◌}
use lib.ListN.{length, length-append, length-drop, length-replicate}
use lib.Dec.{leb, ltb, eqb}
use borrow.Author.Tests.{eq-eqb, ne_eqb, le-leb, leb-true, ltb-true, ltb-false, eqb-true, not-true}
use Rattle.model.specs.declared.Class.{Class}
use Rattle.model.specs.declared.Class.TheVariants.{Feeders, Peers, Own}
use Rattle.model.specs.declared.Deliverer.{Deliverer}
use Rattle.model.specs.declared.Deliverer.TheVariants.{Feeder, Peer, Relay, Restored}
use Rattle.model.specs.declared.Draw.TheVariants.{Granted, Closed, OwnShare, ClassLimit, EqualPart, TwiceLimit, Places, Pairs}
use Rattle.model.specs.declared.Shares.{Shares}
use Rattle.model.specs.declared.Limits.{Limits}
use Rattle.runs.specs.Combine.{EachOk}
use Rattle.runs.proofs.Cases.{by_test, each_true, both_true, no}
use Rattle.model.specs.Numbers.{top32, cap32}
use Rattle.model.specs.Settings.{limits_fit}
use Rattle.model.specs.Class.{class_of, kind_of, same_deliverer}
use Rattle.model.specs.Book.{Pair, Place, Held, total, entries, entries_in, units, entries_of, pairs_of, together, below_share, fair, holders_with, own_after}
use Rattle.model.specs.Book.{units_after, listed, place_free, pair_free, draw_room, draw_limits, draw_test, with_pairs, add_pair, new_place, enter, lower_pair}
use Rattle.model.specs.Book.{keep_place, give_back, later_pairs, later_places, expire_class}
use Rattle.model.specs.BookWords.{most_entries, pairs_sound, number_word, read_mark, PlaceOk, has_place, distinct, class_form}
use Rattle.model.proofs.BookWords.{same_class_is, same_class_self}
use Rattle.model.proofs.Pairs.{total_some, total_add, length_new, length_listed, add_some, add_sound, length_lower, total_lower_le, lower_sound, length_later, total_later, later_sound}

-- ---- deliverers: the test says that they are equal
pub same_self : (who : Deliverer) → same_deliverer who who ≡ true
unfolding same_deliverer
same_self (Feeder id) = eq-eqb id id refl
same_self (Peer id) = eq-eqb id id refl
same_self Relay = refl
same_self (Restored c) = same_class_self c

pub same_is : (a b : Deliverer) → same_deliverer a b ≡ true → a ≡ b
unfolding same_deliverer
same_is (Feeder x) (Feeder y) e = ap Feeder (eqb-true x y e)
same_is (Feeder x) (Peer y) e = no (cc)
same_is (Feeder x) Relay e = no (cc)
same_is (Feeder x) (Restored d) e = no (cc)
same_is (Peer x) (Feeder y) e = no (cc)
same_is (Peer x) (Peer y) e = ap Peer (eqb-true x y e)
same_is (Peer x) Relay e = no (cc)
same_is (Peer x) (Restored d) e = no (cc)
same_is Relay (Feeder y) e = no (cc)
same_is Relay (Peer y) e = no (cc)
same_is Relay Relay e = refl
same_is Relay (Restored d) e = no (cc)
same_is (Restored c) (Feeder y) e = no (cc)
same_is (Restored c) (Peer y) e = no (cc)
same_is (Restored c) Relay e = no (cc)
same_is (Restored c) (Restored d) e = ap Restored (same_class_is c d e)

pub other_sym : (a b : Deliverer) → same_deliverer a b ≡ false → same_deliverer b a ≡ false
other_sym a b e =
    by_test (same_deliverer b a) (λ d. no (let f : same_deliverer a b ≡ true = rw (same_is b a d) (same_self a) in cc)) (λ d. d)

-- ---- a place with other pairs, and a new place
new_sound : (s : ℕ) → s ≤ top32 → pairs_sound 0 (record { second = s; count = 1 } ∷ []) ≡ true
unfolding pairs_sound
new_sound s h = rw (le-leb 0 s (omega arith), le-leb s top32 h)

unmarked : (who : Deliverer) → 0 ≡ read_mark (class_of who) (kind_of who) (number_word who 0)
unfolding class_of kind_of
unmarked (Feeder id) = refl
unmarked (Peer id) = refl
unmarked Relay = refl
unmarked (Restored c) = refl

module _ (c : Class) (E : ℕ) where
  pub with_ok : (qs : List Pair) (p : Place) → PlaceOk c E p → 1 ≤ length qs → length qs ≤ E → pairs_sound 0 qs ≡ true → total qs ≤ most_entries
      → PlaceOk c E (with_pairs qs p)
  unfolding with_pairs
  with_ok qs p ok some few sound small = record {
    class = ok.class;
    mark = ok.mark;
    least = some;
    cells = let k = ok.cells in rw (length-append, length-replicate, length-drop) (omega arith);
    pairs = sound;
    few = small;
  }

  pub new_ok : (b : Shares) (who : Deliverer) (s : ℕ) → b.pairs ≡ E → 1 ≤ E → class_of who ≡ c → s ≤ top32 → PlaceOk c E (new_place b who s)
  unfolding total
  new_ok b who s e h own short = record {
    class = rw own (same_class_self c);
    mark = subst (λ (d : Class). 0 ≡ read_mark d (kind_of who) (number_word who 0)) own (unmarked who);
    least = omega arith;
    cells = rw length-replicate (omega arith);
    pairs = new_sound s short;
    few = omega arith;
  }

-- ---- what a granted draw found: a place is free, and so is a pair, and the class stays within twice its limit
pub record Grants (b : Shares) (l : Limits) (who : Deliverer) (s : ℕ) (ps : List Place) : Type 0 where
  pub place : place_free b who ps ≡ true
  pub pair : pair_free b who s ps ≡ true
  pub within : units_after b who ps ≤ 2 * together l (class_of who)

granted_room : (b : Shares) (who : Deliverer) (s : ℕ) (ps : List Place) → draw_room b who s ps ≡ Granted
    → (place_free b who ps ≡ true) × (pair_free b who s ps ≡ true)
unfolding draw_room
granted_room b who s ps g =
    by_test (place_free b who ps)
    (λ e. by_test (pair_free b who s ps) (λ d. (e, d)) (λ d. no (let f : Pairs ≡ Granted = rw (e, d) at g in cc)))
    (λ e. no (let f : Places ≡ Granted = rw e at g in cc))

granted_limits : (b : Shares) (l : Limits) (who : Deliverer) (s : ℕ) (ps : List Place) → draw_limits b l who s ps ≡ Granted → Grants b l who s ps
unfolding draw_limits
granted_limits b l who s ps g =
    let t = together l (class_of who) in
    let n = units_after b who ps in
    by_test (leb n t)
    (λ e.
    let r = granted_room b who s ps (rw e at g) in
    let k = leb-true n t e in
    record { place = r.0; pair = r.1; within = omega arith })
    (λ e. by_test (fair who)
    (λ f. by_test (ltb (t / holders_with who ps) (own_after b who ps))
    (λ d. no (let z : EqualPart ≡ Granted = rw (e, f, d) at g in cc))
    (λ d. by_test (ltb (2 * t) n)
    (λ i. no (let z : TwiceLimit ≡ Granted = rw (e, f, d, i) at g in cc))
    (λ i.
    let r = granted_room b who s ps (rw (e, f, d, i) at g) in
    record { place = r.0; pair = r.1; within = ltb-false (2 * t) n i })))
    (λ f. no (let z : ClassLimit ≡ Granted = rw (e, f) at g in cc)))

pub grants : (b : Shares) (l : Limits) (closed : Bool) (who : Deliverer) (s : ℕ) (ps : List Place) → draw_test b l closed who s ps ≡ Granted → Grants b l who s ps
unfolding draw_test
grants b l closed who s ps g =
    by_test closed
    (λ e. no (let z : Closed ≡ Granted = rw e at g in cc))
    (λ e. by_test (below_share l who (entries_of who ps))
    (λ d. granted_limits b l who s ps (rw (e, d) at g))
    (λ d. no (let z : OwnShare ≡ Granted = rw (e, d) at g in cc)))

limits_most : (l : Limits) → limits_fit l ≡ true → (l.feeders ≤ 1_000_000) × ((l.peers ≤ 1_000_000) × (l.relay ≤ 1_000_000))
unfolding limits_fit
limits_most l t =
    let p = each_true (leb l.feeder 1_000_000) (leb l.feeders 1_000_000 ∷ leb l.peer 1_000_000 ∷ leb l.peers 1_000_000 ∷ leb l.relay 1_000_000 ∷ []) t in
    (leb-true _ _ p.1.0, (leb-true _ _ p.1.1.1.0, leb-true _ _ p.1.1.1.1))

pub limit_fits : (l : Limits) (c : Class) → limits_fit l ≡ true → together l c ≤ 1_000_000
unfolding together
limit_fits l Feeders t = (limits_most l t).0
limit_fits l Peers t = (limits_most l t).1.0
limit_fits l Own t = (limits_most l t).1.1

-- ---- sums over places
pub entries_units : (b : Shares) (ps : List Place) → entries_in ps ≤ units b ps
unfolding entries_in units
entries_units b [] = omega arith
entries_units b (p ∷ ps) = omega (arith, entries_units b ps)

pub entries_enter : (b : Shares) (who : Deliverer) (s : ℕ) (ps : List Place) → entries_in (enter b who s ps) ≡ suc (entries_in ps)
unfolding enter entries_in with_pairs total
entries_enter b who s [] = refl
entries_enter b who s (p ∷ ps) =
    by_test (same_deliverer who p.who)
    (λ e. simp e (omega (arith, total_add s p.pairs)))
    (λ e. simp e (omega (arith, entries_enter b who s ps)))

module _ (c : Class) (E : ℕ) where
  -- every place is well formed
  abbrev pub PlacesOk : ℕ → List Place → Type 0
  PlacesOk i ps = EachOk (λ (j : ℕ). PlaceOk c E) i ps

  pub from_any : (i j : ℕ) (ps : List Place) → PlacesOk i ps → PlacesOk j ps
  unfolding EachOk
  from_any i j [] ok = tt
  from_any i j (p ∷ ps) ok = (ok.0, from_any (suc i) (suc j) ps ok.1)

  -- a place holds entries
  pub holds_some : (p : Place) → PlaceOk c E p → 1 ≤ entries p
  holds_some p ok = total_some 0 p.pairs ok.pairs ok.least

  none_held : (p : Place) → PlaceOk c E p → eqb (entries p) 0 ≡ false
  none_held p ok = ne_eqb (entries p) 0 (λ e. let k = holds_some p ok in omega arith)

  -- units and holders after a draw
  pub units_enter : (b : Shares) (who : Deliverer) (s i : ℕ) (ps : List Place) → PlacesOk i ps → units b (enter b who s ps) ≡ units_after b who ps
  unfolding EachOk enter units units_after entries_of with_pairs total
  units_enter b who s i [] ok = omega arith
  units_enter b who s i (p ∷ ps) ok =
      by_test (same_deliverer who p.who)
      (λ e. simp (e, none_held p ok.0) (omega (arith, total_add s p.pairs)))
      (λ e. let k = units_enter b who s (suc i) ps ok.1 in simp e (omega arith))

  pub length_enter : (b : Shares) (who : Deliverer) (s i : ℕ) (ps : List Place) → PlacesOk i ps → length (enter b who s ps) ≡ holders_with who ps
  unfolding EachOk enter holders_with entries_of
  length_enter b who s i [] ok = refl
  length_enter b who s i (p ∷ ps) ok =
      by_test (same_deliverer who p.who)
      (λ e. simp (e, none_held p ok.0))
      (λ e. let k = length_enter b who s (suc i) ps ok.1 in
      simp e (by_test (eqb (entries_of who ps) 0) (λ d. simp d (ap suc (rw d at k))) (λ d. simp d (ap suc (rw d at k)))))

  pub few_places : (b : Shares) (who : Deliverer) (s i : ℕ) (ps : List Place) → PlacesOk i ps → length ps ≤ b.places → place_free b who ps ≡ true
      → length (enter b who s ps) ≤ b.places
  unfolding place_free holders_with
  few_places b who s i ps ok h free =
      let k = length_enter b who s i ps ok in
      by_test (eqb (entries_of who ps) 0)
      (λ e. let n = ltb-true (length ps) b.places (rw e at free) in let m : length (enter b who s ps) ≡ suc (length ps) = rw e at k in omega arith)
      (λ e. let m : length (enter b who s ps) ≡ length ps = rw e at k in omega arith)

  -- every place stays well formed
  pub places_enter : (b : Shares) (who : Deliverer) (s i : ℕ) (ps : List Place) → b.pairs ≡ E → 1 ≤ E → class_of who ≡ c → s ≤ top32
      → entries_in ps < most_entries → pair_free b who s ps ≡ true → PlacesOk i ps → PlacesOk i (enter b who s ps)
  unfolding EachOk enter entries_in pair_free pairs_of
  places_enter b who s i [] e h own short small free ok = (new_ok c E b who s e h own short, tt)
  places_enter b who s i (p ∷ ps) e h own short small free ok =
      by_test (same_deliverer who p.who)
      (λ d.
      let f : (listed s p.pairs || ltb (length p.pairs) b.pairs) ≡ true = rw d at free in
      let k = ok.0.cells in
      let room : length (add_pair s p.pairs) ≤ E = by_test (listed s p.pairs)
      (λ g. let n = length_listed 0 s p.pairs ok.0.pairs g in omega arith)
      (λ g. let n = length_new s p.pairs g in let m = ltb-true (length p.pairs) b.pairs (rw g at f) in omega arith) in
      simp d (
        with_ok c E (add_pair s p.pairs) p ok.0 (add_some s p.pairs) room (add_sound 0 s p.pairs (omega arith) short ok.0.pairs)
            (let n = total_add s p.pairs in omega arith),
        ok.1,
      ))
      (λ d. simp d (ok.0, places_enter b who s (suc i) ps e h own short (omega arith) (rw d at free) ok.1))

-- deliverers stay distinct
has_enter : (b : Shares) (who w : Deliverer) (s : ℕ) (ps : List Place) → same_deliverer w who ≡ false → has_place w ps ≡ false
    → has_place w (enter b who s ps) ≡ false
unfolding has_place enter with_pairs
has_enter b who w s [] e h = rw e
has_enter b who w s (p ∷ ps) e h =
    by_test (same_deliverer who p.who)
    (λ d. simp d h)
    (λ d. by_test (same_deliverer w p.who)
    (λ f. no (let z : true ≡ false = rw f at h in cc))
    (λ f. simp (d, f) (has_enter b who w s ps e (rw f at h))))

none_there : (who : Deliverer) → (not (has_place who []) && true) ≡ true
unfolding has_place
none_there who = refl

pub distinct_enter : (b : Shares) (who : Deliverer) (s : ℕ) (ps : List Place) → distinct ps ≡ true → distinct (enter b who s ps) ≡ true
unfolding distinct enter with_pairs
distinct_enter b who s [] t = none_there who
distinct_enter b who s (p ∷ ps) t =
    let q = both_true (not (has_place p.who ps)) (distinct ps) t in
    by_test (same_deliverer who p.who)
    (λ d. simp d t)
    (λ d.
    let n = has_enter b who p.who s ps (other_sym who p.who d) (not-true (has_place p.who ps) q.0) in
    simp (d, n) (distinct_enter b who s ps q.1))

-- ---- some places went, some have fewer pairs: what a return and an expiry leave
pub data Fewer : List Place → List Place → Type 0 where
  none_left : Fewer [] []
  lost : {p : Place} {xs ps : List Place} → Fewer xs ps → Fewer xs (p ∷ ps)
  same : {p : Place} {xs ps : List Place} → Fewer xs ps → Fewer (p ∷ xs) (p ∷ ps)
  less : (qs : List Pair) {p : Place} {xs ps : List Place} → 1 ≤ length qs → length qs ≤ length p.pairs → pairs_sound 0 qs ≡ true
      → total qs ≤ total p.pairs → Fewer xs ps → Fewer (with_pairs qs p ∷ xs) (p ∷ ps)

pub fewer_self : (ps : List Place) → Fewer ps ps
fewer_self [] = none_left
fewer_self (p ∷ ps) = same (fewer_self ps)

keep_fewer : (qs : List Pair) (p : Place) {xs ps : List Place} → length qs ≤ length p.pairs → pairs_sound 0 qs ≡ true
    → total qs ≤ total p.pairs → Fewer xs ps → Fewer (keep_place qs p xs) (p ∷ ps)
unfolding keep_place
keep_fewer [] p h s t f = lost f
keep_fewer (q ∷ qs) p h s t f = less (q ∷ qs) {p = p} (omega arith) h s t f

pub fewer_length : {xs ps : List Place} → Fewer xs ps → length xs ≤ length ps
fewer_length none_left = omega arith
fewer_length (lost f) = omega (arith, fewer_length f)
fewer_length (same f) = omega (arith, fewer_length f)
fewer_length (less qs h l s t f) = omega (arith, fewer_length f)

pub fewer_entries : {xs ps : List Place} → Fewer xs ps → entries_in xs ≤ entries_in ps
unfolding entries_in with_pairs
fewer_entries none_left = omega arith
fewer_entries (lost f) = omega (arith, fewer_entries f)
fewer_entries (same f) = omega (arith, fewer_entries f)
fewer_entries (less qs h l s t f) = omega (arith, fewer_entries f)

fewer_has : (w : Deliverer) {xs ps : List Place} → Fewer xs ps → has_place w ps ≡ false → has_place w xs ≡ false
unfolding has_place with_pairs
fewer_has w none_left h = h
fewer_has w (lost {p = p} f) h =
    by_test (same_deliverer w p.who) (λ e. no (let z : true ≡ false = rw e at h in cc)) (λ e. fewer_has w f (rw e at h))
fewer_has w (same {p = p} f) h =
    by_test (same_deliverer w p.who) (λ e. no (let z : true ≡ false = rw e at h in cc)) (λ e. simp e (fewer_has w f (rw e at h)))
fewer_has w (less qs {p = p} o l s t f) h =
    by_test (same_deliverer w p.who) (λ e. no (let z : true ≡ false = rw e at h in cc)) (λ e. simp e (fewer_has w f (rw e at h)))

pub fewer_distinct : {xs ps : List Place} → Fewer xs ps → distinct ps ≡ true → distinct xs ≡ true
unfolding distinct with_pairs
fewer_distinct none_left d = d
fewer_distinct (lost {p = p} {ps = ps} f) d = fewer_distinct f (both_true (not (has_place p.who ps)) (distinct ps) d).1
fewer_distinct (same {p = p} {ps = ps} f) d =
    let q = both_true (not (has_place p.who ps)) (distinct ps) d in
    rw (fewer_has p.who f (not-true (has_place p.who ps) q.0)) (fewer_distinct f q.1)
fewer_distinct (less qs {p = p} {ps = ps} o l s t f) d =
    let q = both_true (not (has_place p.who ps)) (distinct ps) d in
    rw (fewer_has p.who f (not-true (has_place p.who ps) q.0)) (fewer_distinct f q.1)

module _ (c : Class) (E : ℕ) where
  pub fewer_places : (i j : ℕ) {xs ps : List Place} → Fewer xs ps → PlacesOk c E i ps → PlacesOk c E j xs
  unfolding EachOk
  fewer_places i j none_left ok = tt
  fewer_places i j (lost f) ok = fewer_places (suc i) j f ok.1
  fewer_places i j (same f) ok = (ok.0, fewer_places (suc i) (suc j) f ok.1)
  fewer_places i j (less qs {p = p} o l s t f) ok =
      (with_ok c E qs p ok.0 o (let k = ok.0.cells in omega arith) s (let k = ok.0.few in omega arith), fewer_places (suc i) (suc j) f ok.1)

  pub give_back_fewer : (who : Deliverer) (s i : ℕ) (ps : List Place) → PlacesOk c E i ps → Fewer (give_back who s ps) ps
  unfolding EachOk give_back
  give_back_fewer who s i [] ok = none_left
  give_back_fewer who s i (p ∷ ps) ok =
      by_test (same_deliverer who p.who)
      (λ e.
      simp e
      (keep_fewer (lower_pair s p.pairs) p (length_lower s p.pairs) (lower_sound 0 s p.pairs ok.0.pairs) (total_lower_le s p.pairs) (fewer_self ps)))
      (λ e. simp e (same (give_back_fewer who s (suc i) ps ok.1)))

  pub later_fewer : (t i : ℕ) (ps : List Place) → PlacesOk c E i ps → Fewer (later_places t ps) ps
  unfolding EachOk later_places
  later_fewer t i [] ok = none_left
  later_fewer t i (p ∷ ps) ok =
      keep_fewer (later_pairs t p.pairs) p (length_later t p.pairs) (later_sound 0 t p.pairs ok.0.pairs) (total_later t p.pairs) (later_fewer t (suc i) ps ok.1)

-- ---- a class stays well formed
abbrev pub placed : List Place → Held → Held
placed ps h = record { places = ps; expired = h.expired }

module _ (b : Shares) (c : Class) (h : Held) (ok : (class_form b c).Ok h) where
  -- by a granted draw
  pub enter_ok : (l : Limits) (closed : Bool) (who : Deliverer) (s : ℕ) → 1 ≤ b.pairs → limits_fit l ≡ true → class_of who ≡ c → s ≤ top32
      → draw_test b l closed who s h.places ≡ Granted → (class_form b c).Ok (placed (enter b who s h.places) h)
  enter_ok l closed who s some fit own short granted =
      let g = grants b l closed who s h.places granted in
      let each = ok.1.0.1 in
      let few = ok.1.0.0 in
      let r = both_true (distinct h.places) (leb (entries_in h.places) most_entries) ok.1.1 in
      let most = limit_fits l (class_of who) fit in
      let n = entries_enter b who s h.places in
      let u = units_enter c b.pairs b who s 0 h.places each in
      let e = entries_units b (enter b who s h.places) in
      let w = g.within in
      let small : entries_in (enter b who s h.places) ≤ most_entries = omega arith in (
        ok.0,
        (
          (
            few_places c b.pairs b who s 0 h.places each few g.place,
            places_enter c b.pairs b who s 0 h.places refl some own short (omega arith) g.pair each,
          ),
          rw (distinct_enter b who s h.places r.0, le-leb _ _ small),
        ),
      )

  -- by whatever leaves fewer
  pub fewer_ok : (xs : List Place) (t : ℕ) → t ≤ top32 → Fewer xs h.places → (class_form b c).Ok (record { places = xs; expired = t })
  fewer_ok xs t short f =
      let few = ok.1.0.0 in
      let r = both_true (distinct h.places) (leb (entries_in h.places) most_entries) ok.1.1 in
      let n = fewer_entries f in
      let m = leb-true (entries_in h.places) most_entries r.1 in
      let l = fewer_length f in
      let small : entries_in xs ≤ most_entries = omega arith in
      (short, ((omega arith, fewer_places c b.pairs 0 0 f ok.1.0.1), rw (fewer_distinct f r.0, le-leb _ _ small)))

  pub give_back_ok : (who : Deliverer) (s : ℕ) → (class_form b c).Ok (placed (give_back who s h.places) h)
  give_back_ok who s = fewer_ok (give_back who s h.places) h.expired ok.0 (give_back_fewer c b.pairs who s 0 h.places ok.1.0.1)

  pub expire_ok : (t : ℕ) → t ≤ top32 → (class_form b c).Ok (expire_class t h)
  unfolding expire_class
  expire_ok t short =
      by_test (ltb (cap32 (t + 2)) h.expired)
      (λ e. simp e (fewer_ok h.places t short (fewer_self h.places)))
      (λ e. by_test (leb t h.expired)
      (λ d. simp (e, d) ok)
      (λ d. simp (e, d) (fewer_ok _ t short (later_fewer c b.pairs _ 0 h.places ok.1.0.1))))
