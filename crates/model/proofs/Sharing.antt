-- Any one holder of a class has at most T units, and any two at most T and half of it, whatever is drawn, given back and expired while
-- the limits stay. So a draw within the equal part of at most three parties keeps the class within twice T, and is granted.
use mathlib.Core.Path.{◌≡◌, refl, ap, sym, subst}
use mathlib.Core.Bool.{Bool, true, false, not}
use mathlib.Core.List.{List, [], ◌∷◌, map}
use Prim.Native.Nat.{ℕ, suc, ◌+◌, ◌*◌, ◌/◌, ◌≤◌}
use native.Mathlib.Omega.{arith}
use lib.Dec.{leb, ltb, eqb}
use lib.ListN.{length}
use borrow.Author.Tests.{eqb-false, leb-true, le-ltb, ltb-false}
use Rattle.model.specs.declared.Deliverer.{Deliverer}
use Rattle.model.specs.declared.Deliverer.TheVariants.{Feeder, Peer, Relay, Restored}
use Rattle.model.specs.declared.Draw.{Draw}
use Rattle.model.specs.declared.Draw.TheVariants.{Granted}
use Rattle.model.specs.declared.Shares.{Shares}
use Rattle.model.specs.declared.Limits.{Limits}
use Rattle.runs.proofs.Cases.{by_test, split_if, no}
use Rattle.model.specs.Numbers.{cap32}
use Rattle.model.specs.Class.{class_of, same_deliverer}
use Rattle.model.specs.Book.{Pair, Place, Held, total, entries, place_units, units, entries_of, together, below_share, fair, holders_with, own_after, units_after}
use Rattle.model.specs.Book.{place_free, pair_free, draw_room, draw_limits, draw_test, granted, with_pairs, enter, lower_pair, keep_place, give_back, later_pairs}
use Rattle.model.specs.Book.{later_places, expire_class}
use Rattle.model.specs.EqualPart.{cost}
use Rattle.model.proofs.Pairs.{total_add, total_lower_le, total_later}
use Rattle.model.proofs.Units.{sum, Shared, Shrunk, none_left, lost, kept, shrunk_same, shrunk_shared, Gained, came, rose, later, gained_length, part_shared, sum_shared, others, twice, part_le}

-- ---- one deliverer's place costs the same wherever it is told from
same_units : (b : Shares) (who of : Deliverer) → same_deliverer who of ≡ true → place_units b who ≡ place_units b of
unfolding same_deliverer place_units
same_units b (Feeder x) (Feeder y) e = refl
same_units b (Feeder x) (Peer y) e = no (cc)
same_units b (Feeder x) Relay e = no (cc)
same_units b (Feeder x) (Restored c) e = no (cc)
same_units b (Peer x) (Feeder y) e = no (cc)
same_units b (Peer x) (Peer y) e = refl
same_units b (Peer x) Relay e = no (cc)
same_units b (Peer x) (Restored c) e = refl
same_units b Relay (Feeder y) e = no (cc)
same_units b Relay (Peer y) e = no (cc)
same_units b Relay Relay e = refl
same_units b Relay (Restored c) e = no (cc)
same_units b (Restored c) (Feeder y) e = no (cc)
same_units b (Restored c) (Peer y) e = refl
same_units b (Restored c) Relay e = no (cc)
same_units b (Restored c) (Restored d) e = refl

module _ (b : Shares) where
  abbrev pub each_units : List Place → List ℕ
  each_units ps = map (cost b) ps

  units_sum : (ps : List Place) → units b ps ≡ sum (each_units ps)
  unfolding units
  units_sum [] = refl
  units_sum (p ∷ ps) = ap (λ (n : ℕ). cost b p + n) (units_sum ps)

  each_length : (ps : List Place) → length (each_units ps) ≡ length ps
  each_length [] = refl
  each_length (p ∷ ps) = ap suc (each_length ps)

  -- ---- a draw
  gains : (who : Deliverer) (s : ℕ) (ps : List Place) → Gained (own_after b who ps) (each_units ps) (each_units (enter b who s ps))
  unfolding own_after enter entries_of with_pairs total
  gains who s [] = came
  gains who s (p ∷ ps) =
      by_test (same_deliverer who p.who)
      (λ e. simp (e, same_units b who p.who e, total_add) rose)
      (λ e. simp e (later (gains who s ps)))

  pub draw_sum : (who : Deliverer) (s : ℕ) (ps : List Place) → units b (enter b who s ps) ≤ units_after b who ps
  unfolding units_after units enter entries_of with_pairs total
  draw_sum who s [] = omega arith
  draw_sum who s (p ∷ ps) =
      by_test (same_deliverer who p.who)
      (λ e. simp (e, total_add) (omega arith))
      (λ e. simp e (let k = draw_sum who s ps in omega (arith, k)))

  held_sum : (who : Deliverer) (s : ℕ) (ps : List Place) → (entries_of who ps ≡ 0 → ⊥) → units b (enter b who s ps) ≡ suc (units b ps)
  unfolding units enter entries_of with_pairs
  held_sum who s [] h = absurd (h refl)
  held_sum who s (p ∷ ps) h =
      by_test (same_deliverer who p.who)
      (λ e. simp (e, total_add) (omega arith))
      (λ e. simp e (omega (arith, held_sum who s ps (simp e at h))))

  -- the holders afterwards are no more than the parties
  many : (who : Deliverer) (s : ℕ) (ps : List Place) → length (enter b who s ps) ≤ holders_with who ps
  unfolding holders_with enter entries_of
  many who s [] = omega arith
  many who s (p ∷ ps) =
      by_test (same_deliverer who p.who)
      (λ e. simp e (split_if (λ (n : ℕ). suc (length ps) ≤ n) (eqb (entries p) 0) (λ d. omega arith) (λ d. omega arith)))
      (λ e. simp e (by_test (eqb (entries_of who ps) 0)
      (λ d. simp d (let k : length (enter b who s ps) ≤ suc (length ps) = simp d at (many who s ps) in omega arith))
      (λ d. simp d (let k : length (enter b who s ps) ≤ length ps = simp d at (many who s ps) in omega arith))))

  -- a draw that is granted: the class stays within T, or the drawer within its equal part
  pub granted_within : {Q : Type 0} (l : Limits) (closed : Bool) (who : Deliverer) (s : ℕ) (ps : List Place) → granted (draw_test b l closed who s ps) ≡ true
      → (units_after b who ps ≤ together l (class_of who) → Q) → (own_after b who ps ≤ together l (class_of who) / holders_with who ps → Q) → Q
  unfolding draw_test draw_limits
  granted_within {Q} l closed who s ps g in-limit in_part =
      let t = together l (class_of who) in
      split_if (λ (x : Draw). granted x ≡ true → Q) closed (λ e k. no (cc))
      (λ e. split_if (λ (x : Draw). granted x ≡ true → Q) (not (below_share l who (entries_of who ps))) (λ d k. no (cc))
      (λ d. split_if (λ (x : Draw). granted x ≡ true → Q) (leb (units_after b who ps) t) (λ f k. in-limit (leb-true (units_after b who ps) t f))
      (λ f. split_if (λ (x : Draw). granted x ≡ true → Q) (not (fair who)) (λ i k. no (cc))
      (λ i. split_if (λ (x : Draw). granted x ≡ true → Q) (ltb (t / holders_with who ps) (own_after b who ps)) (λ j k. no (cc))
      (λ j k. in_part (ltb-false (t / holders_with who ps) (own_after b who ps) j)))))) g

  pub draw_shared : (l : Limits) (closed : Bool) (who : Deliverer) (s : ℕ) (ps : List Place) → granted (draw_test b l closed who s ps) ≡ true
      → Shared (together l (class_of who)) (each_units ps) → Shared (together l (class_of who)) (each_units (enter b who s ps))
  draw_shared l closed who s ps g h =
      let t = together l (class_of who) in
      let v = own_after b who ps in
      let n = holders_with who ps in
      granted_within l closed who s ps g
      (λ w. sum_shared t (each_units (enter b who s ps)) (omega (arith, draw_sum who s ps, units_sum (enter b who s ps))))
      (λ p. let m : length (each_units (enter b who s ps)) ≤ n = omega (arith, each_length (enter b who s ps), many who s ps) in
      let all : v ≤ t / 1 = part_le t v n 1 (omega arith) (omega (arith, gained_length v (gains who s ps))) p in
      part_shared t v (gains who s ps) (omega arith) (λ d. part_le t v n 2 (omega arith) (omega arith) p) h)

  -- ---- a draw given back, and entries that expire
  keeps_less : (qs : List Pair) (p : Place) (ps rest : List Place) → total qs ≤ entries p → Shrunk (each_units rest) (each_units ps)
      → Shrunk (each_units (keep_place qs p rest)) (each_units (p ∷ ps))
  unfolding keep_place with_pairs
  keeps_less [] p ps rest h s = lost s
  keeps_less (q ∷ qs) p ps rest h s = kept {x = total (q ∷ qs) + place_units b p.who} {y = cost b p} (omega arith) s

  pub drops : (who : Deliverer) (s : ℕ) (ps : List Place) → Shrunk (each_units (give_back who s ps)) (each_units ps)
  unfolding give_back
  drops who s [] = none_left
  drops who s (p ∷ ps) =
      split_if (λ (x : List Place). Shrunk (each_units x) (each_units (p ∷ ps))) (same_deliverer who p.who)
      (λ e. keeps_less (lower_pair s p.pairs) p ps ps (total_lower_le s p.pairs) (shrunk_same (each_units ps)))
      (λ e. kept {x = cost b p} {y = cost b p} (omega arith) (drops who s ps))

  expires : (t : ℕ) (ps : List Place) → Shrunk (each_units (later_places t ps)) (each_units ps)
  unfolding later_places
  expires t [] = none_left
  expires t (p ∷ ps) = keeps_less (later_pairs t p.pairs) p ps (later_places t ps) (total_later t p.pairs) (expires t ps)

  pub class_expires : (t : ℕ) (h : Held) → Shrunk (each_units (expire_class t h).places) (each_units h.places)
  unfolding expire_class
  class_expires t h =
      split_if (λ (x : Held). Shrunk (each_units x.places) (each_units h.places)) (ltb (cap32 (t + 2)) h.expired)
      (λ e. shrunk_same (each_units h.places))
      (λ e. split_if (λ (x : Held). Shrunk (each_units x.places) (each_units h.places)) (leb t h.expired)
      (λ d. shrunk_same (each_units h.places)) (λ d. expires _ h.places))

  -- ---- at most three parties: what keeps within its equal part keeps the class within twice its limit
  within_twice : (t : ℕ) (who : Deliverer) (ps : List Place) → Shared t (each_units ps) → holders_with who ps ≤ 3
      → own_after b who ps ≤ t / holders_with who ps → units_after b who ps ≤ 2 * t
  unfolding units_after own_after holders_with
  within_twice t who ps h few part =
      by_test (eqb (entries_of who ps) 0)
      (λ e. let few₁ : suc (length ps) ≤ 3 = simp e at few in
      let part₁ : suc (entries_of who ps) + place_units b who ≤ t / suc (length ps) = simp e at part in
      let all = twice t (suc (entries_of who ps) + place_units b who) (each_units ps) h (omega (arith, each_length ps))
      (subst (λ (n : ℕ). suc (entries_of who ps) + place_units b who ≤ t / suc n) (sym (each_length ps)) part₁) in
      simp e (omega (arith, all, units_sum ps)))
      (λ e. let g = gains who 0 ps in
      let o = others (own_after b who ps) g in
      let n : suc (length o.rest) ≤ holders_with who ps = omega (arith, o.as_many, each_length (enter b who 0 ps), many who 0 ps) in
      let all = twice t (own_after b who ps) o.rest (shrunk_shared t o.fewer h) (omega (arith, n, few))
      (part_le t (own_after b who ps) (holders_with who ps) (suc (length o.rest)) (omega arith) n part) in
      simp e (omega (arith, all, o.in_all, units_sum (enter b who 0 ps), held_sum who 0 ps (eqb-false (entries_of who ps) 0 e))))

  -- so it is granted
  pub grants : (l : Limits) (who : Deliverer) (s : ℕ) (ps : List Place) → Shared (together l (class_of who)) (each_units ps)
      → below_share l who (entries_of who ps) ≡ true → fair who ≡ true → holders_with who ps ≤ 3
      → own_after b who ps ≤ together l (class_of who) / holders_with who ps → place_free b who ps ≡ true → pair_free b who s ps ≡ true
      → draw_test b l false who s ps ≡ Granted
  unfolding draw_test draw_limits draw_room
  grants l who s ps h share fairly few part place pair =
      let t = together l (class_of who) in
      let one = le-ltb (t / holders_with who ps) (own_after b who ps) part in
      let two = le-ltb (2 * t) (units_after b who ps) (within_twice t who ps h few part) in
      by_test (leb (units_after b who ps) t) (λ e. simp (share, e, place, pair)) (λ e. simp (share, e, fairly, one, two, place, pair))
