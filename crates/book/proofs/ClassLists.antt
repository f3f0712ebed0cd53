-- The model's rules on a list of places, by the index of the deliverer's place in it.
use Prim.Native.Nat.{ℕ, zero, suc, ◌+◌, ◌<◌, ◌≤◌}
use native.Mathlib.Omega.{arith}
use mathlib.Core.Path.{◌≡◌, refl, ap, sym}
use mathlib.Core.Bool.{true}
use mathlib.Core.List.{List, [], ◌∷◌, ◌++◌}
use lib.ListN.{length, get_or, take, drop}
use Rattle.model.specs.declared.Deliverer.{Deliverer}
use Rattle.model.specs.declared.Deliverer.TheVariants.{Feeder, Peer, Relay, Restored}
use Rattle.model.specs.declared.Shares.{Shares}
use Rattle.runs.proofs.Cases.{by_test}
use Rattle.model.specs.Class.{class_of, kind_of, same_deliverer}
use Rattle.model.specs.Book.{Place, entries, entries_in, units, entries_of, pairs_of, with_pairs, add_pair, lower_pair, new_place, enter, keep_place, give_back}
use Rattle.model.specs.BookWords.{number_word}
use Rattle.model.proofs.BookWords.{same_class_self}
use Rattle.book.specs.Rules.{names_by}
use Rattle.book.specs.ClassRules.{place_index}
use Rattle.pairs.proofs.PairLists.{eqb_comm}
use Rattle.book.proofs.ClassWords.{nobody}

-- ---- a place's deliverer by its two words
pub names_same : (who w : Deliverer) (mark : ℕ) → class_of who ≡ class_of w → names_by who (kind_of w) (number_word w mark) ≡ same_deliverer who w
unfolding kind_of same_deliverer class_of
names_same (Feeder x) (Feeder y) mark e = eqb_comm y x
names_same (Feeder x) (Peer y) mark e = refl
names_same (Feeder x) Relay mark e = refl
names_same (Feeder x) (Restored d) mark e = refl
names_same (Peer x) (Feeder y) mark e = refl
names_same (Peer x) (Peer y) mark e = eqb_comm y x
names_same (Peer x) Relay mark e = refl
names_same (Peer x) (Restored d) mark e = refl
names_same Relay (Feeder y) mark e = refl
names_same Relay (Peer y) mark e = refl
names_same Relay Relay mark e = refl
names_same Relay (Restored d) mark e = refl
names_same (Restored c) (Feeder y) mark e = refl
names_same (Restored c) (Peer y) mark e = refl
names_same (Restored c) Relay mark e = refl
names_same (Restored c) (Restored d) mark e = sym (rw e (same_class_self d))

-- ---- a deliverer's index
pub index_le : (who : Deliverer) (ps : List Place) → place_index who ps ≤ length ps
unfolding place_index
index_le who [] = omega arith
index_le who (p ∷ ps) =
    by_test (same_deliverer who p.who) (λ e. simp e (omega arith)) (λ e. simp e (omega (arith, index_le who ps)))

-- it has a place
module _ (who : Deliverer) (s : ℕ) where
  pub index_same : (ps : List Place) → place_index who ps < length ps → same_deliverer who (get_or ps (place_index who ps) nobody).who ≡ true
  unfolding place_index
  index_same [] h = absurd (omega arith)
  index_same (p ∷ ps) h =
      by_test (same_deliverer who p.who)
      (λ e. simp e)
      (λ e. simp e (index_same ps (let k : suc (place_index who ps) < suc (length ps) = simp e at h in omega arith)))

  pub entries_at : (ps : List Place) → place_index who ps < length ps → entries_of who ps ≡ entries (get_or ps (place_index who ps) nobody)
  unfolding place_index entries_of
  entries_at [] h = absurd (omega arith)
  entries_at (p ∷ ps) h =
      by_test (same_deliverer who p.who)
      (λ e. simp e)
      (λ e. simp e (entries_at ps (let k : suc (place_index who ps) < suc (length ps) = simp e at h in omega arith)))

  pub pairs_at : (ps : List Place) → place_index who ps < length ps → pairs_of who ps ≡ (get_or ps (place_index who ps) nobody).pairs
  unfolding place_index pairs_of
  pairs_at [] h = absurd (omega arith)
  pairs_at (p ∷ ps) h =
      by_test (same_deliverer who p.who)
      (λ e. simp e)
      (λ e. simp e (pairs_at ps (let k : suc (place_index who ps) < suc (length ps) = simp e at h in omega arith)))

  pub enter_at : (b : Shares) (ps : List Place) (i : ℕ) → place_index who ps ≡ i → i < length ps → enter b who s ps
      ≡ take i ps ++ with_pairs (add_pair s (get_or ps i nobody).pairs) (get_or ps i nobody) ∷ drop (suc i) ps
  unfolding place_index enter
  enter_at b [] i e h = absurd (omega arith)
  enter_at b (p ∷ ps) zero e h =
      by_test (same_deliverer who p.who)
      (λ d. simp d)
      (λ d. absurd (let k : suc (place_index who ps) ≡ 0 = simp d at e in omega arith))
  enter_at b (p ∷ ps) (suc i) e h =
      by_test (same_deliverer who p.who)
      (λ d. absurd (let k : 0 ≡ suc i = simp d at e in omega arith))
      (λ d. simp d (ap (λ (l : List Place). p ∷ l) (enter_at b ps i (let k : suc (place_index who ps) ≡ suc i = simp d at e in omega arith) (omega arith))))

  pub back_at : (ps : List Place) (i : ℕ) → place_index who ps ≡ i → i < length ps → give_back who s ps
      ≡ take i ps ++ keep_place (lower_pair s (get_or ps i nobody).pairs) (get_or ps i nobody) (drop (suc i) ps)
  unfolding place_index give_back
  back_at [] i e h = absurd (omega arith)
  back_at (p ∷ ps) zero e h =
      by_test (same_deliverer who p.who)
      (λ d. simp d)
      (λ d. absurd (let k : suc (place_index who ps) ≡ 0 = simp d at e in omega arith))
  back_at (p ∷ ps) (suc i) e h =
      by_test (same_deliverer who p.who)
      (λ d. absurd (let k : 0 ≡ suc i = simp d at e in omega arith))
      (λ d. simp d (ap (λ (l : List Place). p ∷ l) (back_at ps i (let k : suc (place_index who ps) ≡ suc i = simp d at e in omega arith) (omega arith))))

  -- it has none
  pub entries_none : (ps : List Place) → length ps ≤ place_index who ps → entries_of who ps ≡ 0
  unfolding place_index entries_of
  entries_none [] h = refl
  entries_none (p ∷ ps) h =
      by_test (same_deliverer who p.who)
      (λ e. absurd (let k : suc (length ps) ≤ 0 = simp e at h in omega arith))
      (λ e. simp e (entries_none ps (let k : suc (length ps) ≤ suc (place_index who ps) = simp e at h in omega arith)))

  pub pairs_none : (ps : List Place) → length ps ≤ place_index who ps → pairs_of who ps ≡ []
  unfolding place_index pairs_of
  pairs_none [] h = refl
  pairs_none (p ∷ ps) h =
      by_test (same_deliverer who p.who)
      (λ e. absurd (let k : suc (length ps) ≤ 0 = simp e at h in omega arith))
      (λ e. simp e (pairs_none ps (let k : suc (length ps) ≤ suc (place_index who ps) = simp e at h in omega arith)))

  pub enter_none : (b : Shares) (ps : List Place) → length ps ≤ place_index who ps → enter b who s ps ≡ ps ++ new_place b who s ∷ []
  unfolding place_index enter
  enter_none b [] h = refl
  enter_none b (p ∷ ps) h =
      by_test (same_deliverer who p.who)
      (λ e. absurd (let k : suc (length ps) ≤ 0 = simp e at h in omega arith))
      (λ e. simp e (ap (λ (l : List Place). p ∷ l) (enter_none b ps (let k : suc (length ps) ≤ suc (place_index who ps) = simp e at h in omega arith))))

  pub back_none : (ps : List Place) → length ps ≤ place_index who ps → give_back who s ps ≡ ps
  unfolding place_index give_back
  back_none [] h = refl
  back_none (p ∷ ps) h =
      by_test (same_deliverer who p.who)
      (λ e. absurd (let k : suc (length ps) ≤ 0 = simp e at h in omega arith))
      (λ e. simp e (ap (λ (l : List Place). p ∷ l) (back_none ps (let k : suc (length ps) ≤ suc (place_index who ps) = simp e at h in omega arith))))

-- ---- sums over two lists
pub entries_append : (xs ys : List Place) → entries_in (xs ++ ys) ≡ entries_in xs + entries_in ys
unfolding entries_in
entries_append [] ys = omega arith
entries_append (p ∷ xs) ys = omega (arith, entries_append xs ys)

pub units_append : (b : Shares) (xs ys : List Place) → units b (xs ++ ys) ≡ units b xs + units b ys
unfolding units
units_append b [] ys = omega arith
units_append b (p ∷ xs) ys = omega (arith, units_append b xs ys)
