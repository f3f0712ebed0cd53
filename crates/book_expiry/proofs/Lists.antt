-- The model's later places, one place after the other, and their sums.
use Prim.Native.Nat.{ℕ, suc, ◌-◌, ◌*◌, ◌<◌, ◌≤◌}
use native.Mathlib.Omega.{arith}
use mathlib.Core.Path.{◌≡◌, refl, ap, sym, subst, ◌∙◌}
use mathlib.Core.Bool.{cond}
use mathlib.Core.List.{List, [], ◌∷◌, ◌++◌, append-nil}
use lib.ListN.{length, get_or, take, drop, replicate, length-append, length-drop, length-replicate, take-append-drop}
use lib.Seq.{take-suc}
use lib.Dec.{eqb}
use borrow.Author.Tests.{eq-eqb, ne_eqb}
use Rattle.model.specs.declared.Class.{Class}
use Rattle.model.specs.declared.Shares.{Shares}
use Rattle.model.specs.Widths.{place_width}
use Rattle.model.specs.Book.{Pair, Place, total, entries_in, units, with_pairs, keep_place, later_pairs, later_places}
use Rattle.model.specs.BookWords.{encode_place, PlaceOk}
use Rattle.model.proofs.BookWords.{length_pairs}
use Rattle.model.proofs.Pairs.{total_later}
use Rattle.model.proofs.Places.{PlacesOk, fewer_length, fewer_entries, fewer_places, later_fewer}
use Rattle.book.proofs.ClassWords.{nobody, ok_append}
use Rattle.book_expiry.specs.Walks.{expired_words, between}
use Rattle.book.proofs.ClassLists.{entries_append, units_append}

-- ---- a place comes after others, or is gone
keep_append : (qs : List Pair) (p : Place) (xs ys : List Place) → keep_place qs p (xs ++ ys) ≡ keep_place qs p xs ++ ys
unfolding keep_place
keep_append [] p xs ys = refl
keep_append (q ∷ qs) p xs ys = refl

later_append : (t : ℕ) (xs ys : List Place) → later_places t (xs ++ ys) ≡ later_places t xs ++ later_places t ys
unfolding later_places
later_append t [] ys = refl
later_append t (p ∷ xs) ys = rw (later_append t xs ys) (keep_append (later_pairs t p.pairs) p (later_places t xs) (later_places t ys))

later_one : (t : ℕ) (p : Place) → later_places t (p ∷ []) ≡ keep_place (later_pairs t p.pairs) p []
unfolding later_places
later_one t p = refl

keep_gone : (qs : List Pair) (p : Place) → length qs ≡ 0 → keep_place qs p [] ≡ []
unfolding keep_place
keep_gone [] p e = refl
keep_gone (q ∷ qs) p e = absurd (omega arith)

keep_here : (qs : List Pair) (p : Place) → (length qs ≡ 0 → ⊥) → keep_place qs p [] ≡ with_pairs qs p ∷ []
unfolding keep_place
keep_here [] p e = absurd (e refl)
keep_here (q ∷ qs) p e = refl

module _ (t i : ℕ) (ps : List Place) (h : i < length ps) where
  abbrev here : Place
  here = get_or ps i nobody

  later_suc : later_places t (take (suc i) ps) ≡ later_places t (take i ps) ++ keep_place (later_pairs t here.pairs) here []
  later_suc =
      ap (later_places t) (take-suc ps i nobody h) ∙ later_append t (take i ps) (here ∷ [])
      ∙ ap (λ (l : List Place). later_places t (take i ps) ++ l) (later_one t here)

  pub later_gone : length (later_pairs t here.pairs) ≡ 0 → later_places t (take (suc i) ps) ≡ later_places t (take i ps)
  later_gone e = later_suc ∙ rw (keep_gone (later_pairs t here.pairs) here e, append-nil)

  pub later_here : (length (later_pairs t here.pairs) ≡ 0 → ⊥)
      → later_places t (take (suc i) ps) ≡ later_places t (take i ps) ++ with_pairs (later_pairs t here.pairs) here ∷ []
  later_here e = later_suc ∙ rw (keep_here (later_pairs t here.pairs) here e)

-- ---- the words between
between_append : (W t : ℕ) (xs ys : List Place) (gap : List ℕ) → between W t gap (xs ++ ys) ≡ between W t (between W t gap xs) ys
unfolding between
between_append W t [] ys gap = refl
between_append W t (p ∷ xs) ys gap = between_append W t xs ys _

module _ (W t i : ℕ) (ps : List Place) (h : i < length ps) (gap : List ℕ) (is : gap ≡ between W t [] (take i ps)) where
  between_suc : between W t [] (take (suc i) ps)
      ≡ drop (cond (eqb (length (later_pairs t (get_or ps i nobody).pairs)) 0) 0 W) (gap ++ expired_words t (get_or ps i nobody))
  unfolding between
  between_suc = ap (between W t []) (take-suc ps i nobody h) ∙ between_append W t (take i ps) (get_or ps i nobody ∷ []) [] ∙ rw is

  pub between_gone : length (later_pairs t (get_or ps i nobody).pairs) ≡ 0
      → gap ++ expired_words t (get_or ps i nobody) ≡ between W t [] (take (suc i) ps)
  between_gone e = rw (between_suc, eq-eqb (length (later_pairs t (get_or ps i nobody).pairs)) 0 e)

  pub between_here : (length (later_pairs t (get_or ps i nobody).pairs) ≡ 0 → ⊥)
      → drop W (gap ++ expired_words t (get_or ps i nobody)) ≡ between W t [] (take (suc i) ps)
  between_here n = rw (between_suc, ne_eqb (length (later_pairs t (get_or ps i nobody).pairs)) 0 n)

-- ---- a place with fewer pairs takes as many words
pub fewer_long : (c : Class) (E : ℕ) (qs : List Pair) (p : Place) → PlaceOk c E p → length qs ≤ length p.pairs
    → length (encode_place (with_pairs qs p)) ≡ place_width E
unfolding with_pairs
fewer_long c E qs p ok h =
    let k = ok.cells in
    let l = length_pairs qs in
    let z : length (replicate {A = ℕ} (2 * (length p.pairs - length qs)) 0) ≡ 2 * (length p.pairs - length qs) = length-replicate (2 * (length p.pairs - length qs)) 0 in
    let d = length-drop (2 * (length qs - length p.pairs)) p.past in
    rw (length-append, length-append) (omega arith)

-- ---- what is left of the first i places is no more than there is
units_keep : (b : Shares) (qs : List Pair) (p : Place) (xs ps : List Place) → total qs ≤ total p.pairs → units b xs ≤ units b ps
    → units b (keep_place qs p xs) ≤ units b (p ∷ ps)
unfolding keep_place with_pairs units
units_keep b [] p xs ps h k = omega arith
units_keep b (q ∷ qs) p xs ps h k = omega arith

later_units : (b : Shares) (t : ℕ) (ps : List Place) → units b (later_places t ps) ≤ units b ps
unfolding later_places
later_units b t [] = omega arith
later_units b t (p ∷ ps) = units_keep b (later_pairs t p.pairs) p (later_places t ps) ps (total_later t p.pairs) (later_units b t ps)

module _ (b : Shares) (c : Class) (t i : ℕ) (ps : List Place) where
  pub first_units : units b (later_places t (take i ps)) ≤ units b ps
  first_units =
      let l = later_units b t (take i ps) in
      let a = ap (units b) (sym (take-append-drop i ps)) ∙ units_append b (take i ps) (drop i ps) in
      omega arith

  module _ (ok : PlacesOk c b.pairs 0 ps) where
    first_ok : PlacesOk c b.pairs 0 (take i ps)
    first_ok = (ok_append c b.pairs 0 0 (take i ps) (drop i ps) (subst (PlacesOk c b.pairs 0) (sym (take-append-drop i ps)) ok)).0

    pub kept_ok : PlacesOk c b.pairs 0 (later_places t (take i ps))
    kept_ok = fewer_places c b.pairs 0 0 (later_fewer c b.pairs t 0 (take i ps) first_ok) first_ok

    pub first_entries : entries_in (later_places t (take i ps)) ≤ entries_in ps
    first_entries =
        let l = fewer_entries (later_fewer c b.pairs t 0 (take i ps) first_ok) in
        let a = ap entries_in (sym (take-append-drop i ps)) ∙ entries_append (take i ps) (drop i ps) in
        omega arith

    pub first_length : length (later_places t (take i ps)) ≤ length ps
    first_length =
        let l = fewer_length (later_fewer c b.pairs t 0 (take i ps) first_ok) in
        let a = ap length (sym (take-append-drop i ps)) ∙ length-append (take i ps) (drop i ps) in
        omega arith
