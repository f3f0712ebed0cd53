-- A deliverer and a second that were looked up: where they lie in the words.
use Prim.Native.Nat.{ℕ, ◌+◌, ◌-◌, ◌*◌, ◌<◌}
use native.Mathlib.Omega.{arith}
use mathlib.Core.Path.{◌≡◌, refl, ap, sym, ◌∙◌}
use mathlib.Core.Bool.{Bool, true, false}
use mathlib.Core.List.{List}
use Rattle.std.proofs.Common.{Ok, Err}
use lib.ListN.{length, get_or}
use lib.Dec.{ltb}
use borrow.Author.Tests.{ltb-true, ltb-false}
use borrow.Rule.Slice.PartMut.{mid_of}
use Rattle.model.specs.declared.Deliverer.{Deliverer}
use Rattle.model.specs.declared.Shares.{Shares}
use Rattle.runs.proofs.Cases.{by_test}
use Rattle.model.specs.Widths.{class_head, place_width}
use Rattle.model.specs.Class.{class_of}
use Rattle.model.specs.Book.{Place, entries_of, pairs_of, listed}
use Rattle.model.specs.BookWords.{encode_place, PlaceOk}
use Rattle.book.specs.declared.Spot.{Spot}
use Rattle.pairs.specs.Pairs.{before, second_at}
use Rattle.book.specs.PlaceRules.{Wide, found_at}
use Rattle.book.specs.ClassRules.{ClassIs, place_index, Found}
use Rattle.pairs.proofs.PairLists.{listed_at}
use Rattle.book.proofs.ClassWords.{nobody, here_ok, seen_here}
use Rattle.book.proofs.ClassLists.{entries_none, pairs_at}
use Rattle.book.proofs.Finding.{place_wide}

-- ---- the pair of a second
found_ok : (hit : Bool) (n k : ℕ) → found_at hit n ≡ Ok k → (hit ≡ true) × (k ≡ n)
found_ok true n k e = (refl, cc)
found_ok false n k e = absurd (cc)

found_err : (hit : Bool) (n k : ℕ) → found_at hit n ≡ Err k → (hit ≡ false) × (k ≡ n)
found_err true n k e = absurd (cc)
found_err false n k e = (refl, cc)

module _ (b : Shares) (who : Deliverer) (ws : List ℕ) (spot : Spot) (f : Found b who ws spot) where
  abbrev pub cw : ClassIs b (class_of who) ws
  cw = f.class

  abbrev pub xs : List Place
  xs = f.class.is.value.places

  pub at_index : spot.place ≡ place_index who xs
  at_index = ap (λ (z : Spot). z.place) f.at

  pub at_entries : spot.seen.entries ≡ entries_of who xs
  at_entries = ap (λ (z : Spot). z.seen.entries) f.at

  at_pair : spot.seen.pair ≡ found_at (listed spot.second (pairs_of who xs)) (before spot.second (pairs_of who xs))
  at_pair = ap (λ (z : Spot). z.seen.pair) f.at

  -- the second is listed at pair k
  pub at_listed : (k : ℕ) → spot.seen.pair ≡ Ok k → (listed spot.second (pairs_of who xs) ≡ true) × (k ≡ before spot.second (pairs_of who xs))
  at_listed k e = found_ok _ _ k (sym at_pair ∙ e)

  -- it is not, and would come before pair k
  pub at_unlisted : (k : ℕ) → spot.seen.pair ≡ Err k → (listed spot.second (pairs_of who xs) ≡ false) × (k ≡ before spot.second (pairs_of who xs))
  at_unlisted k e = found_err _ _ k (sym at_pair ∙ e)

  -- ---- the deliverer has a place
  module _ (some : spot.seen.entries ≡ 0 → ⊥) where
    pub has_one : spot.place < length xs
    has_one =
        let e = at_entries in
        let i = at_index in
        by_test (ltb (place_index who xs) (length xs))
        (λ t. let k = ltb-true (place_index who xs) (length xs) t in omega arith)
        (λ f. absurd (some (at_entries ∙ entries_none who spot.second xs (ltb-false (place_index who xs) (length xs) f))))

    module _ (a e : ℕ) (ha : a ≡ class_head + spot.place * place_width b.pairs) (he : e ≡ a + place_width b.pairs) where
      abbrev pub here : Place
      here = get_or f.class.is.value.places spot.place nobody

      pub here_fine : PlaceOk (class_of who) b.pairs here
      here_fine = here_ok b (class_of who) ws cw spot.place has_one

      pub here_seen : mid_of a (e - a) ws ≡ encode_place here
      here_seen = seen_here b (class_of who) ws cw spot.place has_one a e ha he

      pub here_pairs : pairs_of who xs ≡ here.pairs
      here_pairs =
          let i = at_index in
          let q = pairs_at who spot.second xs (let l = has_one in omega arith) in
          rw (← i) at q

      pub listed_here : listed spot.second (pairs_of who xs) ≡ second_at spot.second (before spot.second here.pairs) here.pairs
      listed_here = ap (listed spot.second) here_pairs ∙ listed_at 0 spot.second here.pairs here_fine.pairs

      pub before_here : before spot.second (pairs_of who xs) ≡ before spot.second here.pairs
      before_here = ap (before spot.second) here_pairs

      pub wide : Wide (mid_of a (e - a) ws)
      wide = rw here_seen (place_wide (class_of who) b.pairs here here_fine cw.pairs)
