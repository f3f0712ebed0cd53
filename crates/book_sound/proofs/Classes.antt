-- A class: its places lie behind its totals, and what the two loops answer is its test.
use Prim.Native.Nat.{ℕ, ◌-◌}
use native.Mathlib.Nat.{zero-add}
use native.Mathlib.Omega.{arith}
use mathlib.Core.Path.{◌≡◌, refl}
use mathlib.Core.Bool.{Bool, true, false, ◌&&◌, and-true, and-false}
use mathlib.Core.List.{List, [], ◌∷◌}
use lib.ListN.{length, get_or, take, drop, length-drop}
use lib.Seq.{take_all}
use lib.Dec.{leb, eqb}
use Rattle.runs.specs.Words.{same_words}
use Rattle.runs.specs.Combine.{read_up, test_up}
use Rattle.model.specs.declared.Class.{Class}
use Rattle.model.specs.declared.Shares.{Shares}
use Rattle.model.specs.Numbers.{top32}
use Rattle.model.specs.Widths.{class_head}
use Rattle.model.specs.Settings.{shares_fit}
use Rattle.model.specs.Book.{Place, entries_in, units}
use Rattle.model.specs.BookWords.{most_entries, place_form, used_place, distinct, class_form}
use Rattle.model.specs.Words.{class_width}
use Rattle.model.proofs.Bounds.{shares_bounds}
use Rattle.book_sound.specs.PlaceAt.{Few, Within, places_in, totals_rule}
use Rattle.numbers.specs.declared.units.Sums.{Sums}
use Rattle.numbers.specs.Sums.{no_sums}
use Rattle.book_sound.proofs.Adding.{summed, places_many}

pub few_of : (b : Shares) → shares_fit b ≡ true → Few b
few_of b fit =
    let k = shares_bounds b fit in
    record { places = k.places; pairs = k.pairs; feeder = k.feeder; peer = k.peer }

-- the words behind the totals
pub body_within : (b : Shares) (ws : List ℕ) → shares_fit b ≡ true → length ws ≡ class_width b → Within b (take (length ws - class_head) (drop class_head ws))
body_within b ws fit long =
    let k : take (length ws - class_head) (drop class_head ws) ≡ drop class_head ws = take_all (length ws - class_head) (drop class_head ws) (rw length-drop (omega arith)) in
    record { few = few_of b fit; long = rw (k, length-drop) (omega arith) }

-- the same tests in the order of the form
order : (x t d m s : Bool) → ((t && (m && s)) && (d && x)) ≡ ((x && (t && (d && m))) && s)
order false t d m s = rw (and-false d, and-false (t && (m && s)))
order true false d m s = refl
order true true false m s = and-false (m && s)
order true true true false s = refl
order true true true true s = and-true s

totals_are : (b : Shares) (t : Sums) (ps : List Place)
    → totals_rule b t no_sums ps
    ≡ (leb (entries_in ps) most_entries && same_words (t.entries ∷ t.holders ∷ t.units ∷ []) (entries_in ps ∷ length ps ∷ units b ps ∷ []))
unfolding totals_rule same_words
totals_are b t ps =
    rw (zero-add (entries_in ps), zero-add (length ps), zero-add (units b ps), and-true (eqb t.units (units b ps)))

module _ (b : Shares) (c : Class) where
  behind_totals : (t : Sums) (x : ℕ) (ws : List ℕ) → Within b ws
      → (summed b c ws t && (distinct (places_in b c ws) && leb x top32)) ≡ (class_form b c).test (t.entries ∷ t.holders ∷ t.units ∷ x ∷ ws)
  behind_totals t x ws w =
      let ps : List Place = read_up (place_form c b.pairs) used_place b.places ws in
      let n = places_many b ws w in
      rw (n, totals_are b t ps)
      (order (leb x top32) (test_up (place_form c b.pairs) used_place b.places ws) (distinct ps) (leb (entries_in ps) most_entries)
      (same_words (t.entries ∷ t.holders ∷ t.units ∷ []) (entries_in ps ∷ length ps ∷ units b ps ∷ [])))

  abbrev totals_at : List ℕ → Sums
  totals_at ws = record { entries = get_or ws 0 0; holders = get_or ws 1 0; units = get_or ws 2 0 }

  abbrev body_of : List ℕ → List ℕ
  body_of ws = take (length ws - class_head) (drop class_head ws)

  whole : (ws : List ℕ) → shares_fit b ≡ true → length ws ≡ class_width b
      → (summed b c (body_of ws) (totals_at ws) && (distinct (places_in b c (body_of ws)) && leb (get_or ws 3 0) top32)) ≡ (class_form b c).test ws
  whole [] fit long = absurd (omega arith)
  whole (E ∷ []) fit long = absurd (omega arith)
  whole (E ∷ H ∷ []) fit long = absurd (omega arith)
  whole (E ∷ H ∷ U ∷ []) fit long = absurd (omega arith)
  whole (E ∷ H ∷ U ∷ x ∷ ws) fit long =
      let w = body_within b (E ∷ H ∷ U ∷ x ∷ ws) fit long in
      let k : take (length (E ∷ H ∷ U ∷ x ∷ ws) - class_head) ws ≡ ws = take_all (length (E ∷ H ∷ U ∷ x ∷ ws) - class_head) ws (omega arith) in
      rw k (behind_totals (record { entries = E; holders = H; units = U }) x ws (rw k at w))

  module _ (ws : List ℕ) (fit : shares_fit b ≡ true) (long : length ws ≡ class_width b) where
    pub class_unsummed : false ≡ summed b c (body_of ws) (totals_at ws) → false ≡ (class_form b c).test ws
    class_unsummed t = rw (← t) at (whole ws fit long)

    module _ (t : true ≡ summed b c (body_of ws) (totals_at ws)) where
      pub class_twice : false ≡ distinct (places_in b c (body_of ws)) → false ≡ (class_form b c).test ws
      class_twice d = rw (← t, ← d) at (whole ws fit long)

      pub class_summed : true ≡ distinct (places_in b c (body_of ws)) → leb (get_or ws 3 0) top32 ≡ (class_form b c).test ws
      class_summed d = rw (← t, ← d) at (whole ws fit long)
