-- The two loops that tell deliverers apart, a turn at a time.
use Prim.Native.Nat.{ℕ, ◌<◌}
use mathlib.Core.Path.{◌≡◌, ◌∙◌}
use mathlib.Core.Bool.{true, false, not, ◌&&◌, ◌||◌}
use mathlib.Core.List.{List, ◌++◌}
use lib.ListN.{length, get_or}
use Rattle.model.specs.declared.Class.{Class}
use Rattle.model.specs.declared.Deliverer.{Deliverer}
use Rattle.model.specs.declared.Shares.{Shares}
use Rattle.model.specs.Widths.{place_width}
use Rattle.model.specs.Class.{same_deliverer}
use Rattle.model.specs.BookWords.{read_who, has_place, distinct, used_place}
use Rattle.book_sound.specs.PlaceAt.{places_in}
use Rattle.book_sound.proofs.Chunks.{read_next, read_last}

-- the loop that looks for who is left with the words r
pub record Seeks (b : Shares) (c : Class) (ws : List ℕ) (who : Deliverer) (size : ℕ) (r : List ℕ) : Type 0 where
  pub wide : size ≡ place_width b.pairs
  pub goes : has_place who (places_in b c r) ≡ has_place who (places_in b c ws)

module _ {b : Shares} {c : Class} {ws : List ℕ} {who : Deliverer} {size : ℕ} {r : List ℕ} (l : Seeks b c ws who size r) where
  pub seeks_end : length r < size → false ≡ has_place who (places_in b c ws)
  unfolding has_place
  seeks_end h = rw (read_last b c r h l.wide) at l.goes

  module _ (x q : List ℕ) (split : (r ≡ x ++ q) × (length x ≡ size)) where
    pub seeks_none : false ≡ used_place x → false ≡ has_place who (places_in b c ws)
    unfolding has_place
    seeks_none u = rw (read_next b c x q split l.wide, ← u) at l.goes

    module _ (u : true ≡ used_place x) where
      seen : (same_deliverer who (read_who c (get_or x 0 0) (get_or x 1 0)) || has_place who (places_in b c q)) ≡ has_place who (places_in b c ws)
      unfolding has_place
      seen = rw (read_next b c x q split l.wide, ← u) at l.goes

      pub seeks_hit : true ≡ same_deliverer who (read_who c (get_or x 0 0) (get_or x 1 0)) → true ≡ has_place who (places_in b c ws)
      seeks_hit t = rw (← t) at seen

      pub seeks_on : false ≡ same_deliverer who (read_who c (get_or x 0 0) (get_or x 1 0)) → {s : ℕ} → s ≡ size → Seeks b c ws who s q
      seeks_on t e = record { wide = e ∙ l.wide; goes = rw (← t) at seen }

-- the loop that tests each place against the later ones is left with the words r
pub record Apart (b : Shares) (c : Class) (ws : List ℕ) (size : ℕ) (r : List ℕ) : Type 0 where
  pub wide : size ≡ place_width b.pairs
  pub goes : distinct (places_in b c r) ≡ distinct (places_in b c ws)

module _ {b : Shares} {c : Class} {ws : List ℕ} {size : ℕ} {r : List ℕ} (l : Apart b c ws size r) where
  pub apart_end : length r < size → true ≡ distinct (places_in b c ws)
  unfolding distinct
  apart_end h = rw (read_last b c r h l.wide) at l.goes

  module _ (x q : List ℕ) (split : (r ≡ x ++ q) × (length x ≡ size)) where
    pub apart_none : false ≡ used_place x → true ≡ distinct (places_in b c ws)
    unfolding distinct
    apart_none u = rw (read_next b c x q split l.wide, ← u) at l.goes

    module _ (u : true ≡ used_place x) (later : List ℕ) (is : later ≡ q) where
      met : (not (has_place (read_who c (get_or x 0 0) (get_or x 1 0)) (places_in b c later)) && distinct (places_in b c q)) ≡ distinct (places_in b c ws)
      unfolding distinct
      met = rw is (rw (read_next b c x q split l.wide, ← u) at l.goes)

      pub apart_met : true ≡ has_place (read_who c (get_or x 0 0) (get_or x 1 0)) (places_in b c later) → false ≡ distinct (places_in b c ws)
      apart_met t = rw (← t) at met

      pub apart_on : false ≡ has_place (read_who c (get_or x 0 0) (get_or x 1 0)) (places_in b c later) → {s : ℕ} → s ≡ size → Apart b c ws s q
      apart_on t e = record { wide = e ∙ l.wide; goes = rw (← t) at met }
