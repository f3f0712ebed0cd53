-- Words that are still to be written: the first of them, and then the rest.
use Prim.Native.Nat.{ℕ, ◌+◌, ◌<◌, ◌≤◌}
use native.Mathlib.Numerals.{add-one}
use mathlib.Core.Path.{◌≡◌, sym, ◌∙◌}
use mathlib.Core.List.{List, [], ◌∷◌, ◌++◌}
use lib.ListN.{length, get_or, set, drop, drop_of_length-le}
use lib.Seq.{drop-cons}
use Rattle.runs.specs.Over.{written, Fits, Puts}
use borrow.Author.Tests.{eq-eqb, ne_eqb}
use Rattle.runs.proofs.Over.{one_then, written_none, Writes, writes_fits, writes_on, writes_end}
use Rattle.model.specs.Dump.{fingerprints}
use Rattle.dump.specs.Parts.{shown}
use Rattle.dump.proofs.Turns.{Rest, parts_step, parts_none}

module _ {enc : ℕ → List ℕ} {k p p₀ : ℕ} {out ws₀ out₀ all : List ℕ} where
  pub first_fits : (us vs : List ℕ) → all ≡ us ++ vs → Writes enc k p all out p₀ ws₀ out₀ → Fits k p us out
  first_fits us vs split w = writes_fits us vs (rw split at w)

  pub first_on : (us vs : List ℕ) → all ≡ us ++ vs → Writes enc k p all out p₀ ws₀ out₀ → ((n : ℕ) → length (enc n) ≡ k)
      → {after : List ℕ} {r : ℕ} → Puts enc k p us out after r → Writes enc k r vs after p₀ ws₀ out₀
  first_on us vs split w wide d = writes_on wide us vs (rw split at w) d

  pub none_left : all ≡ [] → Writes enc k p all out p₀ ws₀ out₀ → Puts enc k p₀ ws₀ out₀ out p
  none_left e w = writes_end (rw e at w)

-- ---- runs of one width, of which each is shown: the next of them is x, and q is left
module _ {P : List ℕ → Type 0} {enc : ℕ → List ℕ} {k size j p p₀ : ℕ} {r out ws₀ out₀ : List ℕ} (f : List ℕ → List ℕ) where
  module _ (x q : List ℕ) (split : (r ≡ x ++ q) × (length x ≡ size)) (rest : Rest P k size r) (w : Writes enc j p (shown f k r) out p₀ ws₀ out₀) where
    pub next_fits : Fits j p (f x) out
    next_fits = first_fits (f x) (shown f k q) (parts_step x q split rest f) w

    pub next_on : ((n : ℕ) → length (enc n) ≡ j) → {after : List ℕ} {at : ℕ} → Puts enc j p (f x) out after at
        → Writes enc j at (shown f k q) after p₀ ws₀ out₀
    next_on wide d = first_on (f x) (shown f k q) (parts_step x q split rest f) w wide d

  pub all_written : length r < size → Rest P k size r → Writes enc j p (shown f k r) out p₀ ws₀ out₀ → Puts enc j p₀ ws₀ out₀ out p
  all_written short rest w = none_left (parts_none short rest f) w

-- a word that is set is one word written
pub set_one : (p v : ℕ) (out : List ℕ) → p < length out → set out p v ≡ written p (v ∷ []) out
set_one p v out h = sym (written_none (p + 1) (set out p v)) ∙ one_then p v [] out h

-- ---- words, and the fingerprints of slots, by position
module _ (ws : List ℕ) (i : ℕ) where
  pub words_split : i < length ws → drop i ws ≡ (get_or ws i 0 ∷ []) ++ drop (i + 1) ws
  words_split h = rw (drop-cons ws i 0 h, add-one)

  -- a held slot is written, an empty one is not
  pub prints_held : i < length ws → (get_or ws i 0 ≡ 0 → ⊥) → fingerprints (drop i ws) ≡ (get_or ws i 0 ∷ []) ++ fingerprints (drop (i + 1) ws)
  unfolding fingerprints
  prints_held h n = rw (drop-cons ws i 0 h, add-one, ne_eqb (get_or ws i 0) 0 n)

  pub prints_empty : i < length ws → get_or ws i 0 ≡ 0 → fingerprints (drop i ws) ≡ fingerprints (drop (i + 1) ws)
  unfolding fingerprints
  prints_empty h z = rw (drop-cons ws i 0 h, add-one, eq-eqb (get_or ws i 0) 0 z)

  pub words_end : length ws ≤ i → drop i ws ≡ []
  words_end h = drop_of_length-le ws {i = i} h

  pub prints_end : length ws ≤ i → fingerprints (drop i ws) ≡ []
  unfolding fingerprints
  prints_end h = rw (drop_of_length-le ws {i = i} h)
