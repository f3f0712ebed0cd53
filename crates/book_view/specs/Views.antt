-- A deliverer's view, written into an output: said of every class that the words may be.
use Rattle.std.specs.Prelude.{ℕ, ◌≤◌, ◌≡◌, List, [], ◌∷◌, ◌++◌, length, get_or}
use Rattle.model.specs.declared.Deliverer.{Deliverer}
use Rattle.model.specs.declared.Shares.{Shares}
use Rattle.runs.specs.Chunks.{flat}
use Rattle.model.specs.Class.{class_of}
use Rattle.model.specs.Book.{Place, Held, entries_of, pairs_of}
use Rattle.model.specs.BookWords.{pair_words, class_form}
use Rattle.model.specs.Calls.{written_over}
use Rattle.book.specs.PlaceRules.{pairs_in}
use Rattle.book.specs.ClassRules.{ClassReads}

-- by the places of its class: the model's `deliverer_view` is this of the places of the deliverer's class
abbrev pub places_view : Deliverer → List Place → List ℕ
places_view who ps = flat pair_words (pairs_of who ps) ++ (entries_of who ps ∷ [])

-- by the words of its place
abbrev pub place_view : List ℕ → List ℕ
place_view ws = flat pair_words (pairs_in ws) ++ (get_or ws 2 0 ∷ [])

-- words are written over the output's first, and n is how many they are
pub record Writes (shown before after : List ℕ) (n : ℕ) : Type 0 where
  pub out : after ≡ written_over shown before
  pub count : n ≡ length shown

-- the output has room for the view
pub record HoldsView (b : Shares) (who : Deliverer) (ws out : List ℕ) : Type 0 where
  pub room : (h : Held) → (class_form b (class_of who)).Ok h → ws ≡ (class_form b (class_of who)).enc h
      → length (places_view who h.places) ≤ length out

-- it is written over the output's first, and n is how long it is
pub record ViewsPlaces (b : Shares) (who : Deliverer) (ws before after : List ℕ) (n : ℕ) : Type 0 where
  pub out : ClassReads b (class_of who) (λ h. written_over (places_view who h.places) before) ws after
  pub count : ClassReads b (class_of who) (λ h. length (places_view who h.places)) ws n
