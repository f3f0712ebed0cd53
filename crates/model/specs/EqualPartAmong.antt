-- Equal part (specs/EqualPart) among events (specs/Once): calls that come later say which kind of event they are, and the promise holds
-- among them.
use Rattle.std.specs.Prelude.{ℕ, ◌≡◌, Option, Some, None, List, [], ◌∷◌}
use Rattle.model.specs.View.{kept_settings, view, words_after}
use Rattle.model.specs.Once.{Event, Calls, Replaces, Aside, left_by_event}
use Rattle.model.specs.EqualPart.{Since, since_opening, Promised}

-- what stands aside leaves the settings and the state that the words hold
pub record LeavesHeld (ws after : List ℕ) : Type 0 where
  pub settings : kept_settings after ≡ kept_settings ws
  pub state : view after ≡ view ws

abbrev pub HeldAside : List ℕ → List Event → Type 0
HeldAside ws [] = Unit {0}
HeldAside ws (Calls gs ∷ es) = HeldAside (words_after ws gs) es
HeldAside ws (Replaces after ∷ es) = HeldAside after es
HeldAside ws (Aside after ∷ es) = LeavesHeld ws after × HeldAside after es

-- of words that were put in place of these nothing is known until an opening went through
unfoldable pub since_among : Option Since → List ℕ → List Event → Option Since
since_among k ws [] = k
since_among k ws (Calls gs ∷ es) = since_among (since_opening k ws gs) (words_after ws gs) es
since_among k ws (Replaces after ∷ es) = since_among None after es
since_among k ws (Aside after ∷ es) = since_among k after es

unfoldable pub words_among : List ℕ → List Event → List ℕ
words_among ws [] = ws
words_among ws (e ∷ es) = words_among (left_by_event ws e) es

abbrev pub EqualPartAmong : List ℕ → List Event → Type 0
EqualPartAmong start events =
    HeldAside start events → (x : Since) → since_among None start events ≡ Some x → Promised x (words_among start events)
