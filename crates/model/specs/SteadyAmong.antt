-- Clocks that never fall (specs/Steady) among events (specs/Once): calls that come later say which kind of event they are, and the promise
-- holds among them. Words that are put in place of these end it until an opening; what stands aside leaves it.
use Rattle.std.specs.Prelude.{ℕ, ◌≡◌, Option, Some, None, List, [], ◌∷◌}
use Rattle.model.specs.Calls.{reading_of}
use Rattle.model.specs.View.{words_after}
use Rattle.model.specs.Once.{Event, Calls, Replaces, Aside, AllAside}
use Rattle.model.specs.EqualPartAmong.{words_among}
use Rattle.model.specs.Steady.{taking_of, Readings, Clock, clock_since, NeverLateOn}

unfoldable pub clock_among : Readings → ℕ → Option Clock → List ℕ → List Event → Option Clock
clock_among brings r c ws [] = c
clock_among brings r c ws (Calls gs ∷ es) = clock_among brings r (clock_since brings r c ws gs) (words_after ws gs) es
clock_among brings r c ws (Replaces after ∷ es) = clock_among brings r None after es
clock_among brings r c ws (Aside after ∷ es) = clock_among brings r c after es

abbrev pub AmongEvents : Readings → List ℕ → List Event → Type 0
AmongEvents brings start events =
    (r : ℕ) → AllAside r start events → (c : Clock) → clock_among brings r None start events ≡ Some c → NeverLateOn r c (words_among start events)

-- THE PROMISE, among events; and with the readings of takes alone
abbrev pub SteadyAmong : List ℕ → List Event → Type 0
SteadyAmong start events = AmongEvents reading_of start events

abbrev pub SteadyTakesAmong : List ℕ → List Event → Type 0
SteadyTakesAmong start events = AmongEvents taking_of start events
