-- "Expire takes the least of all published sweeps and the reading, in seconds rounded up, capped at 2^32 − 1, for each class. .. Else
-- it is stored and pairs with smaller seconds go; an empty place goes and later ones close up."
-- Where an expire raises `expired`, it keeps exactly the pairs whose second is at least the stored one: of each place, in order, and a
-- place without pairs goes. Where it does not raise it, it frees nothing.
use Rattle.std.specs.Prelude.{ℕ, ◌≤◌, ◌<◌, ◌≡◌, List, [], ◌∷◌, length}
use Rattle.model.specs.declared.Class.{Class}
use Rattle.model.specs.declared.Settings.{Settings}
use Rattle.model.specs.Class.{pick}
use Rattle.model.specs.Book.{Pair, Place, Held}
use Rattle.model.specs.Words.{State}
use Rattle.model.specs.Calls.{Expire, least_published, step}
use Rattle.model.specs.Seconds.{RoundedUp}

-- of these pairs those are kept
pub data KeptPairs (t : ℕ) : List Pair → List Pair → Type 0 where
  no_pair : KeptPairs t [] []
  pair_goes : {q : Pair} {qs kept : List Pair} → q.second < t → KeptPairs t qs kept → KeptPairs t (q ∷ qs) kept
  pair_stays : {q : Pair} {qs kept : List Pair} → t ≤ q.second → KeptPairs t qs kept → KeptPairs t (q ∷ qs) (q ∷ kept)

pub data KeptPlaces (t : ℕ) : List Place → List Place → Type 0 where
  no_place : KeptPlaces t [] []
  place_goes : {p : Place} {ps kept : List Place} → KeptPairs t p.pairs [] → KeptPlaces t ps kept → KeptPlaces t (p ∷ ps) kept
  place_stays : {p k : Place} {ps kept : List Place} → k.who ≡ p.who → KeptPairs t p.pairs k.pairs → 0 < length k.pairs
      → KeptPlaces t ps kept → KeptPlaces t (p ∷ ps) (k ∷ kept)

-- a class before and after an expire, at the least of the sweeps and the reading
pub record Expires (least : ℕ) (before after : Held) : Type 0 where
  pub freed : before.expired < after.expired → KeptPlaces after.expired before.places after.places
  pub second : before.expired < after.expired → RoundedUp least after.expired
  pub otherwise : after.expired ≤ before.expired → after.places ≡ before.places

abbrev pub ExpireKeeps : Type 0
ExpireKeeps =
    (s : Settings) (t : State) (ms : ℕ) (c : Class)
    → Expires (least_published s 0 t.registers ms) (pick c t.book.classes) (pick c (step s (Expire ms) t).state.book.classes)
