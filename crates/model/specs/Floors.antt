-- "Raising, here and everywhere, never lowers a floor." And of the misreadings to exclude: "A clock step back undoing the floor."
-- For any words and any list of calls, at whatever readings: the floor that is told of a register never falls and never vanishes, up
-- to an opening or a resume on that register that went through. Calls that are refused stand in the list like the others.
use Rattle.std.specs.Prelude.{ℕ, ◌≤◌, ◌≡◌, Bool, true, false, ◌&&◌, ◌||◌, List, [], ◌∷◌, eqb}
use Rattle.model.specs.Answer.{Answer}
use Rattle.model.specs.Answer.{FloorAt}
use Rattle.model.specs.Codes.{went_through}
use Rattle.model.specs.Calls.{Sort, Asks, Takes, Restores, Resumes, Plain, Kind, Opens, OnOne, Sets, Other, Floor, On, kind, reply}
use Rattle.model.specs.View.{Given, answered, left_by, words_after}

-- ---- what gives a register another floor: an opening, and "`resume` forgets the floor first"
unfoldable pub sort_forgets : Sort → Bool
sort_forgets (Asks a) = false
sort_forgets (Takes a) = false
sort_forgets Restores = false
sort_forgets Resumes = true
sort_forgets Plain = false

unfoldable pub forgets : ℕ → Kind → Bool
unfolding sort_forgets
forgets r (Opens limits starts) = true
forgets r (OnOne q d) = eqb r q && sort_forgets d
forgets r (Sets limits) = false
forgets r Other = false

unfoldable pub forgotten_among : ℕ → List ℕ → List Given → Bool
forgotten_among r ws [] = false
forgotten_among r ws (g ∷ gs) = (forgets r (kind g.call) && went_through (answered ws g)) || forgotten_among r (left_by ws g) gs

-- ---- a floor is told, and it is at least f
pub record AtLeast (f : ℕ) (a : Answer) : Type 0 where
  pub level : ℕ
  pub told : a ≡ FloorAt level
  pub no_lower : f ≤ level

-- the promise: the floor of register r is asked before and after the calls, under the same settings
abbrev pub FloorsNeverFall : Type 0
FloorsNeverFall =
    (ws st : List ℕ) (r f : ℕ) (calls : List Given) → reply st ws (On r Floor) ≡ FloorAt f → forgotten_among r ws calls ≡ false
    → AtLeast f (reply st (words_after ws calls) (On r Floor))

-- the definitions of this file, for a theorem that computes
unfoldable pub compute_floors : ℕ
unfolding sort_forgets forgets forgotten_among
compute_floors = 0
