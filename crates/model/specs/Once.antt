-- "No ticket is accepted twice", for every list of calls on the same words, whatever the clock reads.
--
-- After a take or a take_batch answered New for a fingerprint (as read) and a stamp on a register, no later judge, take,
-- judge_batch or take_batch on that register answers New for the same. Two things end this, and nothing else: an opening that went
-- through, and a resume on that register that went through. A restore ends nothing, whether it comes out Whole or Partly or is
-- refused. The words at the start are any words; each call brings its own settings, register, reading and bytes; calls that are
-- refused stand in the list like the others.
use Rattle.std.specs.Prelude.{ℕ, ◌≡◌, Bool, true, false, ◌&&◌, ◌||◌, Option, Some, None, List, [], ◌∷◌, ◌++◌, eqb}
use Rattle.model.specs.declared.Verdict.TheVariants.{New}
use Rattle.model.specs.Answer.{Answer}
use Rattle.model.specs.Answer.{Said}
use Rattle.model.specs.Settings.{settings_of}
use Rattle.model.specs.Generation.{as_read}
use Rattle.model.specs.Calls.{Asking, Call, Sort, Asks, Takes, Restores, Resumes, Plain, Kind, Opens, OnOne, Sets, Other, kind, register_at, held_in}
use Rattle.model.specs.View.{Given, answered, left_by, words_after}
use Rattle.model.specs.Codes.{went_through}
use Rattle.model.specs.Soundness.{Vetted}

-- a ticket on a register; the fingerprint as it is read
pub record Strike : Type 0 where
  pub register : ℕ
  pub print : ℕ
  pub stamp : ℕ

abbrev pub strike_of : ℕ → Asking → Strike
strike_of r a = record { register = r; print = as_read a.fp; stamp = a.stamp }

-- ---- what a call is about, by its kind
unfoldable pub sort_asks : ℕ → Sort → Option Strike
sort_asks r (Asks a) = Some (strike_of r a)
sort_asks r (Takes a) = Some (strike_of r a)
sort_asks r Restores = None
sort_asks r Resumes = None
sort_asks r Plain = None

unfoldable pub asks_about : Kind → Option Strike
unfolding sort_asks
asks_about (Opens limits starts) = None
asks_about (OnOne r d) = sort_asks r d
asks_about (Sets limits) = None
asks_about Other = None

unfoldable pub sort_takes : ℕ → Sort → Option Strike
sort_takes r (Asks a) = None
sort_takes r (Takes a) = Some (strike_of r a)
sort_takes r Restores = None
sort_takes r Resumes = None
sort_takes r Plain = None

unfoldable pub takes : Kind → Option Strike
unfolding sort_takes
takes (Opens limits starts) = None
takes (OnOne r d) = sort_takes r d
takes (Sets limits) = None
takes Other = None

-- what makes a register afresh, by its answer: of all that is done on a register, a resume alone
unfoldable pub renews : Sort → Answer → Bool
renews (Asks t) a = false
renews (Takes t) a = false
renews Restores a = false
renews Resumes a = went_through a
renews Plain a = false

unfoldable pub remakes : ℕ → Kind → Answer → Bool
unfolding renews
remakes r (Opens limits starts) a = went_through a
remakes r (OnOne q d) a = eqb r q && renews d a
remakes r (Sets limits) a = false
remakes r Other a = false

-- ---- lists of calls
-- an opening that went through, or a resume on register r that did
abbrev pub remade_by : ℕ → Call → Answer → Bool
remade_by r c a = remakes r (kind c) a

unfoldable pub remade_among : ℕ → List ℕ → List Given → Bool
remade_among r ws [] = false
remade_among r ws (g ∷ gs) = remade_by r g.call (answered ws g) || remade_among r (left_by ws g) gs

-- THE PROMISE: `first` is a take or a take_batch that answers New for a ticket, `between` are calls of which none remakes its
-- register, `later` is a judge, a take or one of their batch forms that asks about the same ticket: then it does not answer New
abbrev pub NoTicketTwice : Type 0
NoTicketTwice =
    (ws : List ℕ) (t : Strike) (first : Given) (between : List Given) (later : Given) → takes (kind first.call) ≡ Some t
    → answered ws first ≡ Said New → remade_among t.register (left_by ws first) between ≡ false → asks_about (kind later.call) ≡ Some t
    → answered (words_after (left_by ws first) between) later ≡ Said New → ⊥

-- ---- lists of events, for calls that come later: each says which kind of event it is, and the promise holds among them
-- what is seen of a list, moment by moment: a call with its answer, or that other words were put in place of these
pub data Moment : Type 0 where
  Answered : Call → Answer → Moment
  Replacement : Moment

-- a take or a take_batch answered New for the ticket
abbrev pub Accepted : Strike → Moment → Type 0
Accepted t (Answered c a) = (takes (kind c) ≡ Some t) × (a ≡ Said New)
Accepted t Replacement = ⊥

-- a judge, a take or one of their batch forms answered New for the ticket
abbrev pub CalledNew : Strike → Moment → Type 0
CalledNew t (Answered c a) = (asks_about (kind c) ≡ Some t) × (a ≡ Said New)
CalledNew t Replacement = ⊥

-- register r is made afresh
abbrev pub remade : ℕ → Moment → Bool
remade r (Answered c a) = remade_by r c a
remade r Replacement = true

abbrev pub unless : Bool → Type 0 → Type 0
unless true X = Unit {0}
unless false X = X

-- no moment calls the ticket New, up to one that remakes its register
abbrev pub Never : Strike → List Moment → Type 0
Never t [] = Unit {0}
Never t (m ∷ ms) = unless (remade t.register m) ((CalledNew t m → ⊥) × Never t ms)

-- so after every moment that accepts a ticket on register r
abbrev pub Once : ℕ → List Moment → Type 0
Once r [] = Unit {0}
Once r (m ∷ ms) = ((t : Strike) → t.register ≡ r → Accepted t m → Never t ms) × Once r ms

unfoldable pub moments : List ℕ → List Given → List Moment
moments ws [] = []
moments ws (g ∷ gs) = Answered g.call (answered ws g) ∷ moments (left_by ws g) gs

pub data Event : Type 0 where
  -- it does what these calls do, one after the other
  Calls : List Given → Event
  -- like an opening, it puts other words in place of these
  Replaces : List ℕ → Event
  -- it leaves these words, and the register's words are as they were
  Aside : List ℕ → Event

-- where the words are sound afterwards they were so before, and they hold the same register r
pub record LeavesAlone (r : ℕ) (ws after : List ℕ) : Type 0 where
  pub was_vetted : (st : List ℕ) → Vetted st after → Vetted st ws
  pub same : (st : List ℕ) → Vetted st after → register_at r (held_in (settings_of st) after) ≡ register_at r (held_in (settings_of st) ws)

unfoldable pub left_by_event : List ℕ → Event → List ℕ
left_by_event ws (Calls gs) = words_after ws gs
left_by_event ws (Replaces after) = after
left_by_event ws (Aside after) = after

unfoldable pub event_moments : List ℕ → Event → List Moment
event_moments ws (Calls gs) = moments ws gs
event_moments ws (Replaces after) = Replacement ∷ []
event_moments ws (Aside after) = []

unfoldable pub all_moments : List ℕ → List Event → List Moment
all_moments ws [] = []
all_moments ws (e ∷ es) = event_moments ws e ++ all_moments (left_by_event ws e) es

-- what stands aside leaves register r alone
abbrev pub AsideOf : ℕ → List ℕ → Event → Type 0
AsideOf r ws (Calls gs) = Unit {0}
AsideOf r ws (Replaces after) = Unit {0}
AsideOf r ws (Aside after) = LeavesAlone r ws after

abbrev pub AllAside : ℕ → List ℕ → List Event → Type 0
AllAside r ws [] = Unit {0}
AllAside r ws (e ∷ es) = AsideOf r ws e × AllAside r (left_by_event ws e) es

-- THE PROMISE, among events
abbrev pub NoTicketTwiceAmong : Type 0
NoTicketTwiceAmong = (ws : List ℕ) (es : List Event) (r : ℕ) → AllAside r ws es → Once r (all_moments ws es)

-- the definitions of this file, for a theorem that computes
unfoldable pub compute_once : ℕ
unfolding words_after sort_asks asks_about sort_takes takes renews remakes remade_among moments left_by_event event_moments all_moments
compute_once = 0
