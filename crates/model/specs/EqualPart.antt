-- The second half of demand 3, the equal part, of any list of calls on any words. The customer's sentences:
--
-- "Entries, places and units are what these rules yield from the arguments of the calls since opening: an entry is a draw neither given
-- back nor freed by expire. Parties are a class's deliverers with entries, and the asker; n is their number, the equal part T / n
-- rounded down. A Feeder's share is the limit `feeder`, a Peer's `peer`. Too full for a ticket: the refusals by P, E or S above. A party
-- under these conditions, whose ticket judge would answer New, gets from take and `take_batch` with the same arguments Late exactly
-- when, after the sweep, another bucket's held generation in the party's class has the position of the ticket's bucket, and otherwise
-- New."
--
-- The conditions that are meant: the limits are those of the opening; a Feeder or a Peer, one of at most three parties, asks; the book
-- is open; its entries are below its share, and its units afterwards within the equal part; nothing is too full for the ticket.
use Rattle.std.specs.Prelude.{ℕ, ◌+◌, ◌/◌, ◌≤◌, ◌≡◌, Bool, true, false, cond, not, ◌&&◌, Option, Some, None, List, [], ◌∷◌, ◌++◌, eqb}
use Rattle.model.specs.declared.Class.{Class}
use Rattle.model.specs.declared.Manner.TheVariants.{Judged, Taken, TakenBatch}
use Rattle.model.specs.declared.Verdict.TheVariants.{New, Late}
use Rattle.model.specs.Answer.{Answer}
use Rattle.model.specs.Answer.{Said}
use Rattle.model.specs.declared.Limits.{Limits}
use Rattle.model.specs.declared.Settings.{Settings}
use Rattle.model.specs.declared.Shares.{Shares}
use Rattle.model.specs.declared.Usable.{Usable}
use Rattle.model.specs.Settings.{settings_of, limits_of, usable_at}
use Rattle.model.specs.Class.{class_of, pick}
use Rattle.model.specs.Generation.{Generation, held, among, as_read, slots_for}
use Rattle.model.specs.Book.{Place, Book, entries, place_units, places_of, together, fair, below_share, entries_of, holders_with, own_after, place_free, pair_free, second_of}
use Rattle.model.specs.Register.{Register, generation_at, sweep}
use Rattle.model.specs.Judge.{Ask, bucket_of}
use Rattle.model.specs.Words.{State}
use Rattle.model.specs.Calls.{Asking, Ticket, Call, Open, On, Kind, Opens, OnOne, Sets, Other, kind, ask_of, register_at, opened, step, reply, after}
use Rattle.model.specs.View.{view, Given, answered, left_by, words_after}
use Rattle.model.specs.Codes.{went_through}

-- ---- what the rules yield from the arguments of the calls since the last opening. No lent word is read: the rules start from the
-- opening's arguments, and go on with the arguments of each later call that went through
pub record Since : Type 0 where
  pub settings : Settings
  pub state : State
  -- the limits are those of the opening
  pub unchanged : Bool

-- a limit change to the same five values is none
unfoldable pub same_limits : Limits → Limits → Bool
same_limits l m =
    eqb l.feeder m.feeder && (eqb l.feeders m.feeders && (eqb l.peer m.peer && (eqb l.peers m.peers && eqb l.relay m.relay)))

unfoldable pub kind_stays : Kind → Limits → Bool
kind_stays (Opens limits starts) l = true
kind_stays (OnOne r d) l = true
kind_stays (Sets limits) l = same_limits (limits_of limits) l
kind_stays Other l = true

unfoldable pub limits_stay : Call → Limits → Bool
unfolding kind kind_stays
limits_stay call l = kind_stays (kind call) l

-- one more call went through
abbrev pub and_then : Call → Option Since → Option Since
and_then call None = None
and_then call (Some x) = Some (record {
  settings = x.settings;
  state = (step x.settings call x.state).state;
  unchanged = x.unchanged && limits_stay call x.state.book.limits;
})

unfoldable pub gone_by : Settings → Kind → Call → Option Since → Option Since
gone_by s (Opens limits starts) call k = Some (record { settings = s; state = opened s limits starts; unchanged = true })
gone_by s (OnOne r d) call k = and_then call k
gone_by s (Sets limits) call k = and_then call k
gone_by s Other call k = and_then call k

unfoldable pub gone_through : Settings → Call → Option Since → Option Since
unfolding kind gone_by
gone_through s call k = gone_by s (kind call) call k

unfoldable pub heard : Given → Answer → Option Since → Option Since
heard g a k = cond (went_through a) (gone_through (settings_of g.settings) g.call k) k

-- ---- a list of calls on one run of words
-- none before an opening went through
unfoldable pub since_opening : Option Since → List ℕ → List Given → Option Since
since_opening k ws [] = k
since_opening k ws (g ∷ gs) = since_opening (heard g (answered ws g) k) (left_by ws g) gs

-- ---- the conditions
-- the generation at the position of a ticket's bucket, in the deliverer's class, after the sweep
unfoldable pub met : Usable → Register → Ask → Generation
met u reg a = generation_at (pick (class_of a.who) (sweep u a.ms reg).rings) (bucket_of u a.stamp)

-- "another bucket's held generation"
unfoldable pub taken_by_another : Usable → Register → Ask → Bool
taken_by_another u reg a = not (eqb (met u reg a).bucket (bucket_of u a.stamp)) && not (eqb (held (met u reg a)) 0)

-- the places of the deliverer's class
abbrev pub places_beside : Ask → Book → List Place
places_beside a k = places_of (class_of a.who) k

pub record Due (u : Usable) (b : Shares) (reg : Register) (k : Book) (a : Ask) : Type 0 where
  pub open_book : k.closed ≡ false
  pub feeder_or_peer : fair a.who ≡ true
  pub three_at_most : holders_with a.who (places_beside a k) ≤ 3
  pub below_its_share : below_share k.limits a.who (entries_of a.who (places_beside a k)) ≡ true
  pub within_its_part :
      own_after b a.who (places_beside a k) ≤ together k.limits (class_of a.who) / holders_with a.who (places_beside a k)
  -- not too full: by P, by E, and by S where the position is not another bucket's
  pub a_place : place_free b a.who (places_beside a k) ≡ true
  pub a_pair : pair_free b a.who (second_of (bucket_of u a.stamp) u.bucket) (places_beside a k) ≡ true
  pub a_slot : taken_by_another u reg a ≡ false → slots_for (among (as_read a.fp) (met u reg a).slots) (met u reg a).slots ≤ u.slots

-- ---- the promise
unfoldable pub answer_due : Usable → Register → Ask → Answer
answer_due u reg a = Said (cond (taken_by_another u reg a) Late New)

-- on words, with the settings, the register number and the ticket that the call brings
pub record Gets (x : Since) (ws st : List ℕ) (r : ℕ) (a : Asking) : Type 0 where
  pub from_take : reply st ws (On r (Ticket Taken a)) ≡ answer_due (usable_at x.settings r) (register_at r x.state) (ask_of a)
  pub from_take_batch : reply st ws (On r (Ticket TakenBatch a)) ≡ answer_due (usable_at x.settings r) (register_at r x.state) (ask_of a)

abbrev pub Promised : Since → List ℕ → Type 0
Promised x ws =
    x.unchanged ≡ true → (st : List ℕ) (r : ℕ) (a : Asking) → reply st ws (On r (Ticket Judged a)) ≡ Said New
    → Due (usable_at x.settings r) x.settings.shares (register_at r x.state) x.state.book (ask_of a) → Gets x ws st r a

abbrev pub EqualPart : List ℕ → List Given → Type 0
EqualPart start calls = (x : Since) → since_opening None start calls ≡ Some x → Promised x (words_after start calls)

-- ---- beside it
-- the words hold what the rules yield since the opening; so right after an opening that went through they hold what it opened
abbrev pub WordsHold : List ℕ → List Given → Type 0
WordsHold start calls = (x : Since) → since_opening None start calls ≡ Some x → view (words_after start calls) ≡ Some x.state

abbrev pub OpeningHolds : Type 0
OpeningHolds =
    (st ws limits starts : List ℕ) → went_through (reply st ws (Open limits starts)) ≡ true
    → view (after st ws (Open limits starts)) ≡ Some (opened (settings_of st) limits starts)

-- while the limits stay, any one holder of a class has at most T units, and any two have at most T and half of it, whatever is taken,
-- restored, resumed and expired
abbrev pub cost : Shares → Place → ℕ
cost b p = entries p + place_units b p.who

pub record HoldersKept (b : Shares) (limit : ℕ) (ps : List Place) : Type 0 where
  pub any_one : (before : List Place) (p : Place) (rest : List Place) → ps ≡ before ++ (p ∷ rest) → cost b p ≤ limit
  pub any_two : (before : List Place) (p : Place) (between : List Place) (q : Place) (rest : List Place)
      → ps ≡ before ++ (p ∷ (between ++ (q ∷ rest))) → cost b p + cost b q ≤ limit + limit / 2

abbrev pub SharesKept : List ℕ → List Given → Type 0
SharesKept start calls =
    (x : Since) → since_opening None start calls ≡ Some x → x.unchanged ≡ true
    → (c : Class) → HoldersKept x.settings.shares (together x.state.book.limits c) (places_of c x.state.book)

-- the rules of this file, for a theorem that computes
unfoldable pub compute_equal_part : ℕ
unfolding same_limits kind_stays limits_stay gone_by gone_through heard words_after since_opening met taken_by_another answer_due
compute_equal_part = 0
