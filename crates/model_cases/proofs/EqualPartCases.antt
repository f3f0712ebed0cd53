-- The conditions of Equal part are met: computed on words, settings, calls and bytes (specs/EqualPartCases).
use Prim.Native.Nat.{ℕ, ◌/◌}
use mathlib.Core.Path.{◌≡◌, refl, ◌∙◌}
use mathlib.Core.Bool.{Bool, true, false, not}
use mathlib.Core.List.{List, [], ◌∷◌}
use Rattle.std.specs.Prelude.{Option, Some, None}
use lib.Dec.{leb}
use borrow.Author.Tests.{leb-true, not-true}
use Rattle.model.specs.Answer.{Said}
use Rattle.model.specs.declared.Manner.TheVariants.{Judged, Taken, TakenBatch}
use Rattle.model.specs.declared.Verdict.TheVariants.{New}
use Rattle.runs.proofs.Cases.{no, all_of, each_true}
use Rattle.model.specs.Settings.{usable_at}
use Rattle.model.specs.Class.{class_of}
use Rattle.model.specs.Generation.{among, as_read, slots_for}
use Rattle.model.specs.Book.{together, fair, below_share, entries_of, holders_with, own_after, place_free, pair_free, second_of}
use Rattle.model.specs.Judge.{Ask, bucket_of}
use Rattle.model.specs.Codes.{went_through}
use Rattle.model.specs.Calls.{On, Ticket, ask_of, register_at, reply, compute_rules}
use Rattle.model.specs.View.{words_after}
use Rattle.model.specs.EqualPart.{compute_equal_part, Since, since_opening, met, places_beside, Due, answer_due}
use Rattle.model_cases.specs.EqualPartCases.{compute_words, settings, start, Case, three_parties, another_bucket, answers, heard_of_three, found, yields}
use Rattle.model.proofs.EqualPartWords.{equal_part}

-- the conditions as tests, for computing once
unfoldable tests : Since → Ask → List Bool
tests x a =
    let u = usable_at x.settings 0 in
    let b = x.settings.shares in
    let k = x.state.book in
    let ps = places_beside a k in
    let g = met u (register_at 0 x.state) a in
    not k.closed ∷ fair a.who ∷ leb (holders_with a.who ps) 3 ∷ below_share k.limits a.who (entries_of a.who ps)
    ∷ leb (own_after b a.who ps) (together k.limits (class_of a.who) / holders_with a.who ps) ∷ place_free b a.who ps
    ∷ pair_free b a.who (second_of (bucket_of u a.stamp) u.bucket) ps ∷ leb (slots_for (among (as_read a.fp) g.slots) g.slots) u.slots ∷ []

unfoldable passes : Option Since → Ask → Bool
passes None a = false
passes (Some x) a = all_of x.unchanged (tests x a)

-- all rules
unfoldable compute_all : ℕ
unfolding compute_words compute_rules compute_equal_part went_through answers yields tests passes
compute_all = 0

-- the answers to the first list
pub three_parties_heard : answers start three_parties.calls ≡ heard_of_three
unfolding compute_all
three_parties_heard = refl

-- ---- the conditions, after each list
abbrev pub Conditions : Case → Type 0
Conditions c =
    Due (usable_at (yields c).settings 0) (yields c).settings.shares (register_at 0 (yields c).state) (yields c).state.book (ask_of c.asks)

pub record Met (c : Case) : Type 0 where
  pub opened : since_opening None start c.calls ≡ Some (yields c)
  pub unchanged : (yields c).unchanged ≡ true
  pub judged_new : reply settings (words_after start c.calls) (On 0 (Ticket Judged c.asks)) ≡ Said New
  pub conditions : Conditions c

tests_due : (x : Since) (a : Ask) → all_of x.unchanged (tests x a) ≡ true
    → (x.unchanged ≡ true) × Due (usable_at x.settings 0) x.settings.shares (register_at 0 x.state) x.state.book a
unfolding tests
tests_due x a t =
    let p = each_true x.unchanged (tests x a) t in (
      p.0,
      record {
        open_book = not-true x.state.book.closed p.1.0;
        feeder_or_peer = p.1.1.0;
        three_at_most = leb-true _ 3 p.1.1.1.0;
        below_its_share = p.1.1.1.1.0;
        within_its_part = leb-true _ _ p.1.1.1.1.1.0;
        a_place = p.1.1.1.1.1.1.0;
        a_pair = p.1.1.1.1.1.1.1.0;
        a_slot = λ e. leb-true _ _ p.1.1.1.1.1.1.1.1;
      },
    )

abbrev Found : Option Since → Ask → Type 0
Found k a =
    (k ≡ Some (found k)) × ((found k).unchanged ≡ true)
    × Due (usable_at (found k).settings 0) (found k).settings.shares (register_at 0 (found k).state) (found k).state.book a

passed : (k : Option Since) (a : Ask) → passes k a ≡ true → Found k a
unfolding passes
passed None a t = no (cc)
passed (Some x) a t = let p = tests_due x a t in (refl, p.0, p.1)

meets : (c : Case) → passes (since_opening None start c.calls) (ask_of c.asks) ≡ true
    → reply settings (words_after start c.calls) (On 0 (Ticket Judged c.asks)) ≡ Said New → Met c
unfolding yields
meets c t new =
    let p = passed (since_opening None start c.calls) (ask_of c.asks) t in
    record { opened = p.0; unchanged = p.1; judged_new = new; conditions = p.2 }

-- ---- what is due is promised, so it is told
abbrev Due_is : Case → Type 0
Due_is c = answer_due (usable_at (yields c).settings 0) (register_at 0 (yields c).state) (ask_of c.asks) ≡ Said c.due

pub record Told (c : Case) : Type 0 where
  pub by_take : reply settings (words_after start c.calls) (On 0 (Ticket Taken c.asks)) ≡ Said c.due
  pub by_take_batch : reply settings (words_after start c.calls) (On 0 (Ticket TakenBatch c.asks)) ≡ Said c.due

told : (c : Case) → Met c → Due_is c → Told c
told c m e =
    let g = equal_part start c.calls (yields c) m.opened m.unchanged settings 0 c.asks m.judged_new m.conditions in
    record { by_take = g.from_take ∙ e; by_take_batch = g.from_take_batch ∙ e }

-- ---- three parties above T: New
three_pass : passes (since_opening None start three_parties.calls) (ask_of three_parties.asks) ≡ true
unfolding compute_all
three_pass = refl

three_judged : reply settings (words_after start three_parties.calls) (On 0 (Ticket Judged three_parties.asks)) ≡ Said New
unfolding compute_all
three_judged = refl

three_due : Due_is three_parties
unfolding compute_all
three_due = refl

pub three_parties_met : Met three_parties
three_parties_met = meets three_parties three_pass three_judged

pub three_parties_told : Told three_parties
three_parties_told = told three_parties three_parties_met three_due

-- ---- the position is another bucket's: Late
another_pass : passes (since_opening None start another_bucket.calls) (ask_of another_bucket.asks) ≡ true
unfolding compute_all
another_pass = refl

another_judged : reply settings (words_after start another_bucket.calls) (On 0 (Ticket Judged another_bucket.asks)) ≡ Said New
unfolding compute_all
another_judged = refl

another_due : Due_is another_bucket
unfolding compute_all
another_due = refl

pub another_bucket_met : Met another_bucket
another_bucket_met = meets another_bucket another_pass another_judged

pub another_bucket_told : Told another_bucket
another_bucket_told = told another_bucket another_bucket_met another_due
