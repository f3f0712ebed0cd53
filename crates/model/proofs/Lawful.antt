-- What every call owes to the promises, in one record: a law for each promise, of a call's meaning alone. proofs/EveryCall shows it of
-- every call, one clause for each; the promises go by it and not by the calls. Assumes nothing.
use Prim.Native.Nat.{ℕ, ◌<◌}
use mathlib.Core.Path.{◌≡◌, refl, sym, ◌∙◌, ap, subst}
use mathlib.Core.Bool.{Bool, true, false, not, ◌&&◌}
use Rattle.std.specs.Prelude.{Option, Some, None}
use mathlib.Core.List.{List}
use lib.ListN.{get_or}
use borrow.Author.Tests.{not-true}
use Rattle.model.specs.declared.Settings.{Settings}
use Rattle.model.specs.declared.Verdict.TheVariants.{New}
use Rattle.model.specs.Answer.{Said}
use Rattle.runs.proofs.Cases.{both_true, no}
use Rattle.model.specs.Settings.{usable_at, settings_fit}
use Rattle.model.specs.Register.{Register}
use Rattle.model.specs.Judge.{bucket_of}
use Rattle.model.specs.Words.{State, state_form}
use Rattle.model.specs.Codes.{went_through}
use Rattle.model.specs.Calls.{Asks, Takes, Restores, Resumes, Plain, Kind, Opens, OnOne, Sets, Other, opens, beyond, Meaning, no_register, register_at, opened}
use Rattle.model.specs.Refusals.{in_order, own_order}
use Rattle.model.specs.Once.{Strike, asks_about, takes, remakes}
use Rattle.model.specs.TicketsGetVerdicts.{Verdicts}
use Rattle.model.specs.EqualPart.{kind_stays}
use Rattle.model.specs.RoundTrip.{reaches}
use Rattle.model.specs.Misreadings.{NoLower}
use Rattle.model.specs.Floors.{forgets}
use Rattle.model.specs.Steady.{kind_taking, disturbs}
use Rattle.model.proofs.Choice.{true_false}
use Rattle.model.proofs.Struck.{Struck}
use Rattle.model.proofs.SharesKept.{Bounded}
use Rattle.model.proofs.Misreadings.{same}
use Rattle.model.proofs.SteadyKept.{FreshKept, left_fresh}

-- under these settings the state has struck the ticket
abbrev pub StruckIn : Settings → Strike → State → Type 0
StruckIn s k x = Struck (bucket_of (usable_at s k.register) k.stamp) k.print k.stamp (register_at k.register x)

pub none_some : {A : Type 0} {x : A} → ◌≡◌ {A = Option A} None (Some x) → ⊥
none_some e = no (cc)

-- what one call owes to a struck ticket: unless it remakes the register the ticket stays struck, and it does not answer New
pub record Good (s : Settings) (k : Strike) (m : Meaning) (x : State) : Type 0 where
  pub keeps : remakes k.register m.kind (m.does s x).answer ≡ false → StruckIn s k (m.does s x).state
  pub silent : asks_about m.kind ≡ Some k → (m.does s x).answer ≡ Said New → ⊥

-- what a call owes that only reads
pub record Reads (m : Meaning) : Type 0 where
  pub shut : opens m.kind ≡ false
  pub stays : (s : Settings) (t : State) → (m.does s t).state ≡ t

-- register q has a floor of f: then afterwards it has one that is no lower
abbrev pub FloorKept : Meaning → Settings → State → ℕ → Type 0
FloorKept m s t q = (f : ℕ) → (register_at q t).floor ≡ Some f → NoLower f (register_at q (m.does s t).state).floor

pub record Lawful (m : Meaning) : Type 0 where
  -- its own answer is no refusal, and its own refusals come in the paper's order
  pub through : (s : Settings) (t : State) → went_through (m.does s t).answer ≡ true
  pub in_order : (s : Settings) (t : State) → in_order own_order (m.own s t) ≡ true
  -- an opening goes by its arguments alone
  pub afresh : (limits starts : List ℕ) → m.kind ≡ Opens limits starts → (s : Settings) (t : State) → (m.does s t).state ≡ opened s limits starts
  -- it leaves a well-formed state: an opening of any, another of a well-formed one
  pub sound : (s : Settings) (t : State) → settings_fit s ≡ true → m.fits s ≡ true → beyond s m.kind ≡ false
      → (opens m.kind ≡ false → (state_form s).Ok t) → (state_form s).Ok (m.does s t).state
  -- it keeps the bounds of the shares while the limits stay
  pub bounded : (s : Settings) (t : State) → kind_stays m.kind t.book.limits ≡ true → Bounded s.shares t.book
      → Bounded s.shares (m.does s t).state.book
  -- it leaves every register that it is not on
  pub aside : (s : Settings) (q : ℕ) (t : State) → reaches q m.kind ≡ false → register_at q (m.does s t).state ≡ register_at q t
  -- it is good to a struck ticket, and a take that answers New strikes its own
  pub guards : (s : Settings) (k : Strike) (x : State) → 0 < k.print → settings_fit s ≡ true → beyond s m.kind ≡ false
      → (state_form s).Ok x → StruckIn s k x → Good s k m x
  pub strikes : (s : Settings) (k : Strike) (x : State) → beyond s m.kind ≡ false → (state_form s).Ok x → takes m.kind ≡ Some k
      → (m.does s x).answer ≡ Said New → (0 < k.print) × StruckIn s k (m.does s x).state
  -- a ticket gets a verdict
  pub verdicts : (s : Settings) (t : State) (k : Strike) → asks_about m.kind ≡ Some k → Verdicts (m.does s t).answer
  -- one that only reads leaves the state
  pub reads : m.reads ≡ true → Reads m
  -- it lowers no floor, unless it opens, or resumes on that register
  pub floors : (s : Settings) (t : State) (q : ℕ) → forgets q m.kind ≡ false → FloorKept m s t q
  -- a take's reading is one by which it sweeps
  pub brought : (ms : ℕ) → kind_taking m.kind ≡ Some ms → m.reading ≡ Some ms
  -- it keeps what a take needs not to be Late for its position, unless it opens, or restores or resumes on that register
  pub fresh : (s : Settings) (t : State) (q : ℕ) → settings_fit s ≡ true → q < s.registers → (state_form s).Ok t → disturbs q m.kind ≡ false
      → FreshKept m s t q

-- ---- kinds that ask about no ticket and open nothing
unfoldable pub unasked : Kind → Bool
unasked (Opens limits starts) = false
unasked (OnOne r (Asks a)) = false
unasked (OnOne r (Takes a)) = false
unasked (OnOne r Restores) = true
unasked (OnOne r Resumes) = true
unasked (OnOne r Plain) = true
unasked (Sets limits) = true
unasked Other = true

pub record AsksNothing (k : Kind) : Type 0 where
  pub asks : asks_about k ≡ None
  pub takes : takes k ≡ None
  pub taking : kind_taking k ≡ None
  pub shut : opens k ≡ false
  pub opens_none : (limits starts : List ℕ) → k ≡ Opens limits starts → ⊥

asks_nothing : (k : Kind) → unasked k ≡ true → AsksNothing k
unfolding unasked asks_about takes kind_taking opens
asks_nothing (Opens limits starts) e = no (cc)
asks_nothing (OnOne r (Asks a)) e = no (cc)
asks_nothing (OnOne r (Takes a)) e = no (cc)
asks_nothing (OnOne r Restores) e = record { asks = refl; takes = refl; taking = refl; shut = refl; opens_none = λ l s i. no (cc) }
asks_nothing (OnOne r Resumes) e = record { asks = refl; takes = refl; taking = refl; shut = refl; opens_none = λ l s i. no (cc) }
asks_nothing (OnOne r Plain) e = record { asks = refl; takes = refl; taking = refl; shut = refl; opens_none = λ l s i. no (cc) }
asks_nothing (Sets limits) e = record { asks = refl; takes = refl; taking = refl; shut = refl; opens_none = λ l s i. no (cc) }
asks_nothing Other e = record { asks = refl; takes = refl; taking = refl; shut = refl; opens_none = λ l s i. no (cc) }

-- what is left to show of such a call that does more than read
pub record Calm (m : Meaning) : Type 0 where
  pub unasked : (unasked m.kind && not m.reads) ≡ true
  pub through : (s : Settings) (t : State) → went_through (m.does s t).answer ≡ true
  pub in_order : (s : Settings) (t : State) → in_order own_order (m.own s t) ≡ true
  pub sound : (s : Settings) (t : State) → settings_fit s ≡ true → m.fits s ≡ true → beyond s m.kind ≡ false → (state_form s).Ok t
      → (state_form s).Ok (m.does s t).state
  pub bounded : (s : Settings) (t : State) → kind_stays m.kind t.book.limits ≡ true → Bounded s.shares t.book
      → Bounded s.shares (m.does s t).state.book
  pub aside : (s : Settings) (q : ℕ) (t : State) → reaches q m.kind ≡ false → register_at q (m.does s t).state ≡ register_at q t
  pub keeps : (s : Settings) (k : Strike) (x : State) → 0 < k.print → settings_fit s ≡ true → beyond s m.kind ≡ false → (state_form s).Ok x
      → StruckIn s k x → remakes k.register m.kind (m.does s x).answer ≡ false → StruckIn s k (m.does s x).state
  pub floors : (s : Settings) (t : State) (q : ℕ) → forgets q m.kind ≡ false → FloorKept m s t q
  pub fresh : (s : Settings) (t : State) (q : ℕ) → settings_fit s ≡ true → q < s.registers → (state_form s).Ok t → disturbs q m.kind ≡ false
      → FreshKept m s t q

pub calm : {m : Meaning} → Calm m → Lawful m
calm {m} c =
    let b = both_true (unasked m.kind) (not m.reads) c.unasked in
    let q = asks_nothing m.kind b.0 in
    record {
      through = c.through;
      in_order = c.in_order;
      afresh = λ l s e. absurd (q.opens_none l s e);
      sound = λ s t fit codes there ok. c.sound s t fit codes there (ok q.shut);
      bounded = c.bounded;
      aside = c.aside;
      guards = λ s k x pos fit there ok struck.
          record { keeps = c.keeps s k x pos fit there ok struck; silent = λ e n. none_some (sym q.asks ∙ e) };
      strikes = λ s k x there ok e n. absurd (none_some (sym q.takes ∙ e));
      verdicts = λ s t k e. absurd (none_some (sym q.asks ∙ e));
      reads = λ e. true_false e (not-true m.reads b.1);
      floors = c.floors;
      brought = λ ms e. absurd (none_some (sym q.taking ∙ e));
      fresh = c.fresh;
    }

-- ---- a call that leaves the registers: what it does is to the book
pub record OnBook (m : Meaning) : Type 0 where
  pub unasked : (unasked m.kind && not m.reads) ≡ true
  pub through : (s : Settings) (t : State) → went_through (m.does s t).answer ≡ true
  pub in_order : (s : Settings) (t : State) → in_order own_order (m.own s t) ≡ true
  pub sound : (s : Settings) (t : State) → settings_fit s ≡ true → m.fits s ≡ true → beyond s m.kind ≡ false → (state_form s).Ok t
      → (state_form s).Ok (m.does s t).state
  pub bounded : (s : Settings) (t : State) → kind_stays m.kind t.book.limits ≡ true → Bounded s.shares t.book
      → Bounded s.shares (m.does s t).state.book
  pub stays : (s : Settings) (t : State) → (m.does s t).state.registers ≡ t.registers

pub on_book : {m : Meaning} → OnBook m → Lawful m
on_book {m} c = calm (record {
  unasked = c.unasked;
  through = c.through;
  in_order = c.in_order;
  sound = c.sound;
  bounded = c.bounded;
  aside = λ s q t e. ap (λ (l : List Register). get_or l q no_register) (c.stays s t);
  keeps = λ s k x pos fit there ok struck e.
      subst (λ (l : List Register). Struck (bucket_of (usable_at s k.register) k.stamp) k.print k.stamp (get_or l k.register no_register))
      (sym (c.stays s x)) struck;
  floors = λ s t q e f h. same f _ (ap (λ (l : List Register). (get_or l q no_register).floor) (c.stays s t) ∙ h);
  fresh = λ s t q fit low ok e. left_fresh s fit q low t m (ap (λ (l : List Register). get_or l q no_register) (c.stays s t));
})

-- ---- a call that leaves the state: all that is left of it is what it answers, and its own refusals
pub reader : {m : Meaning} → unasked m.kind ≡ true → ((s : Settings) (t : State) → (m.does s t).state ≡ t)
    → ((s : Settings) (t : State) → went_through (m.does s t).answer ≡ true) → ((s : Settings) (t : State) → in_order own_order (m.own s t) ≡ true) → Lawful m
reader {m} unasked leaves through in_order =
    let q = asks_nothing m.kind unasked in
    record {
      through = through;
      in_order = in_order;
      afresh = λ l s e. absurd (q.opens_none l s e);
      sound = λ s t fit codes there ok. subst (λ (x : State). (state_form s).Ok x) (sym (leaves s t)) (ok q.shut);
      bounded = λ s t e h. subst (λ (x : State). Bounded s.shares x.book) (sym (leaves s t)) h;
      aside = λ s q t e. ap (register_at q) (leaves s t);
      guards = λ s k x pos fit there ok struck. record {
        keeps = λ e. subst (λ (y : State). StruckIn s k y) (sym (leaves s x)) struck;
        silent = λ e n. none_some (sym q.asks ∙ e);
      };
      strikes = λ s k x there ok e n. absurd (none_some (sym q.takes ∙ e));
      verdicts = λ s t k e. absurd (none_some (sym q.asks ∙ e));
      reads = λ e. record { shut = q.shut; stays = leaves };
      floors = λ s t q e f h. same f _ (ap (λ (x : State). (register_at q x).floor) (leaves s t) ∙ h);
      brought = λ ms e. absurd (none_some (sym q.taking ∙ e));
      fresh = λ s t q fit low ok e. left_fresh s fit q low t m (ap (register_at q) (leaves s t));
    }
