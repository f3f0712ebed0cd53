-- `contains_hash` looks at every slot of every position of every class (specs/ContainsHash). Assumes nothing.
use Prim.Native.Nat.{ℕ, zero, suc, ◌<◌}
use native.Mathlib.Omega.{arith}
use mathlib.Core.Path.{◌≡◌, refl, sym, ◌∙◌, ap}
use mathlib.Core.Bool.{Bool, true, false, ◌||◌}
use mathlib.Core.List.{List, [], ◌∷◌}
use mathlib.Core.Logic.{◌⊎◌, inl, inr}
use lib.Dec.{eqb}
use lib.ListN.{length, get_or}
use borrow.Author.Tests.{eqb-true, eq-eqb}
use Rattle.model.specs.declared.Class.TheVariants.{Feeders, Peers, Own}
use Rattle.model.specs.Answer.{Answer}
use Rattle.model.specs.Answer.{Yes, No}
use Rattle.runs.proofs.Cases.{no}
use Rattle.model.specs.Settings.{settings_of}
use Rattle.model.specs.Generation.{empty, among, as_read}
use Rattle.model.specs.Register.{Ring, Register, any_class, holds_any}
use Rattle.model.specs.Codes.{went_through}
use Rattle.model.specs.Calls.{ContainsHash, On, register_at, yes_no, done_on, step, held_in}
use Rattle.model.specs.ContainsHash.{InSlot, AtPosition, HeldSomewhere, ContainsHashLooks}
use Rattle.model.proofs.Choice.{or_left, or_right, or_cases, true_false}
use Rattle.model.proofs.Simulates.{reply_is, through_zero}
use Rattle.model.proofs.Judging.{any_in}

-- ---- slots
next_slot : {fp x : ℕ} {xs : List ℕ} → InSlot fp xs → InSlot fp (x ∷ xs)
next_slot i = let h = i.there in record { slot = suc i.slot; there = omega arith; holds = i.holds }

among_slot : (fp : ℕ) (xs : List ℕ) → among fp xs ≡ true → InSlot fp xs
unfolding among
among_slot fp [] e = no (cc)
among_slot fp (x ∷ xs) e =
    or_cases (eqb fp x) (among fp xs) e (λ i. record { slot = 0; there = omega arith; holds = sym (eqb-true fp x i) })
    (λ i. next_slot (among_slot fp xs i))

slot_among : (fp : ℕ) (xs : List ℕ) (i : ℕ) → i < length xs → get_or xs i 0 ≡ fp → among fp xs ≡ true
unfolding among
slot_among fp [] i h e = absurd (omega arith)
slot_among fp (x ∷ xs) zero h e = or_left (eqb fp x) (among fp xs) (eq-eqb fp x (sym e))
slot_among fp (x ∷ xs) (suc i) h e = or_right (eqb fp x) (among fp xs) (slot_among fp xs i (omega arith) e)

-- ---- positions
next_position : {fp : ℕ} (ring : Ring) → AtPosition fp ring → (g : _) → AtPosition fp (g ∷ ring)
next_position ring i g = let h = i.there in record { position = suc i.position; there = omega arith; slot = i.slot }

holds_position : (fp : ℕ) (ring : Ring) → holds_any fp ring ≡ true → AtPosition fp ring
unfolding holds_any
holds_position fp [] e = no (cc)
holds_position fp (g ∷ gs) e =
    or_cases (among fp g.slots) (holds_any fp gs) e (λ i. record { position = 0; there = omega arith; slot = among_slot fp g.slots i })
    (λ i. next_position gs (holds_position fp gs i) g)

position_holds : (fp : ℕ) (ring : Ring) (i : ℕ) → i < length ring → InSlot fp (get_or ring i empty).slots → holds_any fp ring ≡ true
unfolding holds_any
position_holds fp [] i h s = absurd (omega arith)
position_holds fp (g ∷ gs) zero h s = or_left (among fp g.slots) (holds_any fp gs) (slot_among fp g.slots s.slot s.there s.holds)
position_holds fp (g ∷ gs) (suc i) h s = or_right (among fp g.slots) (holds_any fp gs) (position_holds fp gs i (omega arith) s)

-- ---- classes
any_somewhere : (fp : ℕ) (reg : Register) → any_class (holds_any fp) reg.rings ≡ true → HeldSomewhere fp reg
any_somewhere fp reg e =
    let f = holds_any fp reg.rings.of_feeders in
    let p = holds_any fp reg.rings.of_peers in
    let o = holds_any fp reg.rings.of_own in
    or_cases f (p || o) e (λ i. record { class = Feeders; position = holds_position fp reg.rings.of_feeders i })
    (λ d. or_cases p o d (λ i. record { class = Peers; position = holds_position fp reg.rings.of_peers i })
    (λ i. record { class = Own; position = holds_position fp reg.rings.of_own i }))

somewhere_any : (fp : ℕ) (reg : Register) → HeldSomewhere fp reg → any_class (holds_any fp) reg.rings ≡ true
somewhere_any fp reg h =
    let a = h.position in
    any_in (holds_any fp) h.class reg.rings (position_holds fp _ a.position a.there a.slot)

-- ---- the answer
said_yes : (b : Bool) → yes_no b ≡ Yes → b ≡ true
said_yes true e = refl
said_yes false e = no (cc)

said_no : (b : Bool) → yes_no b ≡ No → b ≡ false
said_no true e = no (cc)
said_no false e = refl

yes_or_no : (b : Bool) → (yes_no b ≡ Yes) ⊎ (yes_no b ≡ No)
yes_or_no true = inl refl
yes_or_no false = inr refl

pub contains_hash_looks : ContainsHashLooks
unfolding step done_on went_through
contains_hash_looks st ws r fp =
    let call = On r (ContainsHash fp) in
    let reg = register_at r (held_in (settings_of st) ws) in
    let b = any_class (holds_any (as_read fp)) reg.rings in
    record {
      yes_only = λ e. any_somewhere (as_read fp) reg (said_yes b (sym (reply_is st ws call (through_zero st ws call (ap went_through e))) ∙ e));
      no_only = λ e h.
          true_false (somewhere_any (as_read fp) reg h) (said_no b (sym (reply_is st ws call (through_zero st ws call (ap went_through e))) ∙ e));
      either = λ t.
          let i = reply_is st ws call (through_zero st ws call t) in
          either_of i (yes_or_no b);
    }
  where
    either_of : {a c : Answer} → a ≡ c → (c ≡ Yes) ⊎ (c ≡ No) → (a ≡ Yes) ⊎ (a ≡ No)
    either_of i (inl e) = inl (i ∙ e)
    either_of i (inr e) = inr (i ∙ e)
