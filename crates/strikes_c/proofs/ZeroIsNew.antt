-- A returned 0 with verdict 0 is exactly the answer New (specs/ZeroIsNew). Assumes nothing.
use Prim.Native.Nat.{ℕ}
use mathlib.Core.Path.{◌≡◌, refl, ap, sym, ◌∙◌}
use mathlib.Core.List.{List, [], ◌∷◌}
use Rattle.std.specs.Prelude.{Some}
use lib.ListN.{get_or}
use Rattle.model.specs.declared.Manner.{Manner}
use Rattle.model.specs.declared.Manner.TheVariants.{Judged, JudgedBatch, Taken, TakenBatch}
use Rattle.model.specs.declared.Verdict.{Verdict}
use Rattle.model.specs.declared.Verdict.TheVariants.{New}
use Rattle.model.specs.Answer.{Answer}
use Rattle.model.specs.Answer.{Said}
use Rattle.model.specs.Codes.{verdict_number, answer_number, answer_values}
use Rattle.model.specs.Calls.{Asking, Ticket, Call, On, manner_sort, act, kind, reply}
use Rattle.model.specs.Once.{Strike, strike_of, asks_about}
use Rattle.model.proofs.ToldApart.{verdicts_apart, tickets_get_verdicts}
use Rattle.strikes_c.specs.Out.{value_out}
use Rattle.strikes_c.specs.ZeroIsNew.{ZeroIsNew, VerdictsInNumbers}

-- what a verdict writes
said_value : (v : Verdict) (old : ℕ) → value_out 0 (Said v) old ≡ verdict_number v
unfolding value_out answer_values
said_value v old = refl

said_number : (v : Verdict) → answer_number (Said v) ≡ 0
unfolding answer_number
said_number v = refl

-- a call that asks about a ticket, returned 0 and wrote a verdict's number, answered that verdict
module _ (st ws : List ℕ) (call : Call) (t : Strike) (asks : asks_about (kind call) ≡ Some t) where
  pub says : (v : Verdict) (old : ℕ) → answer_number (reply st ws call) ≡ 0 → value_out 0 (reply st ws call) old ≡ verdict_number v → reply st ws call ≡ Said v
  says v old z e =
      let w = tickets_get_verdicts st ws call t asks z in
      let k : verdict_number w.verdict ≡ verdict_number v = sym (ap (λ (a : Answer). value_out 0 a old) w.said ∙ said_value w.verdict old) ∙ e in
      w.said ∙ ap Said (verdicts_apart w.verdict v k)

-- the four entry points ask about their ticket
asks_of : (m : Manner) (r : ℕ) (a : Asking) → asks_about (kind (On r (Ticket m a))) ≡ Some (strike_of r a)
unfolding kind act asks_about manner_sort
asks_of Judged r a = refl
asks_of JudgedBatch r a = refl
asks_of Taken r a = refl
asks_of TakenBatch r a = refl

one_value : (x y : ℕ) → x ∷ [] ≡ y ∷ [] → x ≡ y
one_value x y e = ap (λ (l : List ℕ). get_or l 0 0) e

pub verdicts_in_numbers : VerdictsInNumbers
verdicts_in_numbers st ws m register fp stamp reading flag kind number n left old new c =
    let a : Asking = record { fp = fp; stamp = stamp; ms = reading; flag = flag; kind = kind; number = number } in
    let call = On register (Ticket m a) in
    let value = one_value new (value_out 0 (reply st ws call) old) c.values in
    record {
      only = λ v z e. says st ws call (strike_of register a) (asks_of m register a) v old (sym c.number ∙ z) (sym value ∙ e);
      always = λ v e. (c.number ∙ ap answer_number e ∙ said_number v, value ∙ ap (λ (x : Answer). value_out 0 x old) e ∙ said_value v old);
    }

pub new_number : verdict_number New ≡ 0
unfolding verdict_number
new_number = refl

pub zero_is_new : ZeroIsNew
zero_is_new st ws m register fp stamp reading flag kind number n left old new c =
    let v = verdicts_in_numbers st ws m register fp stamp reading flag kind number n left old new c in
    record { only = λ z e. v.only New z (e ∙ sym new_number); always = λ e. let p = v.always New e in (p.0, p.1 ∙ new_number) }
