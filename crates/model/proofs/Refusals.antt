-- A reply is a refusal exactly in its condition, and a refusal alters nothing.
use Prim.Native.Nat.{ℕ, ◌<◌}
use native.Mathlib.Omega.{arith}
use mathlib.Core.Path.{◌≡◌, refl, ap}
use mathlib.Core.Bool.{Bool, true, false, not, ◌&&◌}
use mathlib.Core.List.{List, [], ◌∷◌}
use lib.Dec.{eqb}
use borrow.Author.Tests.{eqb-true, eqb-false, ne_eqb, not-true}
use Rattle.model.specs.Answer.{Answer}
use Rattle.model.specs.Answer.{Refused}
use Rattle.model.specs.declared.Settings.{Settings}
use Rattle.runs.proofs.Cases.{by_test, both_true, no}
use Rattle.model.specs.Settings.{settings_of}
use Rattle.model.specs.Words.{State}
use Rattle.model.specs.Codes.{went_through}
use Rattle.model.specs.Calls.{Call, step, own_refusals, held_in, Refusal, first_met, refusals, refused, reply, after, output_of, output_after}
use Rattle.model.specs.First.{First, here, later, Named, by_first, by_none}
use Rattle.model.specs.Refusals.{in_order, order, Refuses}
use Rattle.model.proofs.Choice.{true_false}
use Rattle.model.proofs.First.{first_is, is_named, met_or_none}
use Rattle.model.proofs.EveryCall.{lawful}

-- ---- a step's own answer is no refusal
pub step_through : (s : Settings) (call : Call) (t : State) → went_through (step s call t).answer ≡ true
unfolding step
step_through s call t = (lawful call).through s t

pub no_refusal : (a : Answer) (n : ℕ) → went_through a ≡ true → a ≡ Refused n → ⊥
unfolding went_through
no_refusal a n t e = true_false t (ap went_through e)

-- ---- the first condition that is met, of numbers that are not 0
data Numbered : List Refusal → Type 0 where
  none_left : Numbered []
  one_more : {x : Refusal} {xs : List Refusal} → 0 < x.names → Numbered xs → Numbered (x ∷ xs)

is_first : (n : ℕ) (xs : List Refusal) → 0 < n → first_met xs ≡ n → First n xs
unfolding first_met
is_first n xs h e = by_named (is_named 0 n xs e)
  where
    by_named : Named 0 n xs → First n xs
    by_named (by_first f) = f
    by_named (by_none none is) = absurd (omega arith)

first_pos : (n : ℕ) (xs : List Refusal) → Numbered xs → First n xs → 0 < n
first_pos n [] numbered first = elim first [ ]
first_pos n (x ∷ xs) (one_more h rest) (here met is) = omega arith
first_pos n (x ∷ xs) (one_more h rest) (later not_met first) = first_pos n xs rest first

-- numbers that are listed, where no 0 is listed
no_zero : List ℕ → Bool
no_zero [] = true
no_zero (n ∷ ns) = not (eqb n 0) && no_zero ns

numbered : (ns : List ℕ) (xs : List Refusal) → no_zero ns ≡ true → in_order ns xs ≡ true → Numbered xs
unfolding no_zero in_order
numbered ns [] p o = none_left
numbered [] (x ∷ xs) p o = no (cc)
numbered (n ∷ ns) (x ∷ xs) p o =
    let q = both_true (not (eqb n 0)) (no_zero ns) p in
    by_test (eqb x.names n)
    (λ e. let i = eqb-true x.names n e in
    let z = eqb-false n 0 (not-true (eqb n 0) q.0) in
    one_more {x = x} (omega (arith, z)) (numbered ns xs q.1 (rw e at o)))
    (λ e. numbered ns (x ∷ xs) q.1 (rw e at o))

positive : no_zero order ≡ true
unfolding no_zero
positive = refl

ordered : (st ws : List ℕ) (call : Call) → in_order order (refusals st ws call) ≡ true
unfolding in_order own_refusals
ordered st ws call = (lawful call).in_order (settings_of st) (held_in (settings_of st) ws)

-- ---- the reply
module _ (st ws : List ℕ) (call : Call) (n : ℕ) where
  -- a refusal's number is the first that is met, and is not 0
  pub told : reply st ws call ≡ Refused n → (refused st ws call ≡ n) × (eqb (refused st ws call) 0 ≡ false)
  unfolding reply
  told e =
      by_test (eqb (refused st ws call) 0)
      (λ t. absurd (no_refusal _ n (step_through (settings_of st) call (held_in (settings_of st) ws)) (rw t at e)))
      (λ t. let q : Refused (refused st ws call) ≡ Refused n = rw t at e in ((cc), t))

  told_first : reply st ws call ≡ Refused n → First n (refusals st ws call)
  unfolding refused
  told_first e =
      let p = told e in
      is_first n (refusals st ws call) (let k = eqb-false (refused st ws call) 0 p.1 in let m = p.0 in omega (arith, k)) p.0

  first_replied : First n (refusals st ws call) → reply st ws call ≡ Refused n
  unfolding reply refused first_met
  first_replied f =
      let e = first_is 0 n (refusals st ws call) f in
      let h = first_pos n (refusals st ws call) (numbered order (refusals st ws call) positive (ordered st ws call)) f in
      rw (e, ne_eqb n 0 (λ z. omega arith))

  words_kept : reply st ws call ≡ Refused n → after st ws call ≡ ws
  unfolding after
  words_kept e = rw (told e).1

  bytes_kept : reply st ws call ≡ Refused n → output_after st ws call ≡ output_of call
  unfolding output_after
  bytes_kept e = rw (told e).1

pub refuses : (st ws : List ℕ) (call : Call) → Refuses st ws call
refuses st ws call = record {
  ordered = ordered st ws call;
  only_first = told_first st ws call;
  first_told = first_replied st ws call;
  told_or_through = met_or_none (refusals st ws call);
  words_kept = words_kept st ws call;
  bytes_kept = bytes_kept st ws call;
}
