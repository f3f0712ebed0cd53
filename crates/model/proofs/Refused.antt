-- Refusals and codes as the code hands them on: what the exit of a `?` returns, and what a listed code is.
use native.Mathlib.Omega.{arith}
use mathlib.Core.Path.{◌≡◌, refl}
use mathlib.Core.Bool.{Bool, true, false}
use Rattle.std.proofs.Common.{Result, Ok, Err}
use Rattle.std.specs.Result.{IsErrAnd}
use Rattle.model.specs.declared.Refusal.{Refusal}
use Rattle.model.specs.declared.Refusal.TheVariants.{Unfit, TooFewWords, UnsoundWords, NoSuchRegister, OutputTooShort, Pending, CutShort, ViewTooShort}
use Rattle.model.specs.Answer.{refusal_number}
use Rattle.model.specs.Listed.{listed}

-- no refusal is 0, the number of a call that went through
pub refusal_there : (e : Refusal) → refusal_number e ≡ 0 → ⊥
refusal_there Unfit h = omega arith
refusal_there TooFewWords h = omega arith
refusal_there UnsoundWords h = omega arith
refusal_there NoSuchRegister h = omega arith
refusal_there OutputTooShort h = omega arith
refusal_there Pending h = omega arith
refusal_there CutShort h = omega arith
refusal_there ViewTooShort h = omega arith

-- the exit of a `?` returns the error
pub exits : {A : Type 0} {e : Refusal} (r : Result A Refusal) → IsErrAnd r (λ y. y ≡ e) → r ≡ Err e
exits (Ok x) h = absurd h
exits (Err y) h = rw h

-- a code that was read, and one that is not listed
pub listed_ok : {A : Type 0} {x y : A} (b : Bool) → Ok y ≡ listed b x → (b ≡ true) × (y ≡ x)
listed_ok true h = (refl, cc)
listed_ok false h = absurd (cc)

pub listed_err : {A : Type 0} (x : A) {e : Refusal} (b : Bool) → Err e ≡ listed b x → (b ≡ false) × (e ≡ Unfit)
listed_err x true h = absurd (cc)
listed_err x false h = (refl, cc)
