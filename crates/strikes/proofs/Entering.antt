-- What a call enters with, from what its settings and words were found to be.
use Prim.Native.Nat.{ℕ, ◌+◌, ◌<◌, ◌≤◌}
use native.Mathlib.Omega.{arith}
use mathlib.Core.Path.{◌≡◌, refl, subst}
use mathlib.Core.List.{List}
use borrow.Author.Tests.{le-leb, lt-leb}
use Rattle.std.proofs.Common.{Result}
use Rattle.std.specs.Result.{IsErrAnd}
use Rattle.model.specs.declared.Refusal.{Refusal}
use Rattle.model.specs.declared.Settings.{Settings}
use Rattle.model.specs.declared.Class.{Class}
use Rattle.model.specs.Settings.{settings_of, words_needed}
use Rattle.model.specs.Words.{class_start, class_width}
use Rattle.model.proofs.Refused.{refusal_there, exits}
use Rattle.model.specs.Answer.{refusal_number}
use Rattle.numbers.specs.declared.starts.RegisterExtent.{RegisterExtent}
use Rattle.numbers.specs.RegisterAt.{RegisterAt}
use Rattle.numbers.proofs.Placing.{needed_few}
use Rattle.taking.specs.declared.one_register.OneRegister.{OneRegister}
use Rattle.vet.specs.declared.vetted.Vetted.{Vetted}
use Rattle.vet.specs.Vetted.{vetted}
use Rattle.vet.specs.Entries.{Refuses, ReadyWithin}
use Rattle.strikes.specs.declared.ClassExtent.{ClassExtent}
use Rattle.strikes.specs.Admitted.{admits}
use Rattle.strikes.specs.Entries.{ByRegister, Admits, AtRegister, FindsRegister, AtClass, FindsClass}
use Rattle.strikes.proofs.Admitting.{first_three, no_register, all_passed}

-- ---- 4 after the first three
pub vetted_exit : (st ws : List ℕ) (r : ℕ) (e : Refusal) (got : Result OneRegister Refusal) → IsErrAnd got (λ y. y ≡ e) → Refuses (vetted st ws) e → Admits st ws r got
vetted_exit st ws r e got h v = rw (exits got h) (first_three st ws r (refusal_number e) v (refusal_there e))

module _ {st ws : List ℕ} {x : Vetted} (enters : ReadyWithin st ws (vetted st ws) x) (r : ℕ) where
  pub unknown : x.s.registers ≤ r → 4 ≡ admits st ws r
  unknown l =
      let k = subst (λ (s : Settings). s.registers ≤ r) enters.ready.read l in no_register st ws r enters.ready.passed (le-leb _ _ k)

  pub admitted : r < x.s.registers → (p : RegisterExtent) (needed : x.need ≡ words_needed x.s) (at : RegisterAt x.s r p)
      → ByRegister st ws r (record { s = x.s; need = x.need; r = r; extent = p; needed = needed; at = at })
  admitted l p needed at =
      let ready = enters.ready in
      let k = subst (λ (s : Settings). r < s.registers) ready.read l in
      record {
        fit = x.fit;
        enters = record {
          ready = record { passed = all_passed st ws r ready.passed (lt-leb _ _ k); fit = ready.fit; read = ready.read; need = ready.need };
          within = enters.within;
        };
        number = refl;
      }

-- ---- where a register lies
pub register_exit : (st ws : List ℕ) (r : ℕ) (e : Refusal) (got : Result RegisterExtent Refusal) → IsErrAnd got (λ y. y ≡ e)
    → Refuses (admits st ws r) e → FindsRegister st ws r got
register_exit st ws r e got h v = rw (exits got h) v

module _ {st ws : List ℕ} {r : ℕ} {on : OneRegister} (by : ByRegister st ws r on) where
  pub span_there : AtRegister st ws r on.extent
  span_there =
      let q = rw (by.enters.ready.read, by.number) at on.at in
      let n = by.enters.ready.need in
      let w = by.enters.within in
      let i = q.within in
      record {
        passed = by.enters.ready.passed;
        place = q;
        order = let d = q.end in omega arith;
        within = omega arith;
        few = q.few;
      }

-- ---- where a class lies
pub class_exit : (st ws : List ℕ) (c : Class) (e : Refusal) (got : Result ClassExtent Refusal) → IsErrAnd got (λ y. y ≡ e)
    → Refuses (vetted st ws) e → FindsClass st ws c got
class_exit st ws c e got h v = rw (exits got h) v

module _ {st ws : List ℕ} {x : Vetted} (enters : ReadyWithin st ws (vetted st ws) x) where
  pub class_there : (c : Class) (a e : ℕ) → a ≡ class_start x.s c → e ≡ a + class_width x.s.shares → e ≤ words_needed x.s
      → AtClass st ws c (record { shares = x.s.shares; words = record { start = a; end = e } })
  class_there c a e from wide inside =
      let n = enters.ready.need in
      let i = enters.within in
      let m = needed_few x.s x.fit in
      let read = enters.ready.read in
      let l : e ≤ words_needed (settings_of st) = rw read at inside in
      record {
        passed = enters.ready.passed;
        shares = rw read;
        start = rw read at from;
        end = rw read at wide;
        order = omega arith;
        within = omega arith;
        few = omega arith;
      }
