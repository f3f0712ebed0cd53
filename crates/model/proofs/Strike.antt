-- A strike keeps what was struck before, and strikes its own ticket. Assumes nothing.
use Prim.Native.Nat.{ℕ, ◌%◌, ◌<◌}
use native.Mathlib.Omega.{arith}
use mathlib.Core.Path.{◌≡◌, refl, sym, subst, ◌∙◌}
use lib.Dec.{eqb}
use lib.ListN.{length, get_or}
use borrow.Author.Tests.{eqb-true, eqb-false, eq-eqb}
use Rattle.model.specs.declared.Class.{Class}
use Rattle.model.specs.declared.Room.TheVariants.{At}
use Rattle.model.specs.declared.Usable.{Usable}
use Rattle.runs.proofs.Cases.{by_test}
use Rattle.model.specs.Settings.{ring_of}
use Rattle.model.specs.Class.{pick}
use Rattle.model.specs.Generation.{Generation, empty, among, insert}
use Rattle.model.specs.Register.{Ring, Register, generation_at, with_generation, strike}
use Rattle.model.specs.Judge.{make_room}
use Rattle.model.proofs.Choice.{swap_cases, swap_same, or_right}
use Rattle.model.proofs.Probing.{Found}
use Rattle.model.proofs.Growth.{inserted, among_count, ok_found}
use Rattle.model.proofs.Struck.{Keeps, In, in_same, in_other, Safe, is_in, is_under, Struck, seen_in, struck_by, struck_on}
use Rattle.model.proofs.Bounds.{ring_positive}
use Rattle.model.proofs.RingsKept.{RingOk, RegisterOk, ring_some, at_ok, room_found}

-- ---- one generation: an insertion keeps what was held, and holds its own
insert_old : (b fp t fp₁ t₁ : ℕ) (g : Generation) → 0 < fp → 0 < fp₁ → Found g.slots → Keeps b fp t g → Keeps b fp t (insert b fp₁ t₁ g)
unfolding insert
insert_old b fp t fp₁ t₁ g z z₁ f h = record {
  of_bucket = refl;
  holds_it = (inserted b fp₁ t₁ g z₁ f).holds fp z ∙ or_right (eqb fp fp₁) (among fp g.slots) h.holds_it;
  as_new = omega (arith, h.as_new);
}

insert_new : (b fp t : ℕ) (g : Generation) → 0 < fp → Found g.slots → Keeps b fp t (insert b fp t g)
unfolding insert
insert_new b fp t g z f = record {
  of_bucket = refl;
  holds_it = (inserted b fp t g z f).holds fp z ∙ rw (eq-eqb fp fp refl);
  as_new = omega arith;
}

module _ (u : Usable) where
  found_at : (ring : Ring) (b : ℕ) → RingOk u ring → Found (generation_at ring b).slots
  found_at ring b ok = ok_found u.slots (ring_of u) (b % length ring) (generation_at ring b) (at_ok u.slots (ring_of u) ring b (ring_positive u) ok)

  -- ---- one ring: room is found in a generation of the same bucket, or in one that holds nothing, so nothing is overwritten
  in_strike : (b fp t b₁ fp₁ t₁ i : ℕ) (ring : Ring) → 0 < fp → 0 < fp₁ → RingOk u ring → make_room u.slots b₁ fp₁ ring ≡ At i
      → In b fp t ring → In b fp t (with_generation ring b₁ (insert b₁ fp₁ t₁ (generation_at ring b₁)))
  in_strike b fp t b₁ fp₁ t₁ i ring z z₁ ok r h =
      let n = length ring in
      let g = generation_at ring b₁ in
      by_test (eqb (b % n) (b₁ % n))
      (λ same. let e : b % n ≡ b₁ % n = eqb-true (b % n) (b₁ % n) same in
      let k : Keeps b fp t g = subst (λ (j : ℕ). Keeps b fp t (get_or ring j empty)) e h in
      room_found u.slots b₁ fp₁ i ring r
      (λ d. let w : b ≡ b₁ = sym k.of_bucket ∙ d in
      in_same b fp t (b₁ % n) ring (insert b₁ fp₁ t₁ g) e (ring_some u ring ok)
      (subst (λ (x : ℕ). Keeps b fp t (insert x fp₁ t₁ g)) w (insert_old b fp t fp₁ t₁ g z z₁ (found_at ring b₁ ok) k)))
      (λ d. absurd (omega (arith, among_count fp g.slots z k.holds_it))))
      (λ other. in_other b fp t (b₁ % n) ring (insert b₁ fp₁ t₁ g) (eqb-false (b % n) (b₁ % n) other) h)

  -- ---- a register: what was struck stays struck, in each class
  pub safe_strike : (b fp t b₁ fp₁ t₁ i : ℕ) (c d : Class) (reg : Register) → 0 < fp → 0 < fp₁ → RegisterOk u reg
      → make_room u.slots b₁ fp₁ (pick c reg.rings) ≡ At i → Safe b fp t (seen_in d reg) → Safe b fp t (seen_in d (strike c b₁ fp₁ t₁ reg))
  unfolding strike
  safe_strike b fp t b₁ fp₁ t₁ i c d reg z z₁ ok r (is_under p) = is_under p
  safe_strike b fp t b₁ fp₁ t₁ i c d reg z z₁ ok r (is_in h) =
      let ring = pick c reg.rings in
      is_in (swap_cases (λ (x : Ring). In b fp t x) c d (with_generation ring b₁ (insert b₁ fp₁ t₁ (generation_at ring b₁))) reg.rings
      (λ e. in_strike b fp t b₁ fp₁ t₁ i ring z z₁ (ok.rings c) r (subst (λ (k : Class). In b fp t (pick k reg.rings)) (sym e) h)) h)

  pub struck_strike : (b fp t b₁ fp₁ t₁ i : ℕ) (c : Class) (reg : Register) → 0 < fp → 0 < fp₁ → RegisterOk u reg
      → make_room u.slots b₁ fp₁ (pick c reg.rings) ≡ At i → Struck b fp t reg → Struck b fp t (strike c b₁ fp₁ t₁ reg)
  struck_strike b fp t b₁ fp₁ t₁ i c reg z z₁ ok r s = struck_on b fp t reg _ (λ d. safe_strike b fp t b₁ fp₁ t₁ i c d reg z z₁ ok r) s

  -- and so is the new ticket, in its class
  pub safe_new : (b fp t : ℕ) (c : Class) (reg : Register) → 0 < fp → RegisterOk u reg → Safe b fp t (seen_in c (strike c b fp t reg))
  unfolding strike
  safe_new b fp t c reg z ok =
      let ring = pick c reg.rings in
      let g = generation_at ring b in
      is_in (swap_same (λ (x : Ring). In b fp t x) c (with_generation ring b (insert b fp t g)) reg.rings
      (in_same b fp t (b % length ring) ring (insert b fp t g) refl (ring_some u ring (ok.rings c)) (insert_new b fp t g z (found_at ring b (ok.rings c)))))

  pub struck_new : (b fp t : ℕ) (c : Class) (reg : Register) → 0 < fp → RegisterOk u reg → Struck b fp t (strike c b fp t reg)
  struck_new b fp t c reg z ok = struck_by b fp t c _ (safe_new b fp t c reg z ok)
