-- A generation that failed. Assumes nothing.
use Prim.Native.Nat.{ℕ, ◌-◌, max}
use native.Mathlib.Omega.{arith}
use mathlib.Core.Path.{◌≡◌, refl, ap}
use mathlib.Core.List.{List}
use lib.Dec.{eqb}
use borrow.Author.Tests.{eqb-true}
use borrow.Rule.Slice.PartMut.{put_mid, mid_of}
use Rattle.runs.proofs.Cases.{by_test}
use Rattle.runs.proofs.Turns.{turns_as, then, then_with}
use Rattle.runs.specs.Turns.{silent}
use Rattle.model.specs.declared.Class.{Class}
use Rattle.model.specs.declared.Usable.{Usable}
use Rattle.model.specs.Numbers.{raise}
use Rattle.model.specs.Class.{pick}
use Rattle.model.specs.Settings.{ring_of}
use Rattle.model.specs.Generation.{Generation, held}
use Rattle.model.specs.GenerationWords.{GenerationOk}
use Rattle.model.specs.Register.{Ring, Register, with_floor, raised, in_ring, generation_at}
use Rattle.model.specs.RegisterWords.{register_form}
use Rattle.model.specs.Dump.{drop_bucket, dropped_newest, failed}
use Rattle.model.proofs.Bounds.{ring_positive}
use Rattle.model.proofs.Growth.{ok_ways}
use Rattle.model.proofs.RingsKept.{RingOk, from_form, to_form, swapped_ok, drop_ok, at_ok}
use Rattle.std.specs.Prelude.{Option, Some, None}
use Rattle.ring.specs.Ring.{RingTurns, drop_bucket_says}
use Rattle.ring.specs.Sweep.{raised_by}
use Rattle.register.specs.Rules.{raised_with, failed_at}
use Rattle.register.specs.Words.{RegisterWords, RegisterTurns, RingAt}
use Rattle.register.proofs.InRings.{ring_turns, still_words}

-- ---- a floor raised twice is raised to the larger of the two
raise_both : (f : Option ℕ) (n m : ℕ) → raise (raise f n) m ≡ raise f (max m n)
unfolding raise
raise_both None n m = let k : max n m ≡ max m n = omega arith in ap Some k
raise_both (Some f) n m = let k : max (max f n) m ≡ max f (max m n) = omega arith in ap Some k

raise_zero : (f : Option ℕ) (n w : ℕ) → w ≡ 0 → raise f n ≡ raise f (max n w)
raise_zero f n w z = let k : n ≡ max n w = omega arith in ap (raise f) k

-- a generation that holds nothing has no newest stamp
held_none : (S n i : ℕ) (g : Generation) → GenerationOk S n i g → held g ≡ 0 → g.newest ≡ 0
held_none S n i g ok z = ok_ways S n i g ok (λ e zero. zero) (λ power some few position reached. absurd (omega arith))

-- ---- a generation that failed
module _ (u : Usable) (c : Class) (b newest : ℕ) where
  -- by what went, and then to the dump's newest, is to the larger of both
  both_raised : (f : Option ℕ) (ring : Ring) → RingOk u ring
      → raise (raised_by (drop_bucket_says b ring) f) newest ≡ raise f (max newest (dropped_newest b ring))
  unfolding dropped_newest
  both_raised f ring ok =
      let g = generation_at ring b in
      by_test (eqb g.bucket b)
      (λ e. by_test (eqb (held g) 0)
      (λ h. rw (e, h) (raise_zero f newest g.newest
      (held_none u.slots (ring_of u) _ g (at_ok u.slots (ring_of u) ring b (ring_positive u) ok) (eqb-true (held g) 0 h))))
      (λ h. rw (e, h) (raise_both f g.newest newest)))
      (λ e. rw e (raise_zero f newest 0 refl))

  dropped_ok : (reg : Register) → (register_form u).Ok reg → (register_form u).Ok (in_ring c (drop_bucket b) reg)
  dropped_ok reg ok =
      let r = from_form u reg ok in
      to_form u (in_ring c (drop_bucket b) reg) (record {
        spare = r.spare;
        rings = swapped_ok u c (drop_bucket b (pick c reg.rings)) reg r (drop_ok u.slots (ring_of u) b (pick c reg.rings) (r.rings c));
      })

  failed_ok : (reg : Register) → (register_form u).Ok reg → (register_form u).Ok (failed_at c b newest reg)
  unfolding failed
  failed_ok reg ok = dropped_ok reg ok

  failed_is : (reg : Register) → (register_form u).Ok reg
      → raised newest (raised_with (drop_bucket_says b (pick c reg.rings)) (in_ring c (drop_bucket b) reg)) ≡ failed_at c b newest reg
  unfolding failed
  failed_is reg ok =
      ap (λ (f : Option ℕ). with_floor f (in_ring c (drop_bucket b) reg)) (both_raised reg.floor (pick c reg.rings) ((from_form u reg ok).rings c))

  fail_turns : (ws mid past last : List ℕ) (d : Option ℕ)
      → RegisterTurns u (in_ring c (drop_bucket b)) (λ reg. drop_bucket_says b (pick c reg.rings)) ws mid d
      → RegisterTurns u (raised_with d) silent mid past (tt {0}) → RegisterTurns u (raised newest) silent past last (tt {0})
      → RegisterTurns u (failed_at c b newest) silent ws last (tt {0})
  fail_turns ws mid past last d one two three =
      turns_as (then dropped_ok (then_with dropped_ok one raised_with (λ d. silent) two) three)
      (λ reg ok is r. (ap (register_form u).enc (failed_is reg ok), refl))

  -- ---- the drop in the ring's part, and the two raises of the register's
  module _ (S n a e : ℕ) (l : RingAt u c S n a e) (ws part past last : List ℕ) (d : Option ℕ) (w : RegisterWords u ws)
      (one : RingTurns S n (drop_bucket b) (drop_bucket_says b) (mid_of a (e - a) ws) part d)
      (two : (u : Usable) → RegisterTurns u (raised_with d) silent (put_mid a (e - a) ws part) past (tt {0}))
      (three : (u : Usable) → RegisterTurns u (raised newest) silent past last (tt {0})) where
    pub fails : RegisterWords u last × RegisterTurns u (failed_at c b newest) silent ws last (tt {0})
    fails =
        let t = fail_turns ws (put_mid a (e - a) ws part) past last d (ring_turns u c S n a e l one) (two u) (three u) in
        (still_words u ws last failed_ok t w, t)
