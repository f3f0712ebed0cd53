-- A failed generation raises the floor to its newest stamp and to that of the generation that is dropped (specs/FloorCovers). Assumes nothing.
use Prim.Native.Nat.{ℕ}
use native.Mathlib.Omega.{arith}
use mathlib.Core.Path.{◌≡◌}
use mathlib.Core.Bool.{Bool, false}
use mathlib.Core.List.{List, [], ◌∷◌, ◌++◌}
use borrow.Author.Tests.{eq-eqb}
use Rattle.model.specs.declared.Class.{Class}
use Rattle.model.specs.declared.Shares.{Shares}
use Rattle.model.specs.declared.Usable.{Usable}
use Rattle.model.specs.Class.{pick}
use Rattle.model.specs.Register.{Ring, generation_at}
use Rattle.model.specs.Dump.{Dumped, Holding, dropped_newest, failed, Restoring, settled, tried, restore_class}
use Rattle.model.specs.FloorCovers.{Covered, FloorCovers}
use Rattle.model.proofs.FloorLaws.{raised_past, class_stands}

-- a generation of that bucket is what goes
pub goes : (b : ℕ) (ring : Ring) → (generation_at ring b).bucket ≡ b → dropped_newest b ring ≡ (generation_at ring b).newest
unfolding dropped_newest
goes b ring e = rw (eq-eqb (generation_at ring b).bucket b e)

module _ (u : Usable) (b : Shares) where
  pub failed_covers : (c : Class) (d : Dumped) (whole : Bool) (h : Holding) → h.fits ≡ false
      → Covered d (generation_at (pick c h.register.rings) d.bucket) (settled u c d whole h).register.floor
  unfolding settled failed
  failed_covers c d whole h e =
      let ring = pick c h.register.rings in
      rw e (record {
        of_the_dump = raised_past d.newest _ h.register.floor (omega arith);
        of_the_dropped = λ same. raised_past (generation_at ring d.bucket).newest _ h.register.floor (omega (arith, goes d.bucket ring same));
      })

  class_covers : (c : Class) (earlier later : List Dumped) (d : Dumped) (from : Restoring)
      → (tried u b c d (restore_class u b c earlier from)).fits ≡ false
      → Covered d (generation_at (pick c (tried u b c d (restore_class u b c earlier from)).register.rings) d.bucket)
      (restore_class u b c (earlier ++ d ∷ later) from).register.floor
  unfolding restore_class
  class_covers c [] later d from e =
      let k = failed_covers c d from.whole (tried u b c d from) e in
      record {
        of_the_dump = class_stands u b d.newest c later _ k.of_the_dump;
        of_the_dropped = λ same. class_stands u b _ c later _ (k.of_the_dropped same);
      }
  class_covers c (x ∷ earlier) later d from e = class_covers c earlier later d _ e

pub floor_covers : FloorCovers
floor_covers u b c earlier later d from e = class_covers u b c earlier later d from e
