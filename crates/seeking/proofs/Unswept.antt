-- A sweep leaves every generation its bucket word, so the stamps of a ring's buckets may be read before it. Assumes nothing.
use Prim.Native.Nat.{ℕ, zero, suc, ◌-◌, ◌%◌, max}
use mathlib.Core.Path.{◌≡◌, refl, ◌∙◌}
use mathlib.Core.List.{[], ◌∷◌}
use Rattle.std.specs.Prelude.{Option}
use lib.Dec.{leb}
use lib.ListN.{length, get_or, set}
use Rattle.runs.proofs.Cases.{split_if}
use Rattle.model.specs.declared.Class.{Class}
use Rattle.model.specs.declared.Class.TheVariants.{Feeders, Peers, Own}
use Rattle.model.specs.declared.Usable.{Usable}
use Rattle.model.specs.Settings.{ring_of}
use Rattle.model.specs.Class.{pick}
use Rattle.model.specs.Generation.{Generation, empty, dropped}
use Rattle.model.specs.Register.{Ring, Register, generation_at, passed, Swept, visit, visits, sweep_ring, sweep_rings, through_of, sweep}
use Rattle.model.specs.Stamp.{ring_stamps}

module _ (u : Usable) where
  -- one generation is replaced by another with its bucket
  set_stamps : (ring : Ring) (i : ℕ) (g : Generation) → g.bucket ≡ (get_or ring i empty).bucket → ring_stamps u (set ring i g) ≡ ring_stamps u ring
  unfolding ring_stamps
  set_stamps [] i g e = refl
  set_stamps (x ∷ xs) zero g e = rw e refl
  set_stamps (x ∷ xs) (suc i) g e = rw (set_stamps xs i g e) refl

  visit_stamps : (through b : ℕ) (w : Swept) → ring_stamps u (visit through b w).ring ≡ ring_stamps u w.ring
  unfolding visit dropped
  visit_stamps through b w =
      split_if (λ (x : Swept). ring_stamps u x.ring ≡ ring_stamps u w.ring) (passed through (generation_at w.ring b))
      (λ e. set_stamps w.ring (b % length w.ring) (dropped (generation_at w.ring b)) refl) (λ e. refl)

  visits_stamps : (k through b : ℕ) (w : Swept) → ring_stamps u (visits k through b w).ring ≡ ring_stamps u w.ring
  unfolding visits
  visits_stamps zero through b w = refl
  visits_stamps (suc k) through b w = visits_stamps k through (suc b) (visit through b w) ∙ visit_stamps through b w

  ring_stays : (from through : ℕ) (f : Option ℕ) (ring : Ring) → ring_stamps u (sweep_ring from through f ring).ring ≡ ring_stamps u ring
  unfolding sweep_ring
  ring_stays from through f ring = visits_stamps (through - from) through from (record { floor = f; ring = ring })

  rings_stay : (from through : ℕ) (reg : Register) (c : Class)
      → ring_stamps u (pick c (sweep_rings from through reg).rings) ≡ ring_stamps u (pick c reg.rings)
  unfolding sweep_rings
  rings_stay from through reg Feeders = ring_stays from through _ _
  rings_stay from through reg Peers = ring_stays from through _ _
  rings_stay from through reg Own = ring_stays from through _ _

  pub swept_stamps : (ms : ℕ) (reg : Register) (c : Class) → ring_stamps u (pick c (sweep u ms reg).rings) ≡ ring_stamps u (pick c reg.rings)
  unfolding sweep
  swept_stamps ms reg c =
      let through = through_of u ms in
      let from = max reg.swept (through - ring_of u) in
      split_if (λ (x : Register). ring_stamps u (pick c x.rings) ≡ ring_stamps u (pick c reg.rings)) reg.pending (λ e. refl)
      (λ e. split_if (λ (x : Register). ring_stamps u (pick c x.rings) ≡ ring_stamps u (pick c reg.rings)) (leb through reg.swept) (λ d. refl)
      (λ d. rings_stay from through reg c))
