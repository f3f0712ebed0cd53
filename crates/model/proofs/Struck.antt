-- A ticket that was struck stays so: it is held in its bucket in some class, under a newest stamp at or past its own, or the floor
-- is at or past its stamp. A sweep keeps that, whatever the clock reads. Assumes nothing.
use Prim.Native.Nat.{ℕ, zero, suc, ◌-◌, ◌%◌, ◌≤◌, ◌<◌, max}
use native.Mathlib.Omega.{arith}
use native.Mathlib.Nat.{mod-lt}
use mathlib.Core.Path.{◌≡◌, refl, sym, subst}
use mathlib.Core.Bool.{true}
use Rattle.std.specs.Prelude.{Option, Some, None}
use lib.Dec.{leb, eqb}
use lib.ListN.{length, get_or, set, length-set}
use lib.Seq.{get_or-set_same, get_or-set_other}
use borrow.Author.Tests.{eqb-true, eqb-false, leb-true, le-leb}
use Rattle.model.specs.declared.Class.{Class}
use Rattle.model.specs.declared.Class.TheVariants.{Feeders, Peers, Own}
use Rattle.model.specs.declared.Usable.{Usable}
use Rattle.runs.proofs.Cases.{split_if, by_test}
use Rattle.model.specs.Numbers.{raise, under}
use Rattle.model.specs.Settings.{ring_of}
use Rattle.model.specs.Class.{pick}
use Rattle.model.specs.Generation.{Generation, empty, among, dropped}
use Rattle.model.specs.Register.{Ring, Register, generation_at, passed, Swept, visit, visits, sweep_ring, sweep_rings, swept_to, through_of, sweep}
use Rattle.model.proofs.Choice.{true_false}

-- ---- a stamp at or below the floor stays there
pub under_raise : (t n : ℕ) (f : Option ℕ) → under t f ≡ true → under t (raise f n) ≡ true
unfolding under raise
under_raise t n None p = true_false p refl
under_raise t n (Some f) p = le-leb t (max f n) (omega (arith, leb-true t f p))

pub under_raised : (t n : ℕ) (f : Option ℕ) → t ≤ n → under t (raise f n) ≡ true
unfolding under raise
under_raised t n None h = le-leb t n h
under_raised t n (Some f) h = le-leb t (max f n) (omega arith)

-- ---- a generation, and so a ring, holds a ticket of bucket b
pub record Keeps (b fp t : ℕ) (g : Generation) : Type 0 where
  pub of_bucket : g.bucket ≡ b
  pub holds_it : among fp g.slots ≡ true
  pub as_new : t ≤ g.newest

abbrev pub In : ℕ → ℕ → ℕ → Ring → Type 0
In b fp t ring = Keeps b fp t (generation_at ring b)

-- another position's generation does not matter
pub in_other : (b fp t i : ℕ) (ring : Ring) (g : Generation) → (b % length ring ≡ i → ⊥) → In b fp t ring → In b fp t (set ring i g)
in_other b fp t i ring g d h =
    rw (length-set ring i g) (subst (λ (x : Generation). Keeps b fp t x) (sym (get_or-set_other ring i (b % length ring) g empty d)) h)

pub in_same : (b fp t i : ℕ) (ring : Ring) (g : Generation) → b % length ring ≡ i → 0 < length ring → Keeps b fp t g → In b fp t (set ring i g)
in_same b fp t i ring g e z h =
    rw (length-set ring i g, e) (rw (get_or-set_same ring i g empty (omega (arith, e, mod-lt b z))) h)

-- ---- a sweep through one ring: the ticket is held, or its generation was dropped and the floor is past it
pub data Safe (b fp t : ℕ) (w : Swept) : Type 0 where
  is_in : In b fp t w.ring → Safe b fp t w
  is_under : under t w.floor ≡ true → Safe b fp t w

safe_visit : (b fp t through from : ℕ) (w : Swept) → Safe b fp t w → Safe b fp t (visit through from w)
unfolding visit
safe_visit b fp t through from w (is_under p) =
    split_if (λ (x : Swept). Safe b fp t x) (passed through (generation_at w.ring from))
    (λ e. is_under (under_raise t (generation_at w.ring from).newest w.floor p)) (λ e. is_under p)
safe_visit b fp t through from w (is_in h) =
    let ring = w.ring in
    split_if (λ (x : Swept). Safe b fp t x) (passed through (generation_at w.ring from))
    (λ e. by_test (eqb (b % length ring) (from % length ring))
    (λ same. is_under (under_raised t (generation_at ring from).newest w.floor
    (subst (λ (i : ℕ). t ≤ (get_or ring i empty).newest) (eqb-true (b % length ring) (from % length ring) same) h.as_new)))
    (λ other. is_in (in_other b fp t (from % length ring) ring (dropped (generation_at ring from)) (eqb-false (b % length ring) (from % length ring) other) h)))
    (λ e. is_in h)

safe_visits : (n b fp t through from : ℕ) (w : Swept) → Safe b fp t w → Safe b fp t (visits n through from w)
unfolding visits
safe_visits zero b fp t through from w s = s
safe_visits (suc n) b fp t through from w s = safe_visits n b fp t through (suc from) (visit through from w) (safe_visit b fp t through from w s)

safe_sweep : (b fp t from through : ℕ) (f : Option ℕ) (ring : Ring) → Safe b fp t (record { floor = f; ring = ring }) → Safe b fp t (sweep_ring from through f ring)
unfolding sweep_ring
safe_sweep b fp t from through f ring s = safe_visits (through - from) b fp t through from (record { floor = f; ring = ring }) s

-- ---- a register has struck a ticket
pub data Struck (b fp t : ℕ) (reg : Register) : Type 0 where
  in_class : (c : Class) → In b fp t (pick c reg.rings) → Struck b fp t reg
  below_floor : under t reg.floor ≡ true → Struck b fp t reg

-- which class it is in does not matter: what keeps it safe in each class keeps it struck
abbrev pub seen_in : Class → Register → Swept
seen_in c reg = record { floor = reg.floor; ring = pick c reg.rings }

pub struck_by : (b fp t : ℕ) (c : Class) (reg : Register) → Safe b fp t (seen_in c reg) → Struck b fp t reg
struck_by b fp t c reg (is_in h) = in_class c h
struck_by b fp t c reg (is_under p) = below_floor p

pub struck_on : (b fp t : ℕ) (reg after : Register) → ((c : Class) → Safe b fp t (seen_in c reg) → Safe b fp t (seen_in c after)) → Struck b fp t reg
    → Struck b fp t after
struck_on b fp t reg after f (in_class c h) = struck_by b fp t c after (f c (is_in h))
struck_on b fp t reg after f (below_floor p) = struck_by b fp t Feeders after (f Feeders (is_under p))

-- a sweep goes through the three rings, and each raises the floor that the next one begins with
module _ (b fp t from through : ℕ) (reg : Register) where
  after_feeders : Swept
  after_feeders = sweep_ring from through reg.floor reg.rings.of_feeders

  after_peers : Swept
  unfolding after_feeders
  after_peers = sweep_ring from through after_feeders.floor reg.rings.of_peers

  after_own : Swept
  unfolding after_peers
  after_own = sweep_ring from through after_peers.floor reg.rings.of_own

  from_own : Safe b fp t after_own → Struck b fp t (sweep_rings from through reg)
  unfolding sweep_rings after_own
  from_own (is_in h) = in_class Own h
  from_own (is_under p) = below_floor p

  from_peers : Safe b fp t after_peers → Struck b fp t (sweep_rings from through reg)
  unfolding sweep_rings after_own
  from_peers (is_in h) = in_class Peers h
  from_peers (is_under p) = from_own (safe_sweep b fp t from through after_peers.floor reg.rings.of_own (is_under p))

  from_feeders : Safe b fp t after_feeders → Struck b fp t (sweep_rings from through reg)
  unfolding sweep_rings after_own
  from_feeders (is_in h) = in_class Feeders h
  from_feeders (is_under p) = from_peers (safe_sweep b fp t from through after_feeders.floor reg.rings.of_peers (is_under p))

  struck_rings : Struck b fp t reg → Struck b fp t (sweep_rings from through reg)
  unfolding after_own
  struck_rings (in_class Feeders h) = from_feeders (safe_sweep b fp t from through reg.floor reg.rings.of_feeders (is_in h))
  struck_rings (in_class Peers h) = from_peers (safe_sweep b fp t from through after_feeders.floor reg.rings.of_peers (is_in h))
  struck_rings (in_class Own h) = from_own (safe_sweep b fp t from through after_peers.floor reg.rings.of_own (is_in h))
  struck_rings (below_floor p) = from_feeders (safe_sweep b fp t from through reg.floor reg.rings.of_feeders (is_under p))

struck_to : (b fp t through : ℕ) (reg : Register) → Struck b fp t reg → Struck b fp t (swept_to through reg)
struck_to b fp t through reg (in_class c h) = in_class c h
struck_to b fp t through reg (below_floor p) = below_floor p

-- also where the clock stepped back: then the swept bucket falls and the floor stays
pub struck_sweep : (b fp t : ℕ) (u : Usable) (ms : ℕ) (reg : Register) → Struck b fp t reg → Struck b fp t (sweep u ms reg)
unfolding sweep
struck_sweep b fp t u ms reg s =
    split_if (λ (x : Register). Struck b fp t x) reg.pending (λ e. s)
    (λ e. split_if (λ (x : Register). Struck b fp t x) (leb (through_of u ms) reg.swept) (λ d. struck_to b fp t (through_of u ms) reg s)
    (λ d. struck_rings b fp t (max reg.swept (through_of u ms - ring_of u)) (through_of u ms) reg s))
