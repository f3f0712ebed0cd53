-- "And growth? Its rule is shown for all slot counts together." With it: a probe finds exactly what is held, and an insertion holds
-- exactly what was held and the fingerprint that it inserts.
--
-- "Let a generation grow, and let it be refused for lack of slots, only when the fingerprint is not held." (request Q-2)
use Rattle.std.specs.Prelude.{ℕ, suc, ◌*◌, ◌^◌, ◌%◌, ◌≤◌, ◌<◌, max, ◌≡◌, Bool, true, false, ◌||◌, List, eqb, length}
use Rattle.model.specs.declared.Class.{Class}
use Rattle.model.specs.declared.Probe.{Probe}
use Rattle.model.specs.declared.Probe.TheVariants.{Held, Free, Nowhere}
use Rattle.model.specs.declared.Room.TheVariants.{At}
use Rattle.model.specs.declared.Usable.{Usable}
use Rattle.model.specs.declared.Verdict.TheVariants.{New}
use Rattle.model.specs.Class.{pick}
use Rattle.model.specs.Generation.{Generation, count, among, as_read, probe, slots_for, insert}
use Rattle.model.specs.GenerationWords.{GenerationOk}
use Rattle.model.specs.Register.{Ring, Register, generation_at, holds}
use Rattle.model.specs.Judge.{Ask, bucket_of, verdict, collides, make_room}

-- "Slots double from their present number, at least 1, while 4 × (held + 1) > 3 × slots": they are doubled so many times, then it
-- is no longer so, and before it always was
pub record Grows (s : List ℕ) (slots : ℕ) : Type 0 where
  pub times : ℕ
  pub doubled : slots ≡ 2 ^ times * max (length s) 1
  pub stops : 4 * suc (count s) ≤ 3 * slots
  pub goes_on : (t : ℕ) → t < times → 3 * (2 ^ t * max (length s) 1) < 4 * suc (count s)

-- ".. when the fingerprint is not held": of any slots, sound or not
abbrev pub GrowthRule : Type 0
GrowthRule = (s : List ℕ) → Grows s (slots_for false s)

-- and ".. only" then: for one that is held there are as many as before, of any slots too
abbrev pub HeldStays : Type 0
HeldStays = (s : List ℕ) → slots_for true s ≡ length s

-- "Sites .. see slots double with nothing added": one that is held leaves every slot of its generation as it is
abbrev pub HeldIsKept : Type 0
HeldIsKept =
    (S n i : ℕ) (g : Generation) → GenerationOk S n i g → (b fp stamp : ℕ) → 0 < fp → among fp g.slots ≡ true
    → (insert b fp stamp g).slots ≡ g.slots

-- "let it be refused for lack of slots, only when the fingerprint is not held": one that a ring holds in its bucket has room, at that
-- bucket's position
abbrev pub HeldHasRoom : Type 0
HeldHasRoom =
    (S n i : ℕ) (ring : Ring) (b fp : ℕ) → GenerationOk S n i (generation_at ring b) → holds b fp ring ≡ true
    → make_room S b fp ring ≡ At (b % length ring)

-- a ticket that is judged New is not held where it would go, so a take asks for slots as for any new fingerprint
abbrev pub NewIsNotHeld : Type 0
NewIsNotHeld =
    (u : Usable) (reg : Register) (a : Ask) (c : Class) → verdict u reg a ≡ New
    → collides (bucket_of u a.stamp) (generation_at (pick c reg.rings) (bucket_of u a.stamp)) ≡ false
    → among (as_read a.fp) (generation_at (pick c reg.rings) (bucket_of u a.stamp)).slots ≡ false

-- probing ends where the fingerprint is held
abbrev pub finds : Probe → Bool
finds (Held i) = true
finds (Free i) = false
finds Nowhere = false

abbrev pub ProbeFinds : Type 0
ProbeFinds = (S n i : ℕ) (g : Generation) → GenerationOk S n i g → (fp : ℕ) → 0 < fp → finds (probe g.slots fp) ≡ among fp g.slots

-- a fingerprint is inserted into a well-formed generation that it fits: growth forgets none and invents none
pub record Inserts (S n b fp stamp : ℕ) (g : Generation) : Type 0 where
  pub ok : GenerationOk S n (b % n) (insert b fp stamp g)
  pub slots : length (insert b fp stamp g).slots ≡ slots_for (among fp g.slots) g.slots
  pub holds : (x : ℕ) → 0 < x → among x (insert b fp stamp g).slots ≡ (eqb x fp || among x g.slots)

abbrev pub InsertionHolds : Type 0
InsertionHolds =
    (S n i : ℕ) (g : Generation) → GenerationOk S n i g → (b fp stamp : ℕ) → S ≤ 1_024 → 0 < fp
    → slots_for (among fp g.slots) g.slots ≤ S → Inserts S n b fp stamp g
