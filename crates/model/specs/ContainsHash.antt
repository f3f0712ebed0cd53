-- "`contains_hash` looks in all buckets."
-- It answers yes exactly when the fingerprint, 0 read as 1, stands in some class, at some position of its ring, in some slot: of any
-- words, settings and register.
use Rattle.std.specs.Prelude.{ℕ, ◌<◌, ◌≡◌, true, List, ◌⊎◌, length, get_or}
use Rattle.model.specs.declared.Class.{Class}
use Rattle.model.specs.Answer.{Yes, No}
use Rattle.model.specs.Settings.{settings_of}
use Rattle.model.specs.Class.{pick}
use Rattle.model.specs.Generation.{empty, as_read}
use Rattle.model.specs.Register.{Ring, Register}
use Rattle.model.specs.Codes.{went_through}
use Rattle.model.specs.Calls.{ContainsHash, On, register_at, held_in, reply}

-- a slot that holds the number
pub record InSlot (fp : ℕ) (slots : List ℕ) : Type 0 where
  pub slot : ℕ
  pub there : slot < length slots
  pub holds : get_or slots slot 0 ≡ fp

-- a position whose generation has such a slot
pub record AtPosition (fp : ℕ) (ring : Ring) : Type 0 where
  pub position : ℕ
  pub there : position < length ring
  pub slot : InSlot fp (get_or ring position empty).slots

pub record HeldSomewhere (fp : ℕ) (reg : Register) : Type 0 where
  pub class : Class
  pub position : AtPosition fp (pick class reg.rings)

pub record LooksInAll (st ws : List ℕ) (r fp : ℕ) : Type 0 where
  pub yes_only : reply st ws (On r (ContainsHash fp)) ≡ Yes → HeldSomewhere (as_read fp) (register_at r (held_in (settings_of st) ws))
  pub no_only : reply st ws (On r (ContainsHash fp)) ≡ No → HeldSomewhere (as_read fp) (register_at r (held_in (settings_of st) ws)) → ⊥
  -- and one of the two it answers, unless it is refused
  pub either : went_through (reply st ws (On r (ContainsHash fp))) ≡ true
      → (reply st ws (On r (ContainsHash fp)) ≡ Yes) ⊎ (reply st ws (On r (ContainsHash fp)) ≡ No)

abbrev pub ContainsHashLooks : Type 0
ContainsHashLooks = (st ws : List ℕ) (r fp : ℕ) → LooksInAll st ws r fp
