-- "Judge and take", second paragraph: a generation's slots, probing, growth and insertion. A slot of 0 is empty.
use Rattle.std.specs.Prelude.{ℕ, zero, suc, ◌+◌, ◌*◌, ◌%◌, max, min, Bool, true, false, cond, ◌||◌, List, [], ◌∷◌, leb, eqb, length, get_or, set, replicate}
use Rattle.model.specs.declared.Probe.{Probe}
use Rattle.model.specs.declared.Probe.TheVariants.{Held, Free, Nowhere}

-- The fingerprints of one bucket. As many slots as it has are listed; what it holds is counted from them. Of the stamps that were
-- inserted it has the oldest and the newest, both 0 where it holds nothing.
pub record Generation : Type 0 where
  pub bucket : ℕ
  pub oldest : ℕ
  pub newest : ℕ
  pub slots : List ℕ

abbrev pub empty : Generation
empty = record { bucket = 0; oldest = 0; newest = 0; slots = [] }

-- ---- what slots hold
unfoldable pub count : List ℕ → ℕ
count [] = 0
count (x ∷ xs) = cond (eqb x 0) 0 1 + count xs

abbrev pub held : Generation → ℕ
held g = count g.slots

unfoldable pub among : ℕ → List ℕ → Bool
among fp [] = false
among fp (x ∷ xs) = eqb fp x || among fp xs

-- "fingerprint (64-bit word, 0 read as 1)"
unfoldable pub as_read : ℕ → ℕ
as_read fp = max fp 1

-- ---- "Probing starts at fingerprint mod slots and goes up, round the end."
abbrev pub next : ℕ → ℕ → ℕ
next n i = cond (eqb (i + 1) n) 0 (i + 1)

-- from slot i on, within so many steps
unfoldable pub probe_from : List ℕ → ℕ → ℕ → ℕ → Probe
probe_from s fp zero i = Nowhere
probe_from s fp (suc steps) i =
    cond (eqb (get_or s i 0) fp) (Held i) (cond (eqb (get_or s i 0) 0) (Free i) (probe_from s fp steps (next (length s) i)))

unfoldable pub probe : List ℕ → ℕ → Probe
probe s fp = probe_from s fp (length s) (fp % length s)

abbrev pub put_at : Probe → List ℕ → ℕ → List ℕ
put_at (Held i) s fp = s
put_at (Free i) s fp = set s i fp
put_at Nowhere s fp = s

unfoldable pub put : List ℕ → ℕ → List ℕ
put s fp = put_at (probe s fp) s fp

-- ---- "Slots double from their present number, at least 1, while 4 × (held + 1) > 3 × slots"
abbrev pub LEAST : ℕ
LEAST = 1

-- n fingerprints are at most three quarters of the slots after 4 × n doublings, or sooner
unfoldable pub doubled : ℕ → ℕ → ℕ → ℕ
doubled zero n slots = slots
doubled (suc steps) n slots = let more = doubled steps n (2 * slots) in cond (leb (4 * n) (3 * slots)) slots more

-- "Let a generation grow .. only when the fingerprint is not held" (request Q-2): the slots that there are once a fingerprint is
-- inserted. `true` says that it is held already, and then there are as many as before
unfoldable pub slots_for : Bool → List ℕ → ℕ
slots_for true s = length s
slots_for false s = doubled (4 * suc (count s)) (suc (count s)) (max (length s) LEAST)

-- ---- "Growth re-inserts in old slot order."
unfoldable pub refill : List ℕ → List ℕ → List ℕ
refill [] s = s
refill (x ∷ xs) s = refill xs (cond (eqb x 0) s (put s x))

unfoldable pub grown : ℕ → List ℕ → List ℕ
grown wanted s = cond (eqb wanted (length s)) s (refill s (replicate wanted 0))

-- ---- "every generation must now remember its oldest inserted stamp" (request Q-1): the first one's, and then the smaller of itself
-- and the stamp. A stamp of 0 is a stamp: the first insertion is told by nothing being held.
abbrev pub oldest_with : ℕ → Generation → ℕ
oldest_with stamp g = cond (eqb (held g) 0) stamp (min g.oldest stamp)

-- ---- "else it inserts, and newest becomes the larger of itself and the stamp"
unfoldable pub insert : ℕ → ℕ → ℕ → Generation → Generation
insert bucket fp stamp g = record {
  bucket = bucket;
  oldest = oldest_with stamp g;
  newest = max g.newest stamp;
  slots = put (grown (slots_for (among fp g.slots) g.slots) g.slots) fp;
}

-- dropped: it holds nothing, and its bucket word stays
unfoldable pub dropped : Generation → Generation
dropped g = record { bucket = g.bucket; oldest = 0; newest = 0; slots = [] }

-- the rules of this file, for a theorem that computes
unfoldable pub compute_generation : ℕ
unfolding count among as_read probe_from probe put doubled slots_for refill grown insert dropped
compute_generation = 0
