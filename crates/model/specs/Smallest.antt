-- Request Q-13, what `stamp_for` answers. The customer's sentences:
--
-- "the smallest 64-bit stamp for which `take_batch` would answer the wanted verdict, or none"
--
-- "none only if no 64-bit stamp does"
--
-- Of any words, settings and register, and any 64-bit reading: `take_batch` is asked on the same words, with the same arguments and the
-- stamp. That `stamp_for` alters nothing: specs/ReadersLeave.
use Rattle.std.specs.Prelude.{ℕ, ◌+◌, ◌*◌, ◌≤◌, ◌<◌, ◌≡◌, true, false, List, length}
use Rattle.model.specs.declared.Manner.TheVariants.{TakenBatch}
use Rattle.model.specs.Answer.{Answer}
use Rattle.model.specs.Answer.{Refused, Said, NoStamp, StampAt}
use Rattle.model.specs.Numbers.{top64}
use Rattle.model.specs.Settings.{settings_of, usable_at, ring_of}
use Rattle.model.specs.Codes.{verdict_fits, verdict_of}
use Rattle.model.specs.Register.{sweep}
use Rattle.model.specs.Stamp.{stamps}
use Rattle.model.specs.Calls.{Seeking, asking_at, Ticket, StampFor, Call, On, ask_of, register_at, held_in, refused, reply}

abbrev pub seek_call : ℕ → Seeking → Call
seek_call r q = On r (StampFor q)

abbrev pub take_call : ℕ → Seeking → ℕ → Call
take_call r q x = On r (Ticket TakenBatch (asking_at x q))

-- `take_batch` would answer the wanted verdict
abbrev pub Gives : List ℕ → List ℕ → ℕ → Seeking → ℕ → Type 0
Gives st ws r q x = reply st ws (take_call r q x) ≡ Said (verdict_of q.wanted)

-- the stamps that are tried
abbrev pub tried : List ℕ → List ℕ → ℕ → Seeking → List ℕ
tried st ws r q =
    let u = usable_at (settings_of st) r in stamps u (sweep u q.ms (register_at r (held_in (settings_of st) ws))) (ask_of (asking_at 0 q))

pub data Told : Answer → Type 0 where
  refused_with : (n : ℕ) → Told (Refused n)
  nowhere : Told NoStamp
  at : (x : ℕ) → Told (StampAt x)

pub record SmallestOf (st ws : List ℕ) (r : ℕ) (q : Seeking) : Type 0 where
  -- a stamp, or none, or a refusal
  pub told : Told (reply st ws (seek_call r q))
  -- a stamp: it has 64 bits, it gives the verdict, and no smaller one does
  pub fits : (x : ℕ) → reply st ws (seek_call r q) ≡ StampAt x → x ≤ top64
  pub gives : (x : ℕ) → reply st ws (seek_call r q) ≡ StampAt x → Gives st ws r q x
  pub smallest : (x : ℕ) → reply st ws (seek_call r q) ≡ StampAt x → (y : ℕ) → y < x → Gives st ws r q y → ⊥
  -- none: no stamp of 64 bits gives it
  pub none : reply st ws (seek_call r q) ≡ NoStamp → (y : ℕ) → y ≤ top64 → Gives st ws r q y → ⊥
  -- refusals are those of `take_batch`, with 1 for a verdict's number that is not listed
  pub unlisted : verdict_fits q.wanted ≡ false → reply st ws (seek_call r q) ≡ Refused 1
  pub listed : verdict_fits q.wanted ≡ true → (x : ℕ) → refused st ws (seek_call r q) ≡ refused st ws (take_call r q x)
  -- few stamps are tried
  pub few : refused st ws (seek_call r q) ≡ 0 → length (tried st ws r q) ≤ 7 * ring_of (usable_at (settings_of st) r) + 4

abbrev pub Smallest : Type 0
Smallest = (st ws : List ℕ) (r : ℕ) (q : Seeking) → q.ms ≤ top64 → SmallestOf st ws r q
