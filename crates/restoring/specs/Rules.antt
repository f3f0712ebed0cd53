-- The model's rules of a restore, as the functions of this crate name them.
use Rattle.std.specs.Prelude.{ℕ, ◌≡◌, Bool, true, false, cond, List, Option, Result, Ok, Err}
use Rattle.model.specs.declared.Class.{Class}
use Rattle.model.specs.declared.Deliverer.TheVariants.{Restored}
use Rattle.model.specs.declared.Room.{Room}
use Rattle.model.specs.declared.Room.TheVariants.{At, Collides, Full as NoSlots}
use Rattle.model.specs.declared.Settings.{Settings}
use Rattle.model.specs.declared.Shares.{Shares}
use Rattle.model.specs.declared.Usable.{Usable}
use Rattle.model.specs.Settings.{usable_at}
use Rattle.model.specs.Class.{pick}
use Rattle.model.specs.Generation.{as_read}
use Rattle.model.specs.Book.{Book, second_of, granted, draw_says, drawn}
use Rattle.model.specs.Register.{Register, strike}
use Rattle.model.specs.Judge.{make_room}
use Rattle.model.specs.Dump.{Dumped, Holding, Restoring, hold_one, hold_all, settled, restore_class, Dump, restore, resume}
use Rattle.model.specs.Words.{State}
use Rattle.model.specs.Calls.{register_at}
use Rattle.restoring.specs.declared.heads.Head.{Head}
use Rattle.restoring.specs.Words.{Acts}

-- a generation's head names the second in which its shares end
pub record Suits (s : Settings) (r : ℕ) (h : Head) : Type 0 where
  pub second : h.second.0 ≡ second_of h.bucket.0 (usable_at s r).bucket

abbrev pub headed : Head → List ℕ → Dumped
headed h ps = record { bucket = h.bucket.0; newest = h.newest; prints = ps }

-- ---- a fingerprint in a register
abbrev pub room_in : Usable → Head → ℕ → Register → Room
room_in u h fp reg = make_room u.slots h.bucket.0 (as_read fp) (pick h.class reg.rings)

unfoldable pub fits_in : Room → Bool
fits_in (At i) = true
fits_in Collides = false
fits_in NoSlots = false

unfoldable pub held_at : Head → ℕ → Register → Room → Register
held_at h fp reg (At i) = strike h.class h.bucket.0 (as_read fp) h.newest reg
held_at h fp reg Collides = reg
held_at h fp reg NoSlots = reg

abbrev pub held_in : Usable → Head → ℕ → Register → Register
held_in u h fp reg = held_at h fp reg (room_in u h fp reg)

-- ---- its share
abbrev pub may_draw : Shares → Head → Book → Bool
may_draw b h k = granted (draw_says b (Restored h.class) h.second.0 k)

abbrev pub drawn_if : Shares → Head → Book → Book
drawn_if b h k = cond (may_draw b h k) (drawn b (Restored h.class) h.second.0 k) k

-- ---- fingerprints, counted
abbrev pub holding : ℕ → Register → Book → Holding
holding n reg k = record { register = reg; book = k; draws = n; fits = true }

-- the draws made, as an error where one did not fit
abbrev pub tally_of : Holding → Result ℕ ℕ
tally_of h = cond h.fits (Ok h.draws) (Err h.draws)

abbrev pub draws_in : Result ℕ ℕ → ℕ
draws_in (Ok n) = n
draws_in (Err n) = n

abbrev pub HoldActs : Settings → ℕ → (Register → Book → Holding) → List ℕ → List ℕ → Result ℕ ℕ → Type 0
HoldActs s r go before after v = Acts s r (λ reg k. (go reg k).register) (λ reg k. (go reg k).book) (λ reg k. tally_of (go reg k)) before after v

abbrev pub one_held : Settings → ℕ → Head → List ℕ → ℕ → ℕ → Register → Book → Holding
one_held s r h ps fp n reg k = hold_one (usable_at s r) s.shares h.class (headed h ps) fp (holding n reg k)

abbrev pub all_held : Settings → ℕ → Head → List ℕ → Register → Book → Holding
all_held s r h ps reg k = hold_all (usable_at s r) s.shares h.class (headed h ps) ps (holding 0 reg k)

-- ---- generations
abbrev pub restoring : Bool → Register → Book → Restoring
restoring whole reg k = record { register = reg; book = k; whole = whole }

abbrev pub RestoreActs : Settings → ℕ → (Register → Book → Restoring) → List ℕ → List ℕ → Bool → Type 0
RestoreActs s r go before after v = Acts s r (λ reg k. (go reg k).register) (λ reg k. (go reg k).book) (λ reg k. (go reg k).whole) before after v

abbrev pub generation_restored : Settings → ℕ → Head → List ℕ → Register → Book → Restoring
generation_restored s r h ps reg k = settled (usable_at s r) h.class (headed h ps) true (all_held s r h ps reg k)

abbrev pub one_restored : Settings → ℕ → Class → Dumped → Register → Book → Restoring
one_restored s r c d reg k = settled (usable_at s r) c d true (hold_all (usable_at s r) s.shares c d d.prints (holding 0 reg k))

abbrev pub class_restored : Settings → ℕ → Class → List Dumped → Bool → Register → Book → Restoring
class_restored s r c ds whole reg k = restore_class (usable_at s r) s.shares c ds (restoring whole reg k)

-- ---- a dump
abbrev pub dump_restored : Settings → ℕ → Dump → Register → Book → Restoring
dump_restored s r d reg k = restore (usable_at s r) s.shares d reg k

abbrev pub restored_whole : Settings → ℕ → Dump → State → Bool
restored_whole s r d t = (restore (usable_at s r) s.shares d (register_at r t) t.book).whole

abbrev pub resumed_whole : Settings → ℕ → Dump → Option ℕ → State → Bool
resumed_whole s r d p t = (resume (usable_at s r) s.shares d p (register_at r t) t.book).whole

-- one fingerprint, whatever others its generation has
pub record AllOnes (s : Settings) (r : ℕ) (h : Head) (fp n : ℕ) (before after : List ℕ) (v : Result ℕ ℕ) : Type 0 where
  pub acts : (ps : List ℕ) → HoldActs s r (one_held s r h ps fp n) before after v
