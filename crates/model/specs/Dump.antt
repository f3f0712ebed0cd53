-- "Dump": a register's floor and generations as bytes, restore and resume.
use Rattle.std.specs.Prelude.{ℕ, zero, suc, ◌+◌, ◌-◌, ◌*◌, ◌/◌, ◌%◌, max, Bool, true, false, cond, not, Option, Some, None, List, [], ◌∷◌, ◌++◌, leb, eqb, length, take, drop, if◌then◌else◌}
use Rattle.model.specs.declared.Class.{Class}
use Rattle.model.specs.declared.Class.TheVariants.{Feeders, Peers, Own}
use Rattle.model.specs.declared.Deliverer.{Deliverer}
use Rattle.model.specs.declared.Deliverer.TheVariants.{Restored}
use Rattle.model.specs.declared.Room.{Room}
use Rattle.model.specs.declared.Room.TheVariants.{At, Collides, Full as NoSlots}
use Rattle.model.specs.declared.Usable.{Usable}
use Rattle.model.specs.declared.Shares.{Shares}
use Rattle.runs.specs.Chunks.{flat}
use Rattle.model.specs.Numbers.{cap64, raise}
use Rattle.model.specs.Class.{Each, pick}
use Rattle.model.specs.Generation.{Generation, held, as_read, dropped}
use Rattle.model.specs.Book.{Book, second_of, granted, draw_says, drawn, undrawn}
use Rattle.model.specs.Register.{Ring, Register, with_floor, raised, in_ring, generation_at, with_generation, strike}
use Rattle.model.specs.Judge.{make_room}

-- ---- "Little-endian 64-bit words": a number and its bytes
-- the sum of the bytes, each times its power of 256
unfoldable pub number_of : List ℕ → ℕ
number_of [] = 0
number_of (b ∷ bs) = b + 256 * number_of bs

unfoldable pub bytes_of : ℕ → ℕ → List ℕ
bytes_of zero n = []
bytes_of (suc k) n = n % 256 ∷ bytes_of k (n / 256)

abbrev pub word_bytes : ℕ → List ℕ
word_bytes n = bytes_of 8 n

-- the words that so many bytes have, what is left over passed over
unfoldable pub words_in : ℕ → List ℕ → List ℕ
words_in zero bs = []
words_in (suc n) bs = number_of (take 8 bs) ∷ words_in n (drop 8 bs)

abbrev pub words_of : List ℕ → List ℕ
words_of bs = words_in (length bs / 8) bs

-- ---- writing
-- "floor (0 none, else floor + 1, capped)"
unfoldable pub dumped_floor : Option ℕ → ℕ
dumped_floor None = 0
dumped_floor (Some f) = cap64 (suc f)

-- "fingerprints by slot"
unfoldable pub fingerprints : List ℕ → List ℕ
fingerprints [] = []
fingerprints (x ∷ xs) = cond (eqb x 0) (fingerprints xs) (x ∷ fingerprints xs)

-- "held generations by position": those of a class in dump sequence. A register's view reads this list too
unfoldable pub held_list : Ring → List Generation
held_list [] = []
held_list (g ∷ gs) = cond (eqb (held g) 0) (held_list gs) (g ∷ held_list gs)

-- "bucket, newest, length, fingerprints by slot"
abbrev pub generation_words : Generation → List ℕ
generation_words g = g.bucket ∷ g.newest ∷ held g ∷ fingerprints g.slots

-- "per class a count, then .."
unfoldable pub class_words : Ring → List ℕ
class_words r = length (held_list r) ∷ flat generation_words (held_list r)

unfoldable pub dump_words : Register → List ℕ
dump_words reg =
    dumped_floor reg.floor ∷ class_words reg.rings.of_feeders ++ (class_words reg.rings.of_peers ++ class_words reg.rings.of_own)

unfoldable pub dump_bytes : Register → List ℕ
dump_bytes reg = flat word_bytes (dump_words reg)

-- ---- reading: "Restore first reads the lengths (7 before any change), ignores trailing bytes"
pub record Dumped : Type 0 where
  pub bucket : ℕ
  pub newest : ℕ
  pub prints : List ℕ

pub record Dump : Type 0 where
  pub floor : ℕ
  pub classes : Each (List Dumped)
  -- how many words it has
  pub words : ℕ

-- one of a list: a generation of those that a class lists, a fingerprint of those that a generation lists
pub data OneOf {A : Type 0} (x : A) : List A → Type 0 where
  first : {xs : List A} → OneOf x (x ∷ xs)
  further : {y : A} {xs : List A} → OneOf x xs → OneOf x (y ∷ xs)

-- what was found, and the words that are left
pub record Cut : Type 0 where
  pub found : List Dumped
  pub rest : List ℕ

unfoldable pub found_first : Dumped → Option Cut → Option Cut
found_first d None = None
found_first d (Some c) = Some (record { found = d ∷ c.found; rest = c.rest })

-- n generations; none where the words are cut short. Each has three words at least, so the words bound how many there are
unfoldable pub read_generations : ℕ → ℕ → List ℕ → Option Cut
read_generations zero n ws = cond (eqb n 0) (Some (record { found = []; rest = ws })) None
read_generations (suc most) n [] = cond (eqb n 0) (Some (record { found = []; rest = [] })) None
read_generations (suc most) n (b ∷ []) = cond (eqb n 0) (Some (record { found = []; rest = b ∷ [] })) None
read_generations (suc most) n (b ∷ t ∷ []) = cond (eqb n 0) (Some (record { found = []; rest = b ∷ t ∷ [] })) None
read_generations (suc most) n (b ∷ t ∷ l ∷ ws) =
    let more = found_first (record { bucket = b; newest = t; prints = take l ws }) (read_generations most (n - 1) (drop l ws)) in
    cond (eqb n 0) (Some (record { found = []; rest = b ∷ t ∷ l ∷ ws })) (cond (leb l (length ws)) more None)

unfoldable pub read_class : List ℕ → Option Cut
read_class [] = None
read_class (n ∷ ws) = read_generations (length ws) n ws

unfoldable pub read_own : ℕ → ℕ → List Dumped → List Dumped → Option Cut → Option Dump
read_own f all a b None = None
read_own f all a b (Some c) =
    Some (record { floor = f; classes = record { of_feeders = a; of_peers = b; of_own = c.found }; words = all - length c.rest })

unfoldable pub read_peers : ℕ → ℕ → List Dumped → Option Cut → Option Dump
read_peers f all a None = None
read_peers f all a (Some c) = read_own f all a c.found (read_class c.rest)

unfoldable pub read_feeders : ℕ → ℕ → Option Cut → Option Dump
read_feeders f all None = None
read_feeders f all (Some c) = read_peers f all c.found (read_class c.rest)

unfoldable pub read_words : List ℕ → Option Dump
read_words [] = None
read_words (f ∷ ws) = read_feeders f (suc (length ws)) (read_class ws)

-- none: a dump cut short
unfoldable pub read_dump : List ℕ → Option Dump
read_dump bs = read_words (words_of bs)

-- ---- restoring one generation: what stands after some of its fingerprints
pub record Holding : Type 0 where
  pub register : Register
  pub book : Book
  -- draws made for this generation
  pub draws : ℕ
  pub fits : Bool

-- "then inserts each fingerprint under newest (a larger newest already there stays), drawing as Restored"
unfoldable pub hold_room : Class → Dumped → ℕ → Holding → Book → Room → Holding
hold_room c d fp h book (At i) =
    record { register = strike c d.bucket (as_read fp) d.newest h.register; book = book; draws = suc h.draws; fits = true }
hold_room c d fp h book Collides = record { register = h.register; book = book; draws = suc h.draws; fits = false }
hold_room c d fp h book NoSlots = record { register = h.register; book = book; draws = suc h.draws; fits = false }

unfoldable pub hold_one : Usable → Shares → Class → Dumped → ℕ → Holding → Holding
hold_one u b c d fp h =
    let s = second_of d.bucket u.bucket in
    let room = make_room u.slots d.bucket (as_read fp) (pick c h.register.rings) in
    if not h.fits then h
    else if granted (draw_says b (Restored c) s h.book) then hold_room c d fp h (drawn b (Restored c) s h.book) room
    else record { register = h.register; book = h.book; draws = h.draws; fits = false }

unfoldable pub hold_all : Usable → Shares → Class → Dumped → List ℕ → Holding → Holding
hold_all u b c d [] h = h
hold_all u b c d (fp ∷ fps) h = hold_all u b c d fps (hold_one u b c d fp h)

unfoldable pub undrawn_all : ℕ → Deliverer → ℕ → Book → Book
undrawn_all zero who s book = book
undrawn_all (suc n) who s book = undrawn_all n who s (undrawn who s book)

-- ---- a generation that failed
-- "the generation at its position is dropped if of that bucket"
unfoldable pub drop_bucket : ℕ → Ring → Ring
drop_bucket b ring =
    let g = generation_at ring b in
    if eqb g.bucket b then with_generation ring b (dropped g) else ring

-- the newest stamp of what `drop_bucket` drops: 0 where the position has another bucket's generation, or holds nothing
unfoldable pub dropped_newest : ℕ → Ring → ℕ
dropped_newest b ring =
    let g = generation_at ring b in
    if eqb g.bucket b then g.newest else 0

-- "The floor shall now rise to the larger of the dump's newest and the dropped generation's newest" (request Q-3), which is the newest
-- that this generation has when it is dropped: what the dump brought before the failure counts
unfoldable pub failed : Class → Dumped → Register → Register
failed c d reg =
    let went = dropped_newest d.bucket (pick c reg.rings) in
    raised (max d.newest went) (in_ring c (drop_bucket d.bucket) reg)

-- ---- restoring all
pub record Restoring : Type 0 where
  pub register : Register
  pub book : Book
  pub whole : Bool

-- "At a generation's first failure its draws are given back .. and the rest goes on."
unfoldable pub settled : Usable → Class → Dumped → Bool → Holding → Restoring
settled u c d whole h =
    if h.fits then record { register = h.register; book = h.book; whole = whole }
    else record {
      register = failed c d h.register;
      book = undrawn_all h.draws (Restored c) (second_of d.bucket u.bucket) h.book;
      whole = false;
    }

-- a generation's restore begins: nothing drawn for it, and nothing failed; and all its fingerprints are tried
abbrev pub begun : Restoring → Holding
begun r = record { register = r.register; book = r.book; draws = 0; fits = true }

abbrev pub tried : Usable → Shares → Class → Dumped → Restoring → Holding
tried u b c d r = hold_all u b c d d.prints (begun r)

unfoldable pub restore_class : Usable → Shares → Class → List Dumped → Restoring → Restoring
restore_class u b c [] r = r
restore_class u b c (d ∷ ds) r = restore_class u b c ds (settled u c d r.whole (tried u b c d r))

-- "It raises the floor": 0 none, else the floor and 1
unfoldable pub raised_to_dumped : ℕ → Register → Register
raised_to_dumped n reg = with_floor (cond (eqb n 0) reg.floor (raise reg.floor (n - 1))) reg

unfoldable pub restore : Usable → Shares → Dump → Register → Book → Restoring
restore u b d reg book =
    restore_class u b Own d.classes.of_own
    (restore_class u b Peers d.classes.of_peers
    (restore_class u b Feeders d.classes.of_feeders (record { register = raised_to_dumped d.floor reg; book = book; whole = true })))

-- "`resume` forgets the floor first, raises it to a proven one after"
unfoldable pub raised_to_proven : Option ℕ → Register → Register
raised_to_proven None reg = reg
raised_to_proven (Some p) reg = raised p reg

unfoldable pub resume : Usable → Shares → Dump → Option ℕ → Register → Book → Restoring
resume u b d proven reg book =
    let r = restore u b d (with_floor None reg) book in
    record { register = raised_to_proven proven r.register; book = r.book; whole = r.whole }

-- the rules of this file, for a theorem that computes
unfoldable pub compute_dump : ℕ
unfolding flat number_of bytes_of words_in dumped_floor fingerprints held_list class_words dump_words dump_bytes found_first read_generations read_class read_own read_peers read_feeders read_words read_dump hold_room hold_one hold_all undrawn_all drop_bucket dropped_newest failed settled restore_class raised_to_dumped restore raised_to_proven resume
compute_dump = 0
