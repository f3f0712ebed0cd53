-- Restoring what is held already. The customer's sentences (request Q-2):
--
-- "Sites that restore the same dump after each maintenance stop see slots double with nothing added. Let a generation grow, and let it
-- be refused for lack of slots, only when the fingerprint is not held. Position finding, insertion and restore all learn this."
--
-- A dumped generation whose fingerprints are all held in its bucket moves no slot of any ring. Each of them asks for a share, and for
-- nothing else. A whole dump of which all is held moves no slot either, if it comes out Whole. A register's own dump, restored onto
-- it, then leaves all of the register as it is.
use Rattle.std.specs.Prelude.{ℕ, ◌≡◌, Bool, true, ◌&&◌, List, [], ◌∷◌, ◌++◌, map}
use Rattle.model.specs.declared.Class.{Class}
use Rattle.model.specs.declared.Deliverer.TheVariants.{Restored}
use Rattle.model.specs.Answer.{Whole}
use Rattle.model.specs.declared.Usable.{Usable}
use Rattle.model.specs.declared.Shares.{Shares}
use Rattle.model.specs.Class.{Each, pick, each}
use Rattle.model.specs.Generation.{Generation, as_read}
use Rattle.model.specs.Book.{Book, second_of, granted, draw_says}
use Rattle.model.specs.Register.{Ring, Register, holds}
use Rattle.model.specs.Dump.{Dumped, Dump, Holding, hold_one, hold_all, restore}
use Rattle.model.specs.RegisterWords.{register_form}
use Rattle.model.specs.Calls.{On, Restore, register_at, reply, after}
use Rattle.model.specs.View.{holding}
use Rattle.model.specs.BringsBack.{ADump, bytes_of, dumped}

-- the slots of every generation of every ring
abbrev pub slots_in : Register → Each (List (List ℕ))
slots_in reg = each (map (λ (g : Generation). g.slots)) reg.rings

-- ---- one generation of a dump
-- each of these fingerprints, as read, is held in this bucket of a ring
unfoldable pub all_held : ℕ → List ℕ → Ring → Bool
all_held b [] ring = true
all_held b (fp ∷ fps) ring = holds b (as_read fp) ring && all_held b fps ring

-- all its fingerprints are held: no slot of any ring moves, whichever draws are granted
abbrev pub SameDumpAgain : Type 0
SameDumpAgain =
    (u : Usable) (b : Shares) (c : Class) (d : Dumped) (h : Holding) → (register_form u).Ok h.register
    → all_held d.bucket d.prints (pick c h.register.rings) ≡ true
    → slots_in (hold_all u b c d d.prints h).register ≡ slots_in h.register

-- and each of them can fail by its draw alone, not by its slots or its position
abbrev pub HeldAsksAShare : Type 0
HeldAsksAShare =
    (u : Usable) (b : Shares) (c : Class) (d : Dumped) (fp : ℕ) (h : Holding) → (register_form u).Ok h.register → h.fits ≡ true
    → holds d.bucket (as_read fp) (pick c h.register.rings) ≡ true
    → (hold_one u b c d fp h).fits ≡ granted (draw_says b (Restored c) (second_of d.bucket u.bucket) h.book)

-- ---- a whole dump
-- all that these generations list is held in a ring, each in its bucket
unfoldable pub each_held : List Dumped → Ring → Bool
each_held [] ring = true
each_held (d ∷ ds) ring = all_held d.bucket d.prints ring && each_held ds ring

-- "restore the same dump after each maintenance stop": the register holds all that the dump lists, class by class, and perhaps more
abbrev pub WholeDumpAgain : Type 0
WholeDumpAgain =
    (u : Usable) (b : Shares) (d : Dump) (reg : Register) (k : Book) → (register_form u).Ok reg
    → ((c : Class) → each_held (pick c d.classes) (pick c reg.rings) ≡ true)
    → (restore u b d reg k).whole ≡ true → slots_in (restore u b d reg k).register ≡ slots_in reg

-- ---- on words: what a dump call wrote, restored onto the words that it was made of. If it comes out Whole, the register is what it
-- was: every slot of every ring, with its buckets, stamps and floor
abbrev pub OwnDumpLeaves : Type 0
OwnDumpLeaves =
    (d : ADump) (more : List ℕ) (n : ℕ) → reply d.settings d.words (On d.register (Restore (bytes_of d ++ more))) ≡ Whole n
    → register_at d.register (holding (after d.settings d.words (On d.register (Restore (bytes_of d ++ more))))) ≡ dumped d
