-- "Misreadings to exclude", each as what holds instead; proofs/Misreadings has the proofs.
use Rattle.std.specs.Prelude.{ℕ, ◌<◌, ◌≤◌, ◌≡◌, true, Option, Some, List, [], ◌∷◌, length}
use Rattle.model.specs.declared.Class.{Class}
use Rattle.model.specs.declared.Settings.{Settings}
use Rattle.model.specs.declared.Usable.{Usable}
use Rattle.model.specs.declared.Verdict.TheVariants.{Duplicate}
use Rattle.model.specs.Generation.{as_read}
use Rattle.model.specs.Book.{places_of}
use Rattle.model.specs.Register.{Register, any_class, holds, sweep}
use Rattle.model.specs.Judge.{Ask, bucket_of, verdict}
use Rattle.model.specs.Dump.{dump_words, dump_bytes}
use Rattle.model.specs.Words.{State}
use Rattle.model.specs.Calls.{On, Expire, Restore, step, register_at}
use Rattle.model.specs.Worked.{before, last, open_ample, take_it}

-- "Floor before Duplicate: a held ticket is Duplicate", whatever the floor and the window say
abbrev pub HeldIsDuplicate : Type 0
HeldIsDuplicate =
    (u : Usable) (reg : Register) (a : Ask)
    → any_class (holds (bucket_of u a.stamp) (as_read a.fp)) reg.rings ≡ true → verdict u reg a ≡ Duplicate

-- "A clock step back undoing the floor": a sweep at any reading leaves a floor that is no lower
pub record NoLower (old : ℕ) (floor : Option ℕ) : Type 0 where
  pub level : ℕ
  pub there : floor ≡ Some level
  pub no_lower : old ≤ level

abbrev pub FloorStands : Type 0
FloorStands = (u : Usable) (ms : ℕ) (reg : Register) (f : ℕ) → reg.floor ≡ Some f → NoLower f (sweep u ms reg).floor

-- "Dump, restore, dump giving equal bytes: slot order may differ": 3 and 7 are taken in this order, and dumped as 7, 3
unfoldable pub dumped_first : List ℕ
dumped_first = dump_words (register_at 0 (last before (open_ample ∷ take_it 3 100_000 ∷ take_it 7 100_000 ∷ [])))

-- the dump, restored into a register that is newly opened, is dumped again
unfoldable pub dumped_again : List ℕ
dumped_again =
    let bytes = dump_bytes (register_at 0 (last before (open_ample ∷ take_it 3 100_000 ∷ take_it 7 100_000 ∷ []))) in
    dump_words (register_at 0 (last before (open_ample ∷ On 0 (Restore bytes) ∷ [])))

pub record SlotOrderMayDiffer : Type 0 where
  pub first : dumped_first ≡ 0 ∷ 1 ∷ 120 ∷ 100_000 ∷ 2 ∷ 7 ∷ 3 ∷ 0 ∷ 0 ∷ []
  pub again : dumped_again ≡ 0 ∷ 1 ∷ 120 ∷ 100_000 ∷ 2 ∷ 3 ∷ 7 ∷ 0 ∷ 0 ∷ []

-- "Freeing shares by the reading alone": while one register is not swept, expire at any reading frees no entry
abbrev pub UnsweptKeeps : Type 0
UnsweptKeeps =
    (s : Settings) (t : State) (r : ℕ) → r < length t.registers → (register_at r t).swept ≡ 0
    → (ms : ℕ) (c : Class) → places_of c (step s (Expire ms) t).state.book ≡ places_of c t.book
