-- The last sentence of demand 2, as one theorem on words and bytes:
--
-- "a dump restored into a newly opened register brings back what it held."
--
-- A dump call on a register told how many bytes it wrote. An opening went through on any words, the same or others: it starts a register
-- Empty, with the settings of the register that was dumped. After it came any calls that do not touch that register, refused or not, under
-- any settings. The book has enough room as it then is. Then a restore of what the dump wrote, with any bytes after it, answers Whole
-- with the dump's length, and the register holds what the dumped one held: for each class the same fingerprints, buckets and newest
-- stamps, and the floor unless that is 2^64 − 1. Nothing is to be supplied but words, bytes, settings and calls.
use Rattle.std.specs.Prelude.{ℕ, ◌*◌, ◌<◌, ◌≡◌, true, Some, List, ◌++◌, length, get_or}
use Rattle.model.specs.Answer.{Dumped, Whole}
use Rattle.model.specs.declared.Usable.{Usable}
use Rattle.model.specs.Settings.{settings_of, usable_at}
use Rattle.model.specs.Register.{Register}
use Rattle.model.specs.Calls.{Open, On, DumpTo, Restore, register_at, reply, after}
use Rattle.model.specs.View.{kept_settings, view, holding, Given, words_after}
use Rattle.model.specs.Codes.{went_through}
use Rattle.model.specs.RoundTrip.{EnoughRoom, BroughtBack, Words64, written, none_touches}

-- ---- "a dump": of any words, under any settings, into any output; the call told so many bytes
pub record ADump : Type 0 where
  pub settings : List ℕ
  pub words : List ℕ
  pub register : ℕ
  pub output : List ℕ
  pub told : ℕ
  pub small : Words64 words
  pub said : reply settings words (On register (DumpTo output)) ≡ Dumped told

-- the bytes that it wrote
abbrev pub bytes_of : ADump → List ℕ
bytes_of d = written d.settings d.words d.register d.output d.told

-- the register that was dumped, as it was, and its settings
abbrev pub dumped : ADump → Register
dumped d = register_at d.register (holding d.words)

abbrev pub its_settings : ADump → Usable
its_settings d = usable_at (settings_of d.settings) d.register

-- ---- "a newly opened register": an opening of any words that went through, and a register that it starts Empty (0), with these settings
pub record NewlyOpened (u : Usable) : Type 0 where
  pub settings : List ℕ
  pub words : List ℕ
  pub limits : List ℕ
  pub starts : List ℕ
  pub register : ℕ
  pub through : went_through (reply settings words (Open limits starts)) ≡ true
  pub there : register < (settings_of settings).registers
  pub empty : get_or starts (2 * register) 0 ≡ 0
  pub same : usable_at (settings_of settings) register ≡ u

-- the words after the opening and some calls
abbrev pub words_then : {u : Usable} → NewlyOpened u → List Given → List ℕ
words_then o calls = words_after (after o.settings o.words (Open o.limits o.starts)) calls

-- "Enough room" for the dump, in the book that these words hold
abbrev pub RoomIn : ADump → List ℕ → Type 0
RoomIn d now = EnoughRoom (its_settings d) (kept_settings now).shares (holding now).book (dumped d).rings

-- ---- "brings back what it held": the restore of the dump, with more bytes after it, into register q of these words
pub record BringsBack (d : ADump) (st now : List ℕ) (q : ℕ) (more : List ℕ) : Type 0 where
  pub long : length (bytes_of d) ≡ d.told
  pub answer : reply st now (On q (Restore (bytes_of d ++ more))) ≡ Whole d.told
  -- the words were sound when the register was dumped, and those that are left are sound
  pub then_sound : view d.words ≡ Some (holding d.words)
  pub now_sound : view (after st now (On q (Restore (bytes_of d ++ more)))) ≡ Some (holding (after st now (On q (Restore (bytes_of d ++ more)))))
  pub brought : BroughtBack (dumped d) (register_at q (holding (after st now (On q (Restore (bytes_of d ++ more))))))

abbrev pub DumpBringsBack : Type 0
DumpBringsBack =
    (d : ADump) (o : NewlyOpened (its_settings d)) (calls : List Given) → none_touches o.register calls ≡ true → RoomIn d (words_then o calls)
    → (more : List ℕ) → BringsBack d o.settings (words_then o calls) o.register more
