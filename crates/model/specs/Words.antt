-- "Settings and soundness": one run of words holds a share book and R registers.
-- Words: 20 of the front (R, P, E and the two units as kept, the five limits, the closed flag, 9 spare words), the book's three classes,
-- the R registers, and 24 unused words for each register that there is not.
use Rattle.std.specs.Prelude.{ℕ, zero, suc, ◌+◌, ◌-◌, ◌*◌, ◌≡◌, Bool, true, ◌&&◌, List, ◌∷◌, length, get_or, drop, eqb, leb}
use Rattle.model.specs.declared.Class.{Class}
use Rattle.model.specs.declared.Usable.{Usable}
use Rattle.model.specs.declared.Shares.{Shares}
use Rattle.model.specs.declared.Limits.{Limits}
use Rattle.model.specs.declared.Settings.{Settings}
use Rattle.runs.specs.Form.{Form}
use Rattle.runs.specs.Combine.{Both, both, row, free, seen_as}
use Rattle.model.specs.Widths.{generation_width, class_head, place_width}
use Rattle.model.specs.Settings.{limits_of, limits_fit, usable_at, ring_of}
use Rattle.model.specs.Class.{class_number, Each}
use Rattle.model.specs.Book.{Held, Book}
use Rattle.model.specs.Register.{Register}
use Rattle.model.specs.BookWords.{class_form}
use Rattle.model.specs.RegisterWords.{each_form, flag_word, heading_width, register_form}

-- what sound words hold; `spare` and `unused` are words that no rule reads
pub record State : Type 0 where
  pub book : Book
  pub registers : List Register
  pub spare : List ℕ
  pub unused : List ℕ

-- ---- the front
pub record Front : Type 0 where
  pub limits : Limits
  pub closed : Bool
  pub spare : List ℕ

abbrev pub front_width : ℕ
front_width = 20

abbrev pub front_spare : ℕ
front_spare = 9

abbrev pub encode_front : Settings → Front → List ℕ
encode_front s f =
    s.registers ∷ s.shares.places ∷ s.shares.pairs ∷ s.shares.feeder ∷ s.shares.peer
    ∷ f.limits.feeder ∷ f.limits.feeders ∷ f.limits.peer ∷ f.limits.peers ∷ f.limits.relay ∷ flag_word f.closed ∷ f.spare

abbrev pub read_front : List ℕ → Front
read_front ws = record { limits = limits_of (drop 5 ws); closed = eqb (get_or ws 10 0) 1; spare = drop 11 ws }

-- "kept settings equal those handed in and kept limits are in bounds"
abbrev pub kept_shares : Settings → List ℕ → Bool
kept_shares s ws =
    eqb (get_or ws 0 0) s.registers && (eqb (get_or ws 1 0) s.shares.places && (eqb (get_or ws 2 0) s.shares.pairs
    && (eqb (get_or ws 3 0) s.shares.feeder && eqb (get_or ws 4 0) s.shares.peer)))

unfoldable pub front_sound : Settings → List ℕ → Bool
front_sound s ws = kept_shares s ws && (limits_fit (limits_of (drop 5 ws)) && leb (get_or ws 10 0) 1)

pub record FrontOk (f : Front) : Type 0 where
  pub limits : limits_fit f.limits ≡ true
  pub spare : length f.spare ≡ front_spare

abbrev pub front_form : Settings → Form Front
front_form s = record { wide = front_width; enc = encode_front s; read = read_front; Ok = FrontOk; test = front_sound s }

-- ---- all of it
abbrev pub book_form : Settings → Form (Each Held)
book_form s = each_form (class_form s.shares)

abbrev pub registers_form : Settings → Form (List Register)
registers_form s = row (λ r. register_form (usable_at s r)) s.registers

abbrev pub unused_width : Settings → ℕ
unused_width s = (4 - s.registers) * heading_width

abbrev pub Parts : Type 0
Parts = Both Front (Both (Each Held) (Both (List Register) (List ℕ)))

abbrev pub state_of : Parts → State
state_of x = record {
  book = record { limits = x.head.limits; closed = x.head.closed; classes = x.body.head };
  registers = x.body.body.head;
  spare = x.head.spare;
  unused = x.body.body.body;
}

abbrev pub of_state : State → Parts
of_state t = record {
  head = record { limits = t.book.limits; closed = t.book.closed; spare = t.spare };
  body = record { head = t.book.classes; body = record { head = t.registers; body = t.unused } };
}

abbrev pub state_form : Settings → Form State
state_form s =
    seen_as state_of of_state (both (front_form s) (both (book_form s) (both (registers_form s) (free (unused_width s)))))

-- ---- where each part starts
-- a class: its totals, and P places
abbrev pub class_width : Shares → ℕ
class_width b = class_head + b.places * place_width b.pairs

abbrev pub class_start : Settings → Class → ℕ
class_start s c = front_width + class_number c * class_width s.shares

abbrev pub ring_width : Usable → ℕ
ring_width u = ring_of u * generation_width u.slots

-- a register: its own words, and a ring for each class
abbrev pub register_width : Usable → ℕ
register_width u = heading_width + 3 * ring_width u

-- a class's ring within its register
abbrev pub ring_start : Usable → Class → ℕ
ring_start u c = heading_width + class_number c * ring_width u

-- the first register after n others, of which the first is r
unfoldable pub after_registers : Settings → ℕ → ℕ → ℕ
after_registers s r zero = 0
after_registers s r (suc n) = register_width (usable_at s r) + after_registers s (suc r) n

abbrev pub register_start : Settings → ℕ → ℕ
register_start s r = front_width + 3 * class_width s.shares + after_registers s 0 r
