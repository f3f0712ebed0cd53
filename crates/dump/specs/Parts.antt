-- A dump by the words of a register, whatever they are. Of the words of a well-formed register it is the model's (proofs/Dumped).
use Rattle.std.specs.Prelude.{ℕ, zero, suc, ◌+◌, ◌*◌, ◌/◌, ◌<◌, ◌≤◌, cond, List, [], ◌∷◌, ◌++◌, eqb, length, get_or, take, drop}
use Rattle.std.specs.Coded.{×_prop, Unit-prop, le_prop}
use Rattle.std.proofs.Props.{props}
use Rattle.model.specs.Widths.{generation_head}
use Rattle.model.specs.GenerationWords.{live_slots}
use Rattle.model.specs.RegisterWords.{heading_width, read_floor}
use Rattle.model.specs.Dump.{dumped_floor, fingerprints}
use Rattle.model.specs.Most.{generation_most}
use Rattle.generation.specs.Words.{Bounded}

-- ---- one generation's words
unfoldable pub part_words : List ℕ → List ℕ
part_words ws = cond (eqb (get_or ws 1 0) 0) [] (get_or ws 3 0 ∷ get_or ws 2 0 ∷ get_or ws 1 0 ∷ fingerprints (live_slots ws))

unfoldable pub part_length : List ℕ → ℕ
part_length ws = cond (eqb (get_or ws 1 0) 0) 0 (get_or ws 1 0 + 3)

-- 1 where it holds something
unfoldable pub one_held : List ℕ → ℕ
one_held ws = cond (eqb (get_or ws 1 0) 0) 0 1

-- ---- n runs of k words: what each comes to, one after the other, a number of each, added up, and what is so of each
unfoldable pub parts : (List ℕ → List ℕ) → ℕ → ℕ → List ℕ → List ℕ
parts f k zero ws = []
parts f k (suc n) ws = f (take k ws) ++ parts f k n (drop k ws)

unfoldable pub parts_total : (List ℕ → ℕ) → ℕ → ℕ → List ℕ → ℕ
parts_total c k zero ws = 0
parts_total c k (suc n) ws = c (take k ws) + parts_total c k n (drop k ws)

unfoldable pub AllParts : (List ℕ → Type 0) → ℕ → ℕ → List ℕ → Type 0
AllParts P k zero ws = Unit {0}
AllParts P k (suc n) ws = P (take k ws) × AllParts P k n (drop k ws)

pub all_prop : (P : List ℕ → Type 0) → ((x : List ℕ) → IsProp (P x)) → (k n : ℕ) (ws : List ℕ) → IsProp (AllParts P k n ws)
unfolding AllParts
all_prop P p k zero ws = Unit-prop
all_prop P p k (suc n) ws = ×_prop (p (take k ws)) (all_prop P p k n (drop k ws))

-- ---- the same of all the runs of k words that there are
abbrev pub shown : (List ℕ → List ℕ) → ℕ → List ℕ → List ℕ
shown f k ws = parts f k (length ws / k) ws

abbrev pub total : (List ℕ → ℕ) → ℕ → List ℕ → ℕ
total c k ws = parts_total c k (length ws / k) ws

abbrev pub Each : (List ℕ → Type 0) → ℕ → List ℕ → Type 0
Each P k ws = AllParts P k (length ws / k) ws

-- generations of k words
pub record Laid (k : ℕ) (ws : List ℕ) : Type 0 where
  pub wide : generation_head ≤ k
  pub few : length ws / k ≤ 768
  pub bounded : Each Bounded k ws

pub bounded_prop : (k : ℕ) (ws : List ℕ) → IsProp (Each Bounded k ws)
bounded_prop k ws = all_prop Bounded (λ x. Prim.hlevel props) k (length ws / k) ws

laid_prop : (k : ℕ) (ws : List ℕ) → IsProp (Laid k ws)
laid_prop k ws = λ a b i. record { wide = le_prop a.wide b.wide i; few = le_prop a.few b.few i; bounded = bounded_prop k ws a.bounded b.bounded i }

-- what is shown of a class: words before its generations (head), and what each comes to (f)
abbrev pub ring_shown : (ℕ → List ℕ → List ℕ) → (List ℕ → List ℕ) → ℕ → List ℕ → List ℕ
ring_shown head f k ws = head k ws ++ shown f k ws

-- a dump has a count there
abbrev pub count_before : ℕ → List ℕ → List ℕ
count_before k ws = total one_held k ws ∷ []

-- ---- a register's words: its own, and then the rings of the three classes, each of n generations of k words
abbrev pub floor_of : ℕ → ℕ → ℕ
floor_of flag floor = dumped_floor (read_floor flag floor)

-- what is shown of the three classes
unfoldable pub register_shown : (ℕ → List ℕ → List ℕ) → (List ℕ → List ℕ) → ℕ → ℕ → List ℕ → List ℕ
register_shown head f k n ws = shown (ring_shown head f k) (n * k) (drop heading_width ws)

-- how many generations of them are held
abbrev pub held_parts : ℕ → List ℕ → ℕ
held_parts k ws = total one_held k (drop heading_width ws)

unfoldable pub register_words : ℕ → ℕ → List ℕ → List ℕ
register_words k n ws = floor_of (get_or ws 8 0) (get_or ws 9 0) ∷ register_shown count_before part_words k n ws

unfoldable pub register_long : ℕ → List ℕ → ℕ
register_long k ws = 8 * (4 + total part_length k (drop heading_width ws))

pub record LaidOut (k n : ℕ) (ws : List ℕ) : Type 0 where
  pub narrow : k ≤ generation_most
  pub some : 0 < n
  pub few : n ≤ 256
  pub heading : heading_width ≤ length ws
  pub generations : Laid k (drop heading_width ws)
  pub rings : Each (Laid k) (n * k) (drop heading_width ws)

pub laid_out_prop : (k n : ℕ) (ws : List ℕ) → IsProp (LaidOut k n ws)
laid_out_prop k n ws = λ a b i. record {
  narrow = le_prop a.narrow b.narrow i;
  some = le_prop a.some b.some i;
  few = le_prop a.few b.few i;
  heading = le_prop a.heading b.heading i;
  generations = laid_prop k (drop heading_width ws) a.generations b.generations i;
  rings = all_prop (Laid k) (laid_prop k) (n * k) (length (drop heading_width ws) / (n * k)) (drop heading_width ws) a.rings b.rings i;
}
