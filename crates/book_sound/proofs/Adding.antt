-- The loop that tests the places of a class and adds them up, a turn at a time.
use Prim.Native.Nat.{ℕ, suc, ◌+◌, ◌*◌, ◌/◌, ◌≤◌, ◌<◌}
use native.Mathlib.Nat.{add-zero, zero-mul, suc-mul, mul-div_cancel}
use native.Mathlib.Omega.{arith}
use mathlib.Core.Path.{◌≡◌, refl, sym, ◌∙◌, ap}
use mathlib.Core.Bool.{Bool, true, false, ◌&&◌}
use mathlib.Core.List.{List, [], ◌∷◌, ◌++◌}
use lib.ListN.{length, get_or, length-append}
use Rattle.runs.specs.Words.{zeros}
use Rattle.model.specs.declared.Class.{Class}
use Rattle.model.specs.declared.Shares.{Shares}
use Rattle.model.specs.Widths.{place_width}
use Rattle.model.specs.Book.{Place, entries, entries_in, units, place_units}
use Rattle.model.specs.BookWords.{place_sound, used_place, read_who, read_place}
use Rattle.numbers.specs.declared.units.Sums.{Sums}
use Rattle.numbers.specs.Sums.{no_sums, with_place}
use Rattle.numbers.proofs.PlaceUnits.{units_small}
use Rattle.book_sound.specs.PlaceAt.{Within, places_in, test_in, agreeing, totals_rule}
use Rattle.book_sound.proofs.Chunks.{long, one_more, read_next, test_next, no_more, read_last, test_last}
use Rattle.book_sound.proofs.Placed.{passed_place}

-- what the loop answers
abbrev pub summed : Shares → Class → List ℕ → Sums → Bool
summed b c ws t = test_in b c ws && totals_rule b t no_sums (places_in b c ws)

-- it is left with the words r, and the places before them have the sums s
pub record Adds (b : Shares) (c : Class) (ws : List ℕ) (t s : Sums) (size : ℕ) (r : List ℕ) : Type 0 where
  pub wide : size ≡ place_width b.pairs
  pub whole : length r ≡ length r / place_width b.pairs * place_width b.pairs
  pub few : length r / place_width b.pairs + s.holders ≤ 64
  pub small : s.entries ≤ s.holders * 2_000_000
  pub low : s.units ≤ s.holders * 2_004_096
  pub goes : summed b c ws t ≡ (test_in b c r && totals_rule b t s (places_in b c r))

rule_none : (b : Shares) (t s : Sums) → agreeing t s ≡ totals_rule b t s []
unfolding totals_rule entries_in units
rule_none b t s = rw (add-zero s.entries, add-zero s.holders, add-zero s.units)

nil_of : (r : List ℕ) → length r ≡ 0 → r ≡ []
nil_of [] h = refl
nil_of (x ∷ r) h = absurd (omega arith)

-- one of the places still to come is among those with sums
rule_more : (b : Shares) (t s : Sums) (p : Place) (ps : List Place) (n : ℕ) → n ≡ entries p
    → totals_rule b t s (p ∷ ps) ≡ totals_rule b t (with_place b p.who n s) ps
unfolding totals_rule entries_in units
rule_more b t s p ps n hn =
    let x : s.entries + (entries p + entries_in ps) ≡ s.entries + n + entries_in ps = omega arith in
    let y : s.holders + suc (length ps) ≡ s.holders + 1 + length ps = omega arith in
    let z : s.units + (entries p + place_units b p.who + units b ps) ≡ s.units + n + place_units b p.who + units b ps = omega arith in
    rw (x, y, z)

-- so many places lie in the words of a class
pub places_many : (b : Shares) (ws : List ℕ) → Within b ws → length ws / place_width b.pairs ≡ b.places
places_many b ws w = rw w.long (mul-div_cancel b.places (omega arith))

pub adds_start : {b : Shares} {c : Class} {ws : List ℕ} {t : Sums} {size : ℕ} → size ≡ place_width b.pairs → Within b ws → Adds b c ws t no_sums size ws
adds_start {b} {c} {ws} e w =
    let f = w.few.places in
    let n = places_many b ws w in
    record { wide = e; whole = w.long ∙ ap (λ (k : ℕ). k * place_width b.pairs) (sym n); few = omega arith; small = omega arith; low = omega arith; goes = refl }

module _ {b : Shares} {c : Class} {ws : List ℕ} {t s : Sums} {size : ℕ} {r : List ℕ} (l : Adds b c ws t s size r) where
  -- no place is left, nor any word
  pub adds_end : length r < size → {left : List ℕ} → left ≡ r → {same : Bool} → same ≡ (zeros left && agreeing t s) → same ≡ summed b c ws t
  unfolding zeros
  adds_end h {left} is e =
      let none = no_more b c r h l.wide in
      let v : length r ≡ 0 * place_width b.pairs = rw none at l.whole in
      let w : length r ≡ 0 = v ∙ zero-mul (place_width b.pairs) in
      let z : r ≡ [] = nil_of r w in
      let k : (test_in b c r && totals_rule b t s (places_in b c r)) ≡ totals_rule b t s [] = rw (test_last b c r h l.wide, read_last b c r h l.wide) in
      let o : zeros left ≡ true = rw (is, z) in
      e ∙ rw (o, rule_none b t s) (sym (l.goes ∙ k))

  -- so that no sum wraps where a sound place x is added
  pub place_few : (x : List ℕ) → true ≡ place_sound c b.pairs x → (get_or x 2 0 ≤ 2_000_000) × (s.entries ≤ 128_000_000) × (s.holders ≤ 64) × (s.units ≤ 128_262_144)
  place_few x f =
      let p = passed_place x c b.pairs (sym f) in
      let k = l.small in
      let m = l.low in
      let g = l.few in
      (p.1, omega arith, omega arith, omega arith)

  module _ (x q : List ℕ) (split : (r ≡ x ++ q) × (length x ≡ size)) where
    -- an unused place: the rest is zeros
    pub adds_stop : false ≡ used_place x → {left : List ℕ} → left ≡ r → {same : Bool} → same ≡ (zeros left && agreeing t s) → same ≡ summed b c ws t
    adds_stop u is e =
        let k : (test_in b c r && totals_rule b t s (places_in b c r)) ≡ (zeros r && totals_rule b t s []) =
        rw (test_next b c x q split l.wide, read_next b c x q split l.wide, ← u) in
        e ∙ rw (is, rule_none b t s) (sym (l.goes ∙ k))

    module _ (u : true ≡ used_place x) where
      on : summed b c ws t ≡ ((place_sound c b.pairs x && test_in b c q) && totals_rule b t s (read_place c x ∷ places_in b c q))
      on = l.goes ∙ rw (test_next b c x q split l.wide, read_next b c x q split l.wide, ← u)

      -- a place that is not sound
      pub adds_not : false ≡ place_sound c b.pairs x → false ≡ summed b c ws t
      adds_not f = sym (rw (← f) at on)

      -- a sound one is added
      pub adds_on : true ≡ place_sound c b.pairs x → b.feeder ≤ 4_096 → b.peer ≤ 4_096 → {r : Sums} → r ≡ with_place b (read_who c (get_or x 0 0) (get_or x 1 0)) (get_or x 2 0) s
          → {n : ℕ} → n ≡ size → Adds b c ws t r n q
      adds_on f feeder peer hr e =
          let least = units_small b (read_who c (get_or x 0 0) (get_or x 1 0)) feeder peer in
          let p = passed_place x c b.pairs (sym f) in
          let o = one_more b c x q split l.wide in
          let w = l.whole in
          let d = long b c x q split l.wide in
          let k = l.small in
          let m = l.low in
          let g = l.few in
          let a : length r ≡ length x + length q = rw (split.0, length-append) in
          let y : length q ≡ length q / place_width b.pairs * place_width b.pairs = let z = rw (o, suc-mul) at w in omega arith in
          let h = p.1 in
          rw hr (record {
            wide = e ∙ l.wide;
            whole = y;
            few = omega arith;
            small = omega arith;
            low = omega arith;
            goes = rw (← f) at on ∙ rw (rule_more b t s (read_place c x) (places_in b c q) (get_or x 2 0) p.0);
          })
