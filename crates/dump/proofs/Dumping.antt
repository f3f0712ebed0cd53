-- What a slot, a generation, a class and a register come to in a dump, as the code goes over them.
use Prim.Native.Nat.{ℕ, suc, ◌+◌, ◌-◌, min}
use native.Mathlib.Omega.{arith}
use mathlib.Core.Path.{◌≡◌, refl, sym, subst, ◌∙◌}
use mathlib.Core.List.{List, [], ◌∷◌, ◌++◌}
use lib.ListN.{length, get_or}
use borrow.Author.Tests.{eq-eqb, ne_eqb}
use Rattle.std.proofs.Common.{Option, Some, None}
use Rattle.std.specs.Option.{MatchOption}
use Rattle.model.specs.Widths.{generation_head, generation_width}
use Rattle.model.specs.Numbers.{top64, cap64}
use Rattle.model.specs.Dump.{word_bytes, dumped_floor, fingerprints}
use Rattle.generation.specs.declared.Generation.{Generation as Leading}
use Rattle.generation.specs.Words.{Leads}
use Rattle.generation.proofs.Looking.{lent_slots}
use Rattle.runs.specs.Over.{Fits, Puts}
use Rattle.runs.proofs.Over.{Writes, fits_first, puts_none, writes_start, writes_on, writes_fits, writes_last}
use Rattle.dump.specs.Bytes.{word_wide}
use Rattle.dump.specs.Parts.{part_words, count_before, floor_of, register_words, register_shown}

-- ---- put_generation
module _ (enc : ℕ → List ℕ) {k : ℕ} (each : (n : ℕ) → length (enc n) ≡ k) (ws : List ℕ) (g : Leading) (l : Leads ws g) (p : ℕ) where
  pub part_none : (out : List ℕ) → g.held ≡ 0 → Puts enc k p (part_words ws) out out p
  unfolding part_words
  part_none out z = rw (eq-eqb (get_or ws 1 0) 0 (sym l.held ∙ z)) (puts_none enc k p out)

  module _ (n : g.held ≡ 0 → ⊥) {out : List ℕ} (f : Fits k p (part_words ws) out) where
    -- the words that lead, and then the fingerprints of the slots as they are lent
    part_split : part_words ws ≡ (g.bucket ∷ g.newest ∷ g.held ∷ []) ++ fingerprints (lent_slots g.slots ws)
    unfolding part_words
    part_split =
        let e : generation_width g.slots - generation_head ≡ get_or ws 0 0 = let q = l.slots in omega arith in
        rw (ne_eqb (get_or ws 1 0) 0 (λ z. n (l.held ∙ z)), e, l.bucket, l.newest, l.held)

    pub lead_fits : Fits k p (g.bucket ∷ g.newest ∷ g.held ∷ []) out
    lead_fits =
        fits_first (g.bucket ∷ g.newest ∷ g.held ∷ []) (fingerprints (lent_slots g.slots ws)) (rw part_split at f)

    module _ {mid : List ℕ} {q : ℕ} (d : Puts enc k p (g.bucket ∷ g.newest ∷ g.held ∷ []) out mid q) where
      lead_on : Writes enc k q (fingerprints (lent_slots g.slots ws)) mid p (part_words ws) out
      lead_on =
          writes_on each (g.bucket ∷ g.newest ∷ g.held ∷ []) (fingerprints (lent_slots g.slots ws))
          (subst (λ (us : List ℕ). Writes enc k p us out p (part_words ws) out) part_split (writes_start f)) d

      pub prints_fit : Fits k q (fingerprints (lent_slots g.slots ws)) mid
      prints_fit = record { room = lead_on.room }

      pub part_puts : {after : List ℕ} {r : ℕ} → Puts enc k q (fingerprints (lent_slots g.slots ws)) mid after r → Puts enc k p (part_words ws) out after r
      part_puts e = writes_last (fingerprints (lent_slots g.slots ws)) lead_on e

-- ---- the word that tells a floor
pub told : (read : Option ℕ) {f : Option ℕ} (r : ℕ) → read ≡ f → MatchOption read (r ≡ 0) (λ n. r ≡ min (n + 1) top64) → r ≡ dumped_floor f
unfolding dumped_floor cap64
told None r e h = rw (sym e) h
told (Some n) r e h = let t : r ≡ min (suc n) top64 = h ∙ omega arith in rw (sym e) t

-- ---- put_dump: the floor, and then the three classes
module _ (k n : ℕ) (ws : List ℕ) {p : ℕ} {out : List ℕ} (f : Fits 8 p (register_words k n ws) out) where
  abbrev told_floor : ℕ
  told_floor = floor_of (get_or ws 8 0) (get_or ws 9 0)

  abbrev classes : List ℕ
  classes = register_shown count_before part_words k n ws

  dump_split : register_words k n ws ≡ (told_floor ∷ []) ++ classes
  unfolding register_words
  dump_split = refl

  start : Writes word_bytes 8 p ((told_floor ∷ []) ++ classes) out p (register_words k n ws) out
  start = subst (λ (us : List ℕ). Writes word_bytes 8 p us out p (register_words k n ws) out) dump_split (writes_start f)

  module _ {m : ℕ} (e : m ≡ told_floor) where
    pub floor_fits : Fits 8 p (m ∷ []) out
    floor_fits = rw e (writes_fits (told_floor ∷ []) classes start)

    module _ {mid : List ℕ} {q : ℕ} (d : Puts word_bytes 8 p (m ∷ []) out mid q) where
      floor_on : Writes word_bytes 8 q classes mid p (register_words k n ws) out
      floor_on = writes_on word_wide (told_floor ∷ []) classes start (rw e at d)

      pub classes_fit : Fits 8 q classes mid
      classes_fit = record { room = floor_on.room }

      pub dump_puts : {after : List ℕ} {r : ℕ} → Puts word_bytes 8 q classes mid after r → Puts word_bytes 8 p (register_words k n ws) out after r
      dump_puts x = writes_last classes floor_on x
