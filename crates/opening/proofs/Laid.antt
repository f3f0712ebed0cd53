-- An opening's words, laid one part after the other over zeros.
use Prim.Native.Nat.{ℕ, zero, suc, ◌+◌, ◌*◌, ◌<◌, ◌≤◌}
use native.Mathlib.Omega.{arith}
use mathlib.Core.Path.{◌≡◌, refl, sym, ◌∙◌, ap, ap₂}
use mathlib.Core.Bool.{true}
use mathlib.Core.List.{List, ◌∷◌, ◌++◌, append_assoc}
use lib.ListN.{length, drop, get_or, replicate, length-append, length-replicate}
use lib.Seq.{take-append_seam, drop-append_seam}
use Rattle.model.specs.declared.Limits.{Limits}
use Rattle.model.specs.declared.Settings.{Settings}
use Rattle.model.specs.declared.Start.{Start}
use Rattle.runs.specs.Combine.{enc_row}
use Rattle.model.specs.Settings.{limits_of, usable_at, settings_fit, words_needed}
use Rattle.model.specs.Codes.{start_of}
use Rattle.model.specs.Book.{opened_book}
use Rattle.model.specs.Register.{Register, started}
use Rattle.model.specs.RegisterWords.{encode_heading, register_form}
use Rattle.model.specs.Words.{encode_front, state_form, unused_width, class_width, ring_width, after_registers, register_start}
use Rattle.model.specs.Calls.{start_all, opened}
use Rattle.model.proofs.Parts.{registers_start_is}
use Rattle.model.proofs.Words.{state_wide}
use Rattle.numbers.proofs.Placing.{after_more}
use Rattle.opening.specs.Opened.{opened_with, started_all, front_at, heading_at, start_at, over, with_heading, with_headings}
use Rattle.opening.proofs.Blank.{join, book_blank, started_words}

-- the model's own `opened`, where each register's start is that of its code and floor
module _ (s : Settings) (words : List ℕ) (starts : List Start)
    (read : (r : ℕ) → r < s.registers → start_at starts r ≡ start_of (get_or words (2 * r) 0) (get_or words (2 * r + 1) 0)) where
  started_is : (n r : ℕ) → r + n ≡ s.registers → start_all s words r n ≡ started_all s starts r n
  unfolding start_all started_all
  started_is zero r e = refl
  started_is (suc n) r e =
      ap₂ (λ (a : Start) (l : List Register). started (usable_at s r) a ∷ l) (sym (read r (omega arith))) (started_is n (suc r) (omega arith))

  pub opened_is : (limits : List ℕ) → opened s limits words ≡ opened_with s (limits_of limits) starts
  unfolding opened opened_with
  opened_is limits = rw (started_is s.registers 0 (omega arith))

-- a register's own words over the first of the zeros that are left: k more zeros are its rings
lay : (done own : List ℕ) (k m : ℕ)
    → over (length done) own (done ++ replicate (24 + (k + m)) 0) ≡ (done ++ (own ++ replicate k 0)) ++ replicate m 0
lay done own k m =
    rw (← join 24 (k + m), take-append_seam, drop-append_seam, append_assoc, append_assoc, join k m)

module _ (s : Settings) (starts : List Start) where
  -- ---- register r, as it starts
  abbrev rings : ℕ → ℕ
  rings r = 3 * ring_width (usable_at s r)

  abbrev words_at : ℕ → List ℕ
  words_at r = encode_heading (usable_at s r) (heading_at (start_at starts r)) ++ replicate (rings r) 0

  -- n of them from r on
  abbrev rows : ℕ → ℕ → List ℕ
  rows r n = enc_row (λ i. register_form (usable_at s i)) r (started_all s starts r n)

  row_more : (r n : ℕ) → rows r (suc n) ≡ words_at r ++ rows (suc r) n
  unfolding started_all enc_row
  row_more r n = ap (λ (l : List ℕ). l ++ rows (suc r) n) (started_words (usable_at s r) (start_at starts r))

  place_more : (r : ℕ) (done : List ℕ) → length done ≡ register_start s r → length (done ++ words_at r) ≡ register_start s (suc r)
  place_more r done h =
      let z : 0 + r ≡ r = omega arith in
      let k = rw z at (after_more s 0 r) in
      let l : length (words_at r) ≡ 24 + rings r = rw (length-replicate {A = ℕ} (rings r) 0) (omega arith) in
      length-append done (words_at r) ∙ omega (arith, k, l, h)

  lay_more : (r n m : ℕ) (done : List ℕ) → length done ≡ register_start s r
      → with_heading s starts r (done ++ replicate (after_registers s r (suc n) + m) 0)
      ≡ (done ++ words_at r) ++ replicate (after_registers s (suc r) n + m) 0
  unfolding with_heading after_registers
  lay_more r n m done h =
      let e : after_registers s r (suc n) + m ≡ 24 + (rings r + (after_registers s (suc r) n + m)) = omega arith in
      let own = encode_heading (usable_at s r) (heading_at (start_at starts r)) in
      ap₂ (λ (a b : ℕ). over a own (done ++ replicate b 0)) (sym h) e ∙ lay done own (rings r) (after_registers s (suc r) n + m)

  laid_none : (r m : ℕ) (done : List ℕ)
      → done ++ replicate (after_registers s r 0 + m) 0 ≡ done ++ (rows r 0 ++ replicate m 0)
  unfolding after_registers started_all enc_row
  laid_none r m done = let z : 0 + m ≡ m = omega arith in rw z

  -- ---- all of them over zeros: m zeros are left
  laid : (n r m : ℕ) (done : List ℕ) → length done ≡ register_start s r
      → with_headings s starts r n (done ++ replicate (after_registers s r n + m) 0) ≡ done ++ (rows r n ++ replicate m 0)
  unfolding with_headings
  laid zero r m done h = laid_none r m done
  laid (suc n) r m done h =
      ap (with_headings s starts (suc r) n) (lay_more r n m done h)
      ∙ laid n (suc r) m (done ++ words_at r) (place_more r done h)
      ∙ append_assoc done (words_at r) (rows (suc r) n ++ replicate m 0)
      ∙ ap (λ (l : List ℕ). done ++ l) (sym (append_assoc (words_at r) (rows (suc r) n) (replicate m 0)) ∙ ap (λ (l : List ℕ). l ++ replicate m 0) (sym (row_more r n)))

-- ---- the words needed, part by part
parts_wide : (s : Settings) → settings_fit s ≡ true
    → words_needed s ≡ 20 + (3 * class_width s.shares + (after_registers s 0 s.registers + unused_width s))
parts_wide s fit = let w = state_wide s fit in let r = registers_start_is s 0 s.registers in omega arith

-- ---- the front over the first zeros, then the registers
pub opened_words : (s : Settings) (limits : Limits) (starts : List Start) → settings_fit s ≡ true
    → with_headings s starts 0 s.registers (encode_front s (front_at limits) ++ drop 20 (replicate {A = ℕ} (words_needed s) 0))
    ≡ (state_form s).enc (opened_with s limits starts)
unfolding opened_with opened_book after_registers
opened_words s limits starts fit =
    let front = encode_front s (front_at limits) in
    let book = 3 * class_width s.shares in
    let left = after_registers s 0 s.registers + unused_width s in
    let w = parts_wide s fit in
    let d : front ++ drop 20 (replicate {A = ℕ} (words_needed s) 0) ≡ (front ++ replicate book 0) ++ replicate left 0 =
    rw (w, ← join 20 (book + left), ← join book left, append_assoc) in
    let l : length (front ++ replicate {A = ℕ} book 0) ≡ register_start s 0 = rw (length-replicate {A = ℕ} book 0) (omega arith) in
    ap (with_headings s starts 0 s.registers) d
    ∙ laid s starts s.registers 0 (unused_width s) (front ++ replicate book 0) l
    ∙ append_assoc front (replicate book 0) _
    ∙ ap (λ (l : List ℕ). front ++ (l ++ (rows s starts 0 s.registers ++ replicate (unused_width s) 0))) (sym (book_blank s))

-- ---- open: cleared, the front written, the registers written
pub front_within : (s : Settings) → 20 ≤ words_needed s
unfolding words_needed
front_within s = omega arith

pub opened_run : (s : Settings) (limits : Limits) (starts : List Start) (before cleared front after : List ℕ) → settings_fit s ≡ true
    → length before ≡ words_needed s → cleared ≡ replicate (length before) 0 → front ≡ encode_front s (front_at limits)
    → after ≡ with_headings s starts 0 s.registers (front ++ drop 20 cleared)
    → after ≡ (state_form s).enc (opened_with s limits starts)
opened_run s limits starts before cleared front after fit long zeros first e =
    e ∙ (rw (first, zeros, long) (opened_words s limits starts fit))
