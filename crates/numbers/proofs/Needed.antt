-- The words needed, register by register, and that they are few.
use Prim.Native.Nat.{ℕ, zero, suc, ◌+◌, ◌*◌, ◌<◌, ◌≤◌}
use native.Mathlib.Nat.{mul-le-mul}
use native.Mathlib.Numerals.{add-one}
use native.Mathlib.Omega.{arith}
use mathlib.Core.Path.{◌≡◌, refl}
use mathlib.Core.Bool.{true}
use mathlib.Core.List.{[], ◌∷◌}
use mathlib.Core.Bool.{◌&&◌, ◌||◌, and-true}
use mathlib.Core.List.{List}
use lib.ListN.{length, get_or, take, length-take}
use lib.Seq.{get_or-take, length-take-le}
use Rattle.std.specs.List.{list_all}
use Rattle.model.proofs.Words.{registers≤4}
use lib.Dec.{leb}
use borrow.Author.Tests.{le-leb}
use Rattle.model.specs.declared.Usable.{Usable}
use Rattle.model.specs.declared.Shares.{Shares}
use Rattle.model.specs.declared.Settings.{Settings}
use Rattle.model.specs.Widths.{generation_width, place_width}
use Rattle.model.specs.Settings.{ring_of, usable_fit, shares_fit, no_usable, usable_at, settings_fit, register_words, registers_words, book_words, words_needed}
use Rattle.model.specs.Most.{generation_most, rings_most, place_most, book_most}
use Rattle.model.proofs.Bounds.{usable_bounds, shares_bounds}

-- ---- bounds that settings in bounds have
-- one register's
pub record Few (u : Usable) : Type 0 where
  pub ring : ring_of u ≤ 256
  pub slots : u.slots ≤ 1_024
  pub words : 3 * ring_of u * generation_width u.slots ≤ rings_most

pub usable_few : (u : Usable) → usable_fit u ≡ true → Few u
usable_few u fit =
    let r = (usable_bounds u fit).ring in
    let k = (usable_bounds u fit).slots in
    let a : 3 * ring_of u ≤ 768 = omega arith in
    let b : generation_width u.slots ≤ generation_most = omega arith in
    record { ring = r; slots = k; words = let m = mul-le-mul a b in omega (arith, m) }

-- the book's
pub record FewPlaces (b : Shares) : Type 0 where
  pub places : b.places ≤ 64
  pub pairs : b.pairs ≤ 512
  pub words : 3 * b.places * place_width b.pairs ≤ book_most

pub shares_few : (b : Shares) → shares_fit b ≡ true → FewPlaces b
shares_few b fit =
    let x = (shares_bounds b fit).places in
    let y = (shares_bounds b fit).pairs in
    let u : 3 * b.places ≤ 192 = omega arith in
    let v : place_width b.pairs ≤ place_most = omega arith in
    record { places = x; pairs = y; words = let m = mul-le-mul u v in omega (arith, m) }

-- ---- the first n registers' settings, as a list
pub few_registers : (s : Settings) → settings_fit s ≡ true → s.registers ≤ 4
few_registers s fit = registers≤4 s fit

pub listed : (s : Settings) (n i : ℕ) → i < length (take n s.usable) → (i < n) × (get_or (take n s.usable) i no_usable ≡ usable_at s i)
listed s n i h = let l = rw length-take at h in let k : i < n = omega (arith, l) in (k, get_or-take n s.usable i no_usable k)

pub all_listed : (s : Settings) (n i : ℕ) → length s.usable ≡ 4 → n ≤ 4 → i ≤ length (take n s.usable) → length (take n s.usable) ≤ i → i ≡ n
all_listed s n i four few l h = let e : length (take n s.usable) ≡ n = length-take-le n s.usable (omega arith) in omega arith

-- so all of them are in bounds exactly where, of the four, each that is there is
fit_each : (n : ℕ) (us : List Usable) → n ≤ 4 → length us ≡ 4 → list_all usable_fit (take n us)
    ≡ ((leb n 0 || usable_fit (get_or us 0 no_usable)) && ((leb n 1 || usable_fit (get_or us 1 no_usable))
    && ((leb n 2 || usable_fit (get_or us 2 no_usable)) && (leb n 3 || usable_fit (get_or us 3 no_usable)))))
fit_each zero (a ∷ b ∷ c ∷ d ∷ []) h l = refl
fit_each (suc zero) (a ∷ b ∷ c ∷ d ∷ []) h l = refl
fit_each (suc (suc zero)) (a ∷ b ∷ c ∷ d ∷ []) h l = refl
fit_each (suc (suc (suc zero))) (a ∷ b ∷ c ∷ d ∷ []) h l = refl
fit_each (suc (suc (suc (suc zero)))) (a ∷ b ∷ c ∷ d ∷ []) h l = rw and-true
fit_each (suc (suc (suc (suc (suc n))))) (a ∷ b ∷ c ∷ d ∷ []) h l = absurd (omega arith)
fit_each n [] h l = absurd (omega arith)
fit_each n (a ∷ []) h l = absurd (omega arith)
fit_each n (a ∷ b ∷ []) h l = absurd (omega arith)
fit_each n (a ∷ b ∷ c ∷ []) h l = absurd (omega arith)
fit_each n (a ∷ b ∷ c ∷ d ∷ e ∷ us) h l = absurd (omega arith)

pub fit_listed : (s : Settings) → length s.usable ≡ 4 → 1 ≤ s.registers → s.registers ≤ 4
    → (shares_fit s.shares && list_all usable_fit (take s.registers s.usable)) ≡ settings_fit s
unfolding settings_fit
fit_listed s four some few =
    let e = fit_each s.registers s.usable few four in
    rw (e, le-leb 1 s.registers some, le-leb s.registers 4 few)

-- ---- the rings of the first i registers
pub record RingsAdded (s : Settings) (rings i : ℕ) : Type 0 where
  pub sum : rings ≡ registers_words s 0 i
  pub small : rings ≤ i * rings_most

registers_more : (s : Settings) (r n : ℕ) → registers_words s r (suc n) ≡ registers_words s r n + register_words (usable_at s (r + n))
unfolding registers_words
registers_more s r zero = let e : r + 0 ≡ r = omega arith in rw e (omega arith)
registers_more s r (suc n) = let e : r + suc n ≡ suc r + n = omega arith in rw e (let k = registers_more s (suc r) n in omega arith)

pub rings_none : (s : Settings) → RingsAdded s 0 0
unfolding registers_words
rings_none s = record { sum = refl; small = omega arith }

pub rings_more : (s : Settings) (rings i more : ℕ) → RingsAdded s rings i → more ≡ register_words (usable_at s i) → more ≤ rings_most
    → RingsAdded s (rings + more) (i + 1)
rings_more s rings i more l e f =
    let z : 0 + i ≡ i = omega arith in
    let k = rw z at (registers_more s 0 i) in
    let t = l.sum in
    let y = l.small in
    record { sum = rw add-one (omega (arith, k)); small = omega arith }

pub needed_is : (s : Settings) (rings book : ℕ) → rings ≡ registers_words s 0 s.registers → book ≡ book_words s.shares → rings + book + 128 ≡ words_needed s
unfolding words_needed
needed_is s rings book r b = omega arith

-- ---- as the code has it
pub book_some : (b : Shares) → shares_fit b ≡ true → (place : ℕ) → place ≡ place_width b.pairs
    → (3 * b.places * place ≡ book_words b) × (3 * b.places * place ≤ book_most)
unfolding book_words
book_some b fit place p = (rw p, rw p (shares_few b fit).words)
