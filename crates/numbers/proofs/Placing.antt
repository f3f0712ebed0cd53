-- Parts lie within the needed words, and settings in bounds keep their places small.
use Prim.Native.Nat.{ℕ, zero, suc, ◌+◌, ◌*◌, ◌<◌, ◌≤◌}
use native.Mathlib.Nat.{mul_assoc, mul-le-mul}
use native.Mathlib.Numerals.{add-one}
use native.Mathlib.Omega.{arith}
use mathlib.Core.Path.{◌≡◌, refl, ap}
use mathlib.Core.Bool.{true}
use Rattle.model.specs.declared.Class.{Class}
use Rattle.model.specs.declared.Class.TheVariants.{Feeders, Peers, Own}
use Rattle.model.specs.declared.Usable.{Usable}
use Rattle.model.specs.declared.Shares.{Shares}
use Rattle.model.specs.declared.Settings.{Settings}
use Rattle.model.specs.Widths.{generation_width, place_width}
use Rattle.model.specs.Settings.{ring_of, usable_fit, usable_at, settings_fit, register_words, registers_words, book_words, words_needed}
use Rattle.model.specs.Class.{class_number}
use Rattle.model.specs.Words.{front_width, class_width, class_start, ring_width, register_width, ring_start, after_registers, register_start}
use Rattle.model.specs.Most.{generation_most, ring_most, rings_most, register_most, place_most, places_most, class_most, words_most}
use Rattle.model.proofs.Bounds.{fit_shares, fit_usable}
use Rattle.model.proofs.Words.{registers≤4}
use Rattle.numbers.specs.RegisterAt.{RegisterAt}
use Rattle.numbers.proofs.Needed.{usable_few, shares_few}

-- ---- a class in the book
-- at most 64 places have few words
pub places_few : (n place : ℕ) → n ≤ 64 → place ≤ place_most → n * place ≤ places_most
places_few n place h k = let m = mul-le-mul h k in omega (arith, m)

-- where a part ends that starts at word a and has n words
pub ends_at : {w n : ℕ} (a : ℕ) → w ≡ n → a + w ≡ a + n
ends_at a e = ap (λ (k : ℕ). a + k) e

-- three of a width lie one after the other
third : (c : Class) (k : ℕ) → class_number c * k + k ≤ 3 * k
unfolding class_number
third Feeders k = omega arith
third Peers k = omega arith
third Own k = omega arith

book_is : (b : Shares) → 3 * class_width b ≡ 12 + book_words b
unfolding book_words
book_is b = let e = mul_assoc 3 b.places (place_width b.pairs) in omega arith

pub class_within : (s : Settings) (c : Class) → class_start s c + class_width s.shares ≤ words_needed s
unfolding words_needed
class_within s c = omega (arith, third c (class_width s.shares), book_is s.shares)

-- ---- a class's ring in its register
pub ring_few : (u : Usable) → usable_fit u ≡ true → ring_of u * generation_width u.slots ≤ ring_most
ring_few u fit =
    let f = usable_few u fit in
    let b : generation_width u.slots ≤ generation_most = let k = f.slots in omega arith in
    let m = mul-le-mul f.ring b in
    omega (arith, m)

pub ring_within : (u : Usable) (c : Class) → ring_start u c + ring_width u ≤ register_width u
ring_within u c = omega (arith, third c (ring_width u))

-- ---- a register in the run
pub register_is : (u : Usable) → register_width u ≡ 24 + register_words u
unfolding register_words
register_is u = let e = mul_assoc 3 (ring_of u) (generation_width u.slots) in omega arith

-- one register more
pub after_more : (s : Settings) (r n : ℕ) → after_registers s r (suc n) ≡ after_registers s r n + register_width (usable_at s (r + n))
unfolding after_registers
after_more s r zero = let e : r + 0 ≡ r = omega arith in rw e (omega arith)
after_more s r (suc n) = let e : r + suc n ≡ suc r + n = omega arith in rw e (let k = after_more s (suc r) n in omega arith)

after_within : (s : Settings) (n r m : ℕ) → r < m → after_registers s n r + register_width (usable_at s (n + r)) ≤ after_registers s n m
unfolding after_registers
after_within s n r zero h = absurd (omega arith)
after_within s n zero (suc m) h = let e : n + 0 ≡ n = omega arith in rw e (omega arith)
after_within s n (suc r) (suc m) h = let e : n + suc r ≡ suc n + r = omega arith in rw e (let k = after_within s (suc n) r m (omega arith) in omega arith)

after_all : (s : Settings) (r n : ℕ) → after_registers s r n ≡ n * 24 + registers_words s r n
unfolding after_registers registers_words
after_all s r zero = refl
after_all s r (suc n) = omega (arith, register_is (usable_at s r), after_all s (suc r) n)

pub register_within : (s : Settings) (r : ℕ) → s.registers ≤ 4 → r < s.registers → register_start s r + register_width (usable_at s r) ≤ words_needed s
unfolding words_needed
register_within s r m h =
    let z : 0 + r ≡ r = omega arith in
    let w = rw z at (after_within s 0 r s.registers h) in
    omega (arith, w, after_all s 0 s.registers, book_is s.shares)

-- ---- settings in bounds need few words
registers_few : (s : Settings) (r n : ℕ) → ((i : ℕ) → i < r + n → usable_fit (usable_at s i) ≡ true) → registers_words s r n ≤ n * rings_most
unfolding registers_words register_words
registers_few s r zero each = omega arith
registers_few s r (suc n) each =
    let k = registers_few s (suc r) n (λ i h. each i (omega arith)) in
    let f = (usable_few (usable_at s r) (each r (omega arith))).words in
    omega (arith, k, f)

pub needed_few : (s : Settings) → settings_fit s ≡ true → words_needed s ≤ words_most
unfolding words_needed book_words
needed_few s fit =
    let m = registers≤4 s fit in
    let k = registers_few s 0 s.registers (λ i h. fit_usable s i fit (omega arith)) in
    let b = (shares_few s.shares (fit_shares s fit)).words in
    omega (arith, k, b)

-- ---- a register's settings and place, as the code has them
pub register_placed : (s : Settings) (r : ℕ) (u : Usable) (start width : ℕ) → settings_fit s ≡ true → r < s.registers → u ≡ usable_at s r → start ≡ register_start s r
    → start + register_width (usable_at s r) ≤ words_needed s → width ≡ register_width u
    → RegisterAt s r (record { u = u; start = start; end = start + width })
register_placed s r u start width fit h usable from within wide =
    let e : width ≡ register_width (usable_at s r) = rw (← usable) wide in
    let m = needed_few s fit in
    record { below = h; usable = usable; start = from; end = ap (λ (n : ℕ). start + n) e; within = omega arith; few = omega arith }

-- ---- a class's number times a width, as the code has it
pub number_few : (c : Class) → class_number c ≤ 2
unfolding class_number
number_few Feeders = omega arith
number_few Peers = omega arith
number_few Own = omega arith

pub product_few : (c : Class) (n k most : ℕ) → n ≡ class_number c → k ≤ most → n * k ≤ 2 * most
product_few c n k most e h = let m = mul-le-mul {n₁ = n} {n₂ = 2} (let f = number_few c in omega arith) h in m

-- ---- the sum over the registers before one, as far as it has gone
pub record Added (s : Settings) (register a i : ℕ) : Type 0 where
  pub within : i ≤ register
  pub sum : a ≡ register_start s i
  pub small : a ≤ front_width + 3 * class_most + i * register_most

pub added_none : (s : Settings) (register width : ℕ) → width ≡ class_width s.shares → width ≤ class_most → Added s register (20 + 3 * width) 0
unfolding after_registers
added_none s register width e h = record { within = omega arith; sum = omega arith; small = omega arith }

pub added_more : (s : Settings) (register a i more : ℕ) → Added s register a i → i < register → more ≡ register_width (usable_at s i) → more ≤ register_most
    → Added s register (a + more) (i + 1)
added_more s register a i more l h e f =
    let z : 0 + i ≡ i = omega arith in
    let k = rw z at (after_more s 0 i) in
    let t = l.sum in
    let y = l.small in
    record { within = omega arith; sum = rw add-one (omega (arith, k)); small = omega arith }
