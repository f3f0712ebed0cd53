-- The zeros of an opening: what an empty book and empty rings are in words.
use Prim.Native.Nat.{ℕ, zero, suc, ◌+◌, ◌*◌}
use native.Mathlib.Nat.{suc-mul, zero-mul}
use native.Mathlib.Omega.{arith}
use mathlib.Core.Path.{◌≡◌, ◌∙◌, ap, ap₂}
use mathlib.Core.List.{List, [], ◌++◌}
use lib.ListN.{replicate, replicate-append-replicate, length-replicate}
use lib.Seq.{take_all}
use Rattle.model.specs.declared.Class.{Class}
use Rattle.model.specs.declared.Class.TheVariants.{Feeders, Peers, Own}
use Rattle.model.specs.declared.Shares.{Shares}
use Rattle.model.specs.declared.Settings.{Settings}
use Rattle.model.specs.declared.Usable.{Usable}
use Rattle.model.specs.declared.Start.{Start}
use Rattle.model.specs.declared.Start.TheVariants.{Empty, Fallback, At}
use Rattle.runs.specs.Chunks.{flat}
use Rattle.runs.specs.Words.{pad}
use Rattle.runs.proofs.Exact.{up_none}
use Rattle.model.specs.Numbers.{cap64}
use Rattle.model.specs.Widths.{generation_head, generation_width, class_head, place_width}
use Rattle.model.specs.Settings.{ring_of}
use Rattle.model.specs.Class.{three}
use Rattle.model.specs.Generation.{empty, count}
use Rattle.model.specs.Book.{Held, entries_in, units}
use Rattle.model.specs.Register.{published, started}
use Rattle.model.specs.GenerationWords.{encode_generation}
use Rattle.model.specs.BookWords.{place_form, class_form}
use Rattle.model.specs.RegisterWords.{each_form, encode_heading, ring_form, register_form}
use Rattle.model.specs.Words.{book_form, class_width, ring_width}
use Rattle.opening.specs.Opened.{heading_at}

-- one run of zeros after another
pub join : (m n : ℕ) → ◌≡◌ {A = List ℕ} (replicate m 0 ++ replicate n 0) (replicate (m + n) 0)
join m n = replicate-append-replicate m n 0

-- three of one length
thrice : (n : ℕ) → ◌≡◌ {A = List ℕ} (replicate n 0 ++ (replicate n 0 ++ replicate n 0)) (replicate (3 * n) 0)
thrice n = let e : n + (n + n) ≡ 3 * n = omega arith in rw (join n n, join n (n + n), e)

-- ---- the book
-- a class in which nobody has a place
abbrev pub nobody : Held
nobody = record { places = []; expired = 0 }

class_blank : (b : Shares) (c : Class) → (class_form b c).enc nobody ≡ replicate (class_width b) 0
unfolding entries_in units
class_blank b c =
    ap (λ (l : List ℕ). replicate class_head 0 ++ l) (up_none (place_form c b.pairs) b.places) ∙ join class_head (b.places * place_width b.pairs)

pub book_blank : (s : Settings) → (book_form s).enc (three nobody) ≡ replicate (3 * class_width s.shares) 0
book_blank s =
    ap₂ (λ (a b : List ℕ). a ++ b) (class_blank s.shares Feeders)
    (ap₂ (λ (a b : List ℕ). a ++ b) (class_blank s.shares Peers) (class_blank s.shares Own))
    ∙ thrice (class_width s.shares)

-- ---- a register
generation_blank : (S : ℕ) → encode_generation S empty ≡ replicate (generation_width S) 0
unfolding count pad
generation_blank S =
    let t = take_all S (replicate {A = ℕ} S 0) (rw length-replicate (omega arith)) in
    let e : generation_head + S ≡ generation_width S = omega arith in
    ap (λ (l : List ℕ). replicate generation_head 0 ++ l) t ∙ (rw e at (join generation_head S))

flat_blank : (S n : ℕ) → flat (encode_generation S) (replicate n empty) ≡ replicate (n * generation_width S) 0
unfolding flat
flat_blank S zero = let e = zero-mul (generation_width S) in rw e
flat_blank S (suc n) =
    let e : generation_width S + n * generation_width S ≡ suc n * generation_width S = let m = suc-mul n (generation_width S) in omega arith in
    ap₂ (λ (a b : List ℕ). a ++ b) (generation_blank S) (flat_blank S n) ∙ (rw e at (join (generation_width S) (n * generation_width S)))

rings_blank : (u : Usable) → (each_form (λ c. ring_form u)).enc (three (replicate (ring_of u) empty)) ≡ replicate (3 * ring_width u) 0
rings_blank u = let e = flat_blank u.slots (ring_of u) in rw e (thrice (ring_width u))

-- a register at its start: its own words, and then zeros
pub started_words : (u : Usable) (start : Start)
    → (register_form u).enc (started u start) ≡ encode_heading u (heading_at start) ++ replicate (3 * ring_width u) 0
unfolding started
started_words u Empty = ap (λ (l : List ℕ). encode_heading u (heading_at Empty) ++ l) (rings_blank u)
started_words u Fallback = ap (λ (l : List ℕ). encode_heading u (heading_at Fallback) ++ l) (rings_blank u)
started_words u (At f) = ap (λ (l : List ℕ). encode_heading u (heading_at (At f)) ++ l) (rings_blank u)

-- no sweep is published yet
pub none_published : (u : Usable) → published u 0 ≡ 0
unfolding published cap64
none_published u = let e = zero-mul u.bucket in rw e
