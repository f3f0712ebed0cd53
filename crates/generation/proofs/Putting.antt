-- A fingerprint put into slots, from where probing for it ended; and slots filled again from others, a turn at a time.
use Prim.Native.Nat.{ℕ, ◌+◌, ◌<◌, ◌≤◌}
use native.Mathlib.Omega.{arith}
use native.Mathlib.Numerals.{add-one}
use mathlib.Core.Path.{◌≡◌, refl, sym, ◌∙◌}
use mathlib.Core.List.{List, ◌++◌}
use lib.ListN.{length, get_or, set, take, drop, replicate, drop_of_length-le, take-append-drop}
use lib.Seq.{drop-cons, take_at, length-take-le}
use borrow.Author.Tests.{eq-eqb, ne_eqb}
use Rattle.model.specs.declared.Probe.{Probe}
use Rattle.model.specs.declared.Probe.TheVariants.{Held, Free, Nowhere}
use Rattle.model.specs.Generation.{probe, put_at, put, refill, grown}
use Rattle.model.proofs.Probing.{free_at, count_set}
use Rattle.generation.specs.Slots.{put_again, Puts}

-- where probing ended at no empty slot nothing is put
put_other : (s : List ℕ) (fp : ℕ) (p : Probe) → ((i : ℕ) → p ≡ Free i → ⊥) → put_at p s fp ≡ s
put_other s fp (Held i) h = refl
put_other s fp (Free i) h = absurd (h i refl)
put_other s fp Nowhere h = refl

module _ (s : List ℕ) (fp : ℕ) {p : Probe} (found : p ≡ probe s fp) where
  pub puts_other : ((i : ℕ) → p ≡ Free i → ⊥) → Puts fp s s 0
  unfolding put
  puts_other h = record {
    slots = sym (put_other s fp (probe s fp) (λ i e. h i (found ∙ e)));
    held = omega arith;
    few = omega arith;
  }

  pub puts_within : {i : ℕ} → p ≡ Free i → i < length s
  puts_within e = (free_at s fp _ (sym found ∙ e)).0

  pub puts_free : {i : ℕ} → p ≡ Free i → 0 < fp → Puts fp s (set s i fp) 1
  unfolding put
  puts_free {i} e pos =
      let q = sym found ∙ e in
      let at = free_at s fp i q in
      let c = count_set s i fp at.0 at.1 pos in
      record { slots = rw q; held = omega arith; few = omega arith }

module _ (old s : List ℕ) (i : ℕ) where
  pub refill_on : i < length old → refill (drop i old) s ≡ refill (drop (i + 1) old) (put_again s (get_or old i 0))
  unfolding refill
  refill_on h = rw (add-one, drop-cons old i 0 h)

  pub refill_end : length old ≤ i → refill (drop i old) s ≡ s
  unfolding refill
  refill_end h = rw drop_of_length-le

-- ---- slots rebuilt in place: the first n of them, copied aside, fill `wanted` empty ones
module _ (slots : List ℕ) (n wanted : ℕ) (long : n ≤ length slots) where
  pub rebuilt : (old copied : List ℕ) → copied ≡ take n slots → wanted ≤ length slots → (ys : List ℕ)
      → ys ≡ refill (take n (copied ++ drop n old)) (replicate (length (take wanted slots)) 0)
      → ys ++ drop wanted slots ≡ refill (take n slots) (replicate wanted 0) ++ drop wanted slots
  rebuilt old copied c h ys y =
      rw (y, c, length-take-le wanted slots h, take_at (take n slots) (drop n old) n (length-take-le n slots long))

  pub grown_not : wanted ≡ n → slots ≡ grown wanted (take n slots) ++ drop wanted slots
  unfolding grown
  grown_not e = rw (length-take-le n slots long, eq-eqb wanted n e, e, take-append-drop)

  pub grown_on : (wanted ≡ n → ⊥) → refill (take n slots) (replicate wanted 0) ++ drop wanted slots ≡ grown wanted (take n slots) ++ drop wanted slots
  unfolding grown
  grown_on e = rw (length-take-le n slots long, ne_eqb wanted n e)
