-- Fingerprints looked for in a ring, and the room that it has for one.
use Prim.Native.Nat.{ℕ, ◌+◌, ◌-◌, ◌%◌, ◌<◌, ◌≤◌}
use native.Mathlib.Omega.{arith}
use native.Mathlib.Numerals.{add-one}
use mathlib.Core.Path.{◌≡◌, refl, sym, ◌∙◌}
use mathlib.Core.Bool.{Bool, false, ◌||◌, or_assoc, or-false}
use mathlib.Core.List.{List}
use lib.ListN.{get_or, drop, drop_of_length-le}
use lib.Seq.{drop-cons}
use borrow.Rule.Slice.PartMut.{mid_of}
use Rattle.runs.proofs.Turns.{reads_as}
use Rattle.model.specs.declared.Room.{Room}
use Rattle.model.specs.Widths.{generation_width}
use Rattle.model.specs.Generation.{empty, among}
use Rattle.model.specs.Register.{Ring, generation_at, holds, holds_any}
use Rattle.model.specs.Judge.{make_room}
use Rattle.generation.specs.declared.Generation.{Generation as Leading}
use Rattle.generation.specs.Rules.{holds_in, room_for}
use Rattle.generation.specs.Words.{Leads}
use Rattle.ring.specs.Ring.{places, RingReads, StartsAt, bucket_in}
use Rattle.ring.proofs.Positions.{place_is}
use Rattle.ring.proofs.Chunks.{From}

-- ---- the bucket that a position has
pub bucket_told : (S n at : ℕ) (ws : List ℕ) (a e : ℕ) (g : Leading) → at < n → StartsAt S n at a → e ≡ a + generation_width S → Leads (mid_of a (e - a) ws) g
    → RingReads S n (bucket_in at) ws g.bucket
bucket_told S n at ws a e g h start he leads = record {
  says = λ ring ok is. leads.bucket ∙ rw (place_is S n at h a e start he ws ring ok is).1;
}

-- ---- in a bucket
pub holds_reads : (S n b fp : ℕ) {ws : List ℕ} {r : Bool} → RingReads S n (λ ring. holds_in b fp (generation_at ring b)) ws r
    → RingReads S n (holds b fp) ws r
unfolding holds
holds_reads S n b fp t = t

-- ---- in any: the loop is at position i, and `any` is the answer for those before it
pub record Looked (S n fp : ℕ) (ws : List ℕ) (i : ℕ) (any : Bool) : Type 0 where
  pub within : i ≤ n
  pub left : (ring : Ring) → (places S n).Ok ring → ws ≡ (places S n).enc ring → (any || holds_any fp (drop i ring)) ≡ holds_any fp ring

module _ (S n fp : ℕ) (ws : List ℕ) where
  pub look_start : Looked S n fp ws 0 false
  look_start = record { within = omega arith; left = λ ring ok is. refl }

  module _ (i : ℕ) (any : Bool) (l : Looked S n fp ws i any) where
    pub look_on : i < n → (held : Bool) → RingReads S n (λ ring. among fp (get_or ring i empty).slots) ws held → Looked S n fp ws (i + 1) (any || held)
    unfolding holds_any
    look_on h held t = record {
      within = omega arith;
      left = λ ring ok is.
          let e = ok.0 in
          let q = rw (drop-cons ring i empty (omega arith), ← t.says ring ok is) at (l.left ring ok is) in
          rw (add-one, or_assoc) q;
    }

    pub look_end : n ≤ i → RingReads S n (holds_any fp) ws any
    unfolding holds_any
    look_end h = record {
      says = λ ring ok is.
          let e = ok.0 in
          sym (or-false any) ∙ (rw (drop_of_length-le ring {i = i} (omega arith)) at (l.left ring ok is));
    }

-- as `chunks_exact` lends the positions
pub record LookedThrough (S n fp : ℕ) (ws : List ℕ) (size : ℕ) (rest : List ℕ) (any : Bool) : Type 0 where
  pub i : ℕ
  pub from : From S n ws i size rest
  pub looked : Looked S n fp ws i any

-- ---- room
pub room_reads : (S n b fp at : ℕ) → at ≡ b % n → {ws : List ℕ} {r : Room}
    → RingReads S n (λ ring. room_for fp b at S (generation_at ring b)) ws r → RingReads S n (make_room S b fp) ws r
unfolding make_room
room_reads S n b fp at p t = reads_as t (λ ring ok is q. q ∙ rw (p, ok.0))
