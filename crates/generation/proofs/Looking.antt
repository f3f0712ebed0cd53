-- What is seen of a generation in its words: its slots, whether it holds a fingerprint, and the room that it has.
use Prim.Native.Nat.{ℕ, ◌-◌, ◌<◌, ◌≤◌}
use native.Mathlib.Omega.{arith}
use mathlib.Core.Path.{◌≡◌, refl, sym, ◌∙◌, ap}
use mathlib.Core.Bool.{Bool, true, false, cond, not, ◌&&◌}
use mathlib.Core.List.{List}
use lib.ListN.{length, get_or}
use lib.Dec.{eqb, leb}
use borrow.Author.Tests.{eq-eqb, le-leb, lt-leb}
use borrow.Rule.Slice.PartMut.{mid_of, put_mid}
use Rattle.runs.proofs.Words.{length_pad}
use Rattle.model.specs.declared.Probe.{Probe}
use Rattle.model.specs.declared.Probe.TheVariants.{Held, Free, Nowhere}
use Rattle.model.specs.declared.Room.{Room}
use Rattle.model.specs.declared.Room.TheVariants.{At, Collides, Full}
use Rattle.model.specs.Widths.{generation_head, generation_width}
use Rattle.model.specs.Generation.{Generation, count, among, probe, slots_for}
use Rattle.model.specs.Judge.{collides}
use Rattle.model.specs.GenerationWords.{encode_generation, read_generation, generation_sound, GenerationOk}
use Rattle.model.proofs.Probing.{found, probe_finds, count≤}
use Rattle.model.proofs.Growth.{ok_found}
use Rattle.model.proofs.RingsKept.{room_told}
use Rattle.model.proofs.GenerationWords.{generation_wide, live_pad, generation_exact}
use Rattle.generation.specs.Slots.{slots_after}
use Rattle.generation.specs.Rules.{holds_in, room_in, room_for}
use Rattle.generation.specs.Words.{Bounded, Roomy, RoomyFor, GenerationReads}
use Rattle.generation.proofs.Doubling.{slots_are}

-- the plain bounds of any well-formed generation's words
pub bounded : (S n i : ℕ) (g : Generation) → GenerationOk S n i g → S ≤ 1_024 → (ws : List ℕ) → ws ≡ encode_generation S g → Bounded ws
bounded S n i g ok small ws is =
    let fits = ok.fits in
    rw is (record { live = rw length_pad (omega arith); held = count≤ g.slots; small = rw length_pad (omega arith) })

-- n slots, as they are lent: `&part[HEAD..e]`, with e their number and the head
abbrev pub lent_slots : ℕ → List ℕ → List ℕ
lent_slots n ws = mid_of generation_head (generation_width n - generation_head) ws

-- and the run with others in their place
abbrev pub with_lent : ℕ → List ℕ → List ℕ → List ℕ
with_lent n ws ys = put_mid generation_head (generation_width n - generation_head) ws ys

-- lent like that, the live slots are the generation's
pub slots_part : (S : ℕ) (g : Generation) → length g.slots ≤ S → (ws : List ℕ) → ws ≡ encode_generation S g
    → (n : ℕ) → n ≡ get_or ws 0 0 → lent_slots n ws ≡ g.slots
slots_part S g fits ws is n e =
    let k : generation_width n - generation_head ≡ length g.slots = let l = ap (λ (l : List ℕ). get_or l 0 0) is in omega arith in
    rw (k, is) (live_pad S g fits)

pub found_other : (p : Probe) → ((i : ℕ) → p ≡ Held i → ⊥) → false ≡ found p
found_other (Held i) h = absurd (h i refl)
found_other (Free i) h = refl
found_other Nowhere h = refl

module _ (ws : List ℕ) where
  pub contains_reads : (fp : ℕ) (p : Probe) → p ≡ probe (lent_slots (get_or ws 0 0) ws) fp → 0 < fp → (r : Bool) → r ≡ found p
      → GenerationReads (λ S g. among fp g.slots) ws r
  contains_reads fp p e pos r says S n i = record {
    says = λ g ok is.
        says ∙ ap found e ∙ rw (slots_part S g ok.fits ws is (get_or ws 0 0) refl) (probe_finds g.slots fp (ok_found S n i g ok) pos);
  }

  -- of that bucket
  pub holds_reads : (b fp : ℕ) (r : Bool) → get_or ws 3 0 ≡ b → GenerationReads (λ S g. among fp g.slots) ws r
      → GenerationReads (λ S. holds_in b fp) ws r
  holds_reads b fp r h t S n i = record {
    says = λ g ok is. (t S n i).says g ok is ∙ rw (eq-eqb g.bucket b (sym (ap (λ (l : List ℕ). get_or l 3 0) is) ∙ h));
  }

  pub room_is : (fp b at : ℕ) (known : Bool) (r : Room) → GenerationReads (λ S g. among fp g.slots) ws known
      → GenerationReads (room_in known b at) ws r → GenerationReads (room_for fp b at) ws r
  room_is fp b at known r k t S n i = record {
    says = λ g ok is. (t S n i).says g ok is ∙ ap (λ (x : Bool). room_in x b at S g) ((k S n i).says g ok is);
  }

  module _ (known : Bool) (b at : ℕ) where
    pub room_collides : (not (eqb (get_or ws 3 0) b) && not (eqb (get_or ws 1 0) 0)) ≡ true → GenerationReads (room_in known b at) ws Collides
    unfolding collides
    room_collides t S n i = record { says = λ g ok is. let e = rw is at t in rw e }

    module _ (t : (not (eqb (get_or ws 3 0) b) && not (eqb (get_or ws 1 0) 0)) ≡ false) (wanted : ℕ)
        (w : wanted ≡ slots_after known (get_or ws 0 0) (get_or ws 1 0)) where
      room_said : (S : ℕ) (g : Generation) → ws ≡ encode_generation S g
          → cond (leb wanted (length ws - generation_head)) (At at) Full ≡ room_in known b at S g
      unfolding collides
      room_said S g is =
          let e = rw is at t in
          let m : length ws - generation_head ≡ S = rw (is, generation_wide S g) (omega arith) in
          let v : slots_after known (length g.slots) (count g.slots) ≡ wanted = sym (rw is at w) in
          rw (e, slots_are known g.slots, v, m)

      pub room_at : wanted ≤ length ws - generation_head → GenerationReads (room_in known b at) ws (At at)
      room_at h S n i = record { says = λ g ok is. rw (le-leb wanted (length ws - generation_head) h) at (room_said S g is) }

      pub room_full : length ws - generation_head < wanted → GenerationReads (room_in known b at) ws Full
      room_full h S n i = record { says = λ g ok is. rw (lt-leb wanted (length ws - generation_head) h) at (room_said S g is) }

-- ---- what a function may ask of words, for a caller
pub roomy : (S : ℕ) (g : Generation) (known : Bool) → slots_for known g.slots ≤ S → (ws : List ℕ) → ws ≡ encode_generation S g → Roomy known ws
roomy S g known h ws is =
    let s = slots_are known g.slots in
    rw is (record { room = rw (generation_wide S g) (omega arith) })

-- of sound words, and where room was found
module _ (S n i : ℕ) (small : S ≤ 1_024) (ws : List ℕ) (long : length ws ≡ generation_width S) (sound : generation_sound n i ws ≡ true) where
  pub sound_bounded : Bounded ws
  sound_bounded = let b = (generation_exact S n i).back ws long sound in bounded S n i (read_generation ws) b.0 small ws b.1

  pub found_roomy : (fp b at : ℕ) (r : Room) {j : ℕ} → r ≡ At j → GenerationReads (room_for fp b at) ws r → RoomyFor fp ws
  found_roomy fp b at r told t = record {
    room = λ known k.
        let v = (generation_exact S n i).back ws long sound in
        let g = read_generation ws in
        let q = sym ((t S n i).says g v.0 v.1) ∙ told in
        let e : known ≡ among fp g.slots = (k S n i).says g v.0 v.1 in
        roomy S g known (rw e (room_told (among fp g.slots) b at S _ g q).fits) ws v.1;
  }
