-- A fingerprint is inserted: the slots grow, and it is entered.
use Prim.Native.Nat.{ℕ, ◌+◌, ◌-◌, ◌≤◌, max, min}
use native.Mathlib.Omega.{arith}
use mathlib.Core.Path.{◌≡◌, refl, sym, ◌∙◌, ap}
use mathlib.Core.Bool.{Bool, cond}
use mathlib.Core.List.{List, [], ◌++◌, append-nil}
use lib.ListN.{length, get_or, set, take, drop, replicate, length-append, length-take, length-drop, drop_of_length-le}
use lib.Seq.{take_all, drop-append-add}
use lib.Dec.{eqb}
use borrow.Rule.Slice.PartMut.{put_mid, mid_of}
use Rattle.runs.specs.Words.{pad}
use Rattle.runs.proofs.Words.{length_pad, drop_zeros, pad_fits}
use Rattle.runs.proofs.Firsts.{firsts_are}
use Rattle.runs.specs.Turns.{silent}
use Rattle.model.specs.Widths.{generation_head, generation_width}
use Rattle.model.specs.Generation.{count, among, put, grown, slots_for, oldest_with, insert}
use Rattle.model.proofs.Probing.{put_length}
use Rattle.model.proofs.Growth.{grown_length, grown_count, ok_found}
use Rattle.model.proofs.GenerationWords.{generation_wide, live_pad}
use Rattle.generation.specs.declared.Generation.{Generation as Leading}
use Rattle.generation.specs.Slots.{slots_after, Puts}
use Rattle.generation.specs.Rules.{with_slots_for, entered}
use Rattle.generation.specs.Words.{Bounded, Roomy, Leads, led_by, GenerationReads, GenerationTurns, FittingTurns}
use Rattle.generation.proofs.Doubling.{slots_are, slots_hold, slots_more}
use Rattle.generation.proofs.Looking.{lent_slots, with_lent, slots_part}

-- a run's slots, some of them replaced by as many or more
pad_over : (S : ℕ) (s t : List ℕ) → length s ≤ length t → length t ≤ S → t ++ drop (length t) (pad S s) ≡ pad S t
pad_over S s t h k =
    let e : length t ≡ length s + (length t - length s) = omega arith in
    let m : S - length s - (length t - length s) ≡ S - length t = omega arith in
    rw (pad_fits S s (omega arith), pad_fits S t k)
    (ap (λ (n : ℕ). t ++ drop n (s ++ replicate (S - length s) 0)) e ∙ rw (drop-append-add, drop_zeros, m))

-- ---- entered
pub enters : (ws last : List ℕ) (h : Leading) → Leads ws h → (fp : ℕ) (ys : List ℕ) (added : ℕ) → Puts fp (lent_slots h.slots ws) ys added
    → (b stamp newest oldest : ℕ) → newest ≡ max h.newest stamp → oldest ≡ cond (eqb h.held 0) stamp (min h.oldest stamp)
    → last ≡ led_by (record { slots = h.slots; held = h.held + added; newest = newest; bucket = b; oldest = oldest }) (with_lent h.slots ws ys)
    → FittingTurns (entered b fp stamp) silent ws last tt
enters ws last h leads fp ys added puts b stamp newest oldest n o led S = record {
  does = λ g fits is.
      let live = slots_part S g fits ws is h.slots leads.slots in
      let e0 : h.slots ≡ length g.slots = leads.slots ∙ ap (λ (l : List ℕ). get_or l 0 0) is in
      let e1 : h.held ≡ count g.slots = leads.held ∙ ap (λ (l : List ℕ). get_or l 1 0) is in
      let e2 : h.newest ≡ g.newest = leads.newest ∙ ap (λ (l : List ℕ). get_or l 2 0) is in
      let y : ys ≡ put g.slots fp = rw live at puts.slots in
      let l = put_length g.slots fp in
      let counted : count (put g.slots fp) ≡ count g.slots + added = rw (live, y) at puts.held in
      let c : h.held + added ≡ count (put g.slots fp) = omega arith in
      let k : generation_width h.slots - generation_head ≡ length (put g.slots fp) = omega arith in
      let e4 : h.oldest ≡ g.oldest = leads.oldest ∙ ap (λ (l : List ℕ). get_or l 4 0) is in
      let m : newest ≡ max g.newest stamp = n ∙ rw e2 in
      let a : oldest ≡ oldest_with stamp g = o ∙ rw (e1, e4) in
      let w : h.slots ≡ length (put g.slots fp) = omega arith in
      let p = pad_over S g.slots (put g.slots fp) (omega arith) (omega arith) in
      (led ∙ rw (y, k, is, c, m, a, w, p), refl);
}

-- ---- grown
-- all slots of a run, as they are lent: `&mut part[HEAD..]`, and the run with others in their place
abbrev all_slots : List ℕ → List ℕ
all_slots ws = mid_of generation_head (length ws - generation_head) ws

abbrev with_all : List ℕ → List ℕ → List ℕ
with_all ws ys = put_mid generation_head (length ws - generation_head) ws ys

module _ (ws : List ℕ) (known : Bool) (bounds : Bounded ws) (roomy : Roomy known ws)
    (wanted : ℕ) (w : wanted ≡ slots_after known (get_or ws 0 0) (get_or ws 1 0)) where
  pub grows_asks : (get_or ws 0 0 ≤ wanted) × (generation_width wanted ≤ length ws)
  grows_asks = let r = roomy.room in let m = slots_more known (get_or ws 0 0) (get_or ws 1 0) in (omega arith, omega arith)

  module _ (ys : List ℕ)
      (y : ys ≡ grown wanted (take (get_or ws 0 0) (all_slots ws)) ++ drop wanted (all_slots ws)) where
    pub grows_bounded : length ys ≡ length (all_slots ws) → Bounded (set (with_all ws ys) 0 wanted)
    grows_bounded same =
        let r = grows_asks in
        let live = bounds.live in
        let few = bounds.held in
        let small = bounds.small in
        let k = length ws - generation_head in
        let led = firsts_are generation_head 0 ws (omega arith) in
        let out = ap (λ (l : List ℕ). set (take generation_head l ++ (ys ++ drop k (drop generation_head ws))) 0 wanted) led in
        let long : length (ys ++ drop k (drop generation_head ws)) ≡ k = simp (length-append, same, length-take, length-drop) (omega arith) in
        rw out (record { live = rw long (omega arith); held = omega arith; small = rw long (omega arith) })

    pub grows : GenerationTurns (with_slots_for known) silent ws (set (with_all ws ys) 0 wanted) tt
    grows S n i = record {
      does = λ g ok is.
          let s = g.slots in
          let fits = ok.fits in
          let f = ok_found S n i g ok in
          let enough = slots_hold known s in
          let v : slots_for known s ≡ wanted = slots_are known s ∙ sym (rw is at w) in
          let more = slots_more known (length s) (count s) in
          let a = slots_are known s in
          let m : length ws - generation_head ≡ S = rw (is, generation_wide S g) (omega arith) in
          let r = roomy.room in
          let e0 : get_or ws 0 0 ≡ length s = ap (λ (l : List ℕ). get_or l 0 0) is in
          let mid : all_slots ws ≡ pad S s = rw (m, is) (take_all S (pad S s) (rw length_pad (omega arith))) in
          let l = grown_length wanted s in
          let built : ys ≡ pad S (grown wanted s) =
          rw (mid, e0, live_pad S g fits) at y ∙ rw l at (pad_over S s (grown wanted s) (omega arith) (omega arith)) in
          let none : drop S (pad S s) ≡ [] = drop_of_length-le (pad S s) {i = S} (rw length_pad (omega arith)) in
          let c = grown_count wanted s f (omega arith) in
          (rw (v, l, c, built, m, is, none, append-nil), refl);
    }

-- ---- and both
pub inserts : (ws mid last : List ℕ) (known : Bool) (b fp stamp : ℕ) → GenerationReads (λ S g. among fp g.slots) ws known → Roomy known ws
    → GenerationTurns (with_slots_for known) silent ws mid tt → FittingTurns (entered b fp stamp) silent mid last tt
    → GenerationTurns (insert b fp stamp) silent ws last tt
unfolding insert
inserts ws mid last known b fp stamp reads roomy one two S n i = record {
  does = λ g ok is.
      let s = g.slots in
      let k = (reads S n i).says g ok is in
      let r = roomy.room in
      let a : slots_for known s ≡ slots_after known (get_or ws 0 0) (get_or ws 1 0) = slots_are known s ∙ rw is in
      let l = grown_length (slots_for known s) s in
      let enough = slots_hold known s in
      let same : count (grown (slots_for known s) s) ≡ count s = grown_count (slots_for known s) s (ok_found S n i g ok) (omega arith) in
      let m : length ws ≡ generation_width S = rw is (generation_wide S g) in
      (rw (← same, ← k) ((two S).does (with_slots_for known g) (omega arith) ((one S n i).does g ok is).0).0, refl);
}
