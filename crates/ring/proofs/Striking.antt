-- A fingerprint is inserted at the position where room was found; a bucket's generation is dropped.
use Prim.Native.Nat.{ℕ, ◌+◌, ◌-◌, ◌%◌, ◌<◌, ◌≤◌}
use native.Mathlib.Nat.{mod-lt}
use mathlib.Core.Path.{◌≡◌, sym, ap, ◌∙◌}
use mathlib.Core.List.{List}
use lib.ListN.{length, get_or}
use lib.Seq.{set-get_or}
use lib.Dec.{eqb}
use borrow.Rule.Slice.PartMut.{mid_of}
use Rattle.runs.proofs.Cases.{by_test}
use Rattle.runs.proofs.Turns.{turns_as}
use Rattle.runs.specs.Turns.{silent}
use Rattle.model.specs.declared.Room.TheVariants.{At}
use Rattle.model.specs.Widths.{generation_width}
use Rattle.model.specs.Generation.{Generation, empty, among}
use Rattle.model.specs.Register.{Ring, generation_at, with_generation}
use Rattle.model.specs.Judge.{make_room}
use Rattle.model.specs.Dump.{drop_bucket}
use Rattle.model.proofs.RingsKept.{room_at, insert_in_ok, drop_ok}
use Rattle.generation.specs.Rules.{dropped_in, drop_in_says}
use Rattle.generation.specs.Words.{RoomyFor}
use Rattle.std.specs.Prelude.{Option}
use Rattle.generation.proofs.Looking.{roomy}
use Rattle.ring.specs.Ring.{places, RingReads, RingTurns, RingWords, StartsAt, inserted_in, drop_bucket_says}
use Rattle.ring.proofs.Positions.{place_is, placed, of_placed, turned}

-- ---- what the room that was found tells
module _ (S n b fp at : ℕ) (ws : List ℕ) (w : RingWords S n ws) (room : RingReads S n (make_room S b fp) ws (At at)) where
  abbrev struck : Generation
  struck = generation_at w.is.value b

  said : make_room S b fp w.is.value ≡ At at
  said = let v = w.is in sym (room.says v.value v.ok v.words)

  pub found_position : at ≡ b % n
  found_position = let v = w.is in (room_at S b fp at v.value said).here ∙ rw v.ok.0

  pub found_within : 0 < n → at < n
  found_within some = rw found_position (mod-lt b some)

  pub found_room : 0 < n → (a e : ℕ) (start : StartsAt S n at a) (he : e ≡ a + generation_width S) → RoomyFor fp (mid_of a (e - a) ws)
  found_room some a e start he = record {
    room = λ known t.
        let v = w.is in
        let p = place_is S n at (found_within some) a e start he ws v.value v.ok v.words in
        let g = get_or v.value at empty in
        let same : g ≡ struck = rw (found_position, v.ok.0) in
        let k : known ≡ among fp g.slots = (t S n at).says g p.0 p.1 in
        roomy S g known (rw (k, same) (room_at S b fp at v.value said).fits) (mid_of a (e - a) ws) p.1;
  }

  pub inserted_words : 0 < n → S ≤ 1_024 → (stamp : ℕ) {last : List ℕ} → RingTurns S n (inserted_in b fp stamp) silent ws last tt → 0 < fp → RingWords S n last
  inserted_words some small stamp t pos =
      let v = w.is in
      turned S n t w
      (of_placed S n _ (insert_in_ok S n b fp stamp at v.value small some pos said (placed S n v.value v.ok)))

-- ---- a bucket's generation is dropped
module _ (S n b : ℕ) where
  drop_is : (ring : Ring) → with_generation ring b (dropped_in b (generation_at ring b)) ≡ drop_bucket b ring
  unfolding drop_bucket
  drop_is ring =
      by_test (eqb (generation_at ring b).bucket b) (λ e. rw e)
      (λ e. rw e (set-get_or ring (b % length ring) empty))

  pub drop_turns : {ws last : List ℕ} {r : Option ℕ}
      → RingTurns S n (λ ring. with_generation ring b (dropped_in b (generation_at ring b))) (λ ring. drop_in_says b (generation_at ring b)) ws last r
      → RingTurns S n (drop_bucket b) (drop_bucket_says b) ws last r
  drop_turns t = turns_as t (λ ring ok is q. (ap (places S n).enc (drop_is ring), q))

  pub dropped_words : {ws last : List ℕ} {r : Option ℕ} → RingTurns S n (drop_bucket b) (drop_bucket_says b) ws last r → RingWords S n ws → RingWords S n last
  dropped_words t w = let v = w.is in turned S n t w (of_placed S n _ (drop_ok S n b v.value (placed S n v.value v.ok)))
