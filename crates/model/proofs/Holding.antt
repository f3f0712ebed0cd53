-- Restoring with enough room: every entry is granted, every fingerprint finds a slot, and so each generation is held as it was dumped.
use mathlib.Core.Path.{◌≡◌, refl}
use mathlib.Core.Bool.{true, false}
use mathlib.Core.List.{List, [], ◌∷◌}
use Prim.Native.Nat.{ℕ, suc, ◌%◌, ◌≤◌}
use native.Mathlib.Omega.{arith}
use lib.Dec.{leb, ltb, eqb}
use lib.ListN.{length}
use borrow.Author.Tests.{ne_eqb, le-leb, lt-ltb}
use Rattle.model.specs.declared.Class.{Class}
use Rattle.model.specs.declared.Class.TheVariants.{Feeders, Peers, Own}
use Rattle.model.specs.declared.Deliverer.{Deliverer}
use Rattle.model.specs.declared.Deliverer.TheVariants.{Restored}
use Rattle.model.specs.declared.Draw.TheVariants.{Granted}
use Rattle.model.specs.declared.Room.TheVariants.{At}
use Rattle.model.specs.declared.Shares.{Shares}
use Rattle.model.specs.declared.Limits.{Limits}
use Rattle.model.specs.declared.Usable.{Usable}
use Rattle.runs.proofs.Cases.{by_test}
use Rattle.model.specs.Class.{class_of, same_deliverer, swap}
use Rattle.model.specs.Generation.{Generation, as_read, insert}
use Rattle.model.specs.Book.{Pair, Place, Book, total, entries_of, pairs_of, together, below_share, units_after, listed, place_free, pair_free, draw_room}
use Rattle.model.specs.Book.{draw_limits, draw_test, with_pairs, add_pair, enter, second_of, draw_says, drawn, with_places}
use Rattle.model.specs.Register.{Ring, Register, with_rings, generation_at, with_generation, strike}
use Rattle.model.specs.Judge.{make_room}
use Rattle.model.specs.Dump.{Dumped, Holding, hold_room, hold_one}
use Rattle.model.specs.RoundTrip.{pairs_with, new_units, RoomFor}
use Rattle.model.proofs.Pairs.{total_add, length_new}
use Rattle.model.proofs.Places.{same_self}
use Rattle.model.proofs.Sharing.{draw_sum}

-- ---- pairs: entering a second leaves no fewer
add_longer : (s : ℕ) (qs : List Pair) → length qs ≤ length (add_pair s qs)
unfolding add_pair
add_longer s [] = omega arith
add_longer s (q ∷ qs) =
    by_test (eqb s q.second) (λ e. simp e (omega arith))
    (λ e. by_test (ltb s q.second) (λ d. simp (e, d) (omega arith)) (λ d. simp (e, d) (omega (arith, add_longer s qs))))

with_longer : (ss : List ℕ) (qs : List Pair) → length qs ≤ length (pairs_with ss qs)
unfolding pairs_with
with_longer [] qs = omega arith
with_longer (s ∷ ss) qs = omega (arith, add_longer s qs, with_longer ss (add_pair s qs))

-- ---- one entry of a deliverer
module _ (b : Shares) (who : Deliverer) (s : ℕ) where
  entered_entries : (ps : List Place) → entries_of who (enter b who s ps) ≡ suc (entries_of who ps)
  unfolding enter entries_of with_pairs total
  entered_entries [] = simp (same_self who)
  entered_entries (p ∷ ps) = by_test (same_deliverer who p.who) (λ e. simp (e, total_add)) (λ e. simp e (entered_entries ps))

  entered_pairs : (ps : List Place) → pairs_of who (enter b who s ps) ≡ add_pair s (pairs_of who ps)
  unfolding enter pairs_of with_pairs add_pair
  entered_pairs [] = simp (same_self who)
  entered_pairs (p ∷ ps) = by_test (same_deliverer who p.who) (λ e. simp e) (λ e. simp e (entered_pairs ps))

-- ---- with room for an entry it is granted, and there is room for the others after it
module _ (b : Shares) (l : Limits) (c : Class) (s : ℕ) (ss : List ℕ) (ps : List Place) (room : RoomFor b (together l c) c (s ∷ ss) ps) where
  pair_left : pair_free b (Restored c) s ps ≡ true
  unfolding pair_free pairs_with
  pair_left =
      let qs = pairs_of (Restored c) ps in
      by_test (listed s qs) (λ e. simp e)
      (λ e. simp e (lt-ltb (length qs) b.pairs (omega (arith, room.the_pairs, with_longer ss (add_pair s qs), length_new s qs e))))

  pub room_grants : draw_test b l false (Restored c) s ps ≡ Granted
  unfolding draw_test draw_limits draw_room below_share class_of units_after new_units
  room_grants =
      let within : leb (units_after b (Restored c) ps) (together l c) ≡ true =
      le-leb (units_after b (Restored c) ps) (together l c) (let k = room.covered in omega arith) in
      simp (within, room.a_place, pair_left)

  pub room_after : RoomFor b (together l c) c ss (enter b (Restored c) s ps)
  unfolding new_units units_after place_free pairs_with
  room_after =
      let e = entered_entries b (Restored c) s ps in
      let z : eqb (entries_of (Restored c) (enter b (Restored c) s ps)) 0 ≡ false = ne_eqb (entries_of (Restored c) (enter b (Restored c) s ps)) 0 (λ q. omega arith) in
      record {
        covered = rw z (let k = room.covered in omega (arith, draw_sum b (Restored c) s ps));
        a_place = rw z refl;
        the_pairs = rw (entered_pairs b (Restored c) s ps) room.the_pairs;
      }

-- ---- one class of a register and of a book, the rest as it was
module _ (c : Class) (reg : Register) (k : Book) where
  abbrev pub with_class : Ring → Register
  with_class ring = with_rings (swap c ring reg.rings) reg

  abbrev pub holding : Ring → List Place → ℕ → Holding
  holding ring ps n = record { register = with_class ring; book = with_places c ps k; draws = n; fits = true }

-- a fingerprint of a dumped generation is inserted
abbrev pub inserted_one : Dumped → ℕ → Generation → Generation
inserted_one d fp g = insert d.bucket (as_read fp) d.newest g

-- one fingerprint with room: an entry is drawn, and it is inserted
pub holds_one : (c : Class) (u : Usable) (b : Shares) (reg : Register) (k : Book) (d : Dumped) (fp : ℕ) (ring : Ring) (ps : List Place) (n : ℕ)
    → draw_test b k.limits k.closed (Restored c) (second_of d.bucket u.bucket) ps ≡ Granted
    → make_room u.slots d.bucket (as_read fp) ring ≡ At (d.bucket % length ring)
    → hold_one u b c d fp (holding c reg k ring ps n)
    ≡ holding c reg k (with_generation ring d.bucket (inserted_one d fp (generation_at ring d.bucket)))
    (enter b (Restored c) (second_of d.bucket u.bucket) ps) (suc n)
unfolding hold_one hold_room draw_says drawn class_of strike
holds_one Feeders u b reg k d fp ring ps n g m = rw (g, m)
holds_one Peers u b reg k d fp ring ps n g m = rw (g, m)
holds_one Own u b reg k d fp ring ps n g m = rw (g, m)
