-- A register's dump, restored into an untouched register with the same settings and enough room: all three classes and the floor.
use mathlib.Core.Path.{◌≡◌, refl, ap, sym, ◌∙◌, subst}
use mathlib.Core.Bool.{true, cond}
use Rattle.std.specs.Prelude.{Option, Some, None}
use Prim.Native.Nat.{ℕ, suc, ◌+◌, ◌-◌, ◌≤◌, min}
use native.Mathlib.Omega.{arith}
use lib.Dec.{eqb}
use lib.ListN.{length, get_or, replicate, length-replicate}
use borrow.Author.Tests.{ne_eqb}
use Rattle.model.specs.declared.Class.{Class}
use Rattle.model.specs.declared.Class.TheVariants.{Feeders, Peers, Own}
use Rattle.model.specs.declared.Start.TheVariants.{Empty}
use Rattle.model.specs.declared.Shares.{Shares}
use Rattle.model.specs.declared.Usable.{Usable}
use Rattle.runs.proofs.Words.{all_same}
use Rattle.model.specs.Numbers.{top64, cap64, raise}
use Rattle.model.specs.Settings.{ring_of}
use Rattle.model.specs.Class.{pick}
use Rattle.model.specs.Generation.{empty}
use Rattle.model.specs.Book.{Book, with_places, places_of}
use Rattle.model.specs.Register.{Ring, Register, started}
use Rattle.model.specs.Dump.{dumped_floor, Restoring, restore_class, raised_to_dumped, restore}
use Rattle.model.specs.RegisterWords.{register_form}
use Rattle.model.specs.RoundTrip.{EnoughRoom, SameGeneration, SameRing, BroughtBack}
use Rattle.model.proofs.DumpRead.{dumped_of, dump_of}
use Rattle.model.proofs.Holding.{with_class}
use Rattle.model.proofs.Restored.{ClassBack, class_back}

-- ---- the floor: what is written as floor and 1 is read as the floor, unless that was the largest
floor_back : (floor : Option ℕ) → ((f : ℕ) → floor ≡ Some f → f ≤ top64) → (floor ≡ Some top64 → ⊥)
    → cond (eqb (dumped_floor floor) 0) None (raise None (dumped_floor floor - 1)) ≡ floor
unfolding dumped_floor raise cap64
floor_back None small other = refl
floor_back (Some f) small other =
    let l = small f refl in
    let d : f ≡ top64 → ⊥ = λ e. other (ap Some e) in
    let s : min (suc f) top64 ≡ suc f = omega (arith, d) in
    let p : suc f - 1 ≡ f = omega arith in
    rw (s, ne_eqb (suc f) 0 (λ z. omega arith), p)

-- ---- the whole register
pub record WholeBack (from : Register) (r : Restoring) : Type 0 where
  pub whole : r.whole ≡ true
  pub back : BroughtBack from r.register

module _ (u : Usable) (b : Shares) (from : Register) (k : Book) (ok : (register_form u).Ok from)
    (small : (f : ℕ) → from.floor ≡ Some f → f ≤ top64) (room : EnoughRoom u b k from.rings) where
  abbrev start : Register
  start = raised_to_dumped (dumped_floor from.floor) (started u Empty)

  abbrev blank : Ring
  blank = replicate (ring_of u) empty

  feeders_back : ClassBack u b Feeders start k room.open_book from.rings.of_feeders 0 blank (places_of Feeders k)
  feeders_back =
      let l = ok.1.0.0 in
      class_back u b Feeders start k room.open_book from.rings.of_feeders 0 (ring_of u) blank (places_of Feeders k) ok.1.0.1
      (length-replicate (ring_of u) empty) (omega arith) (λ j h. all_same (ring_of u) j empty) (room.per_class Feeders)

  -- after one class the others are as they were
  abbrev after_feeders : Register
  after_feeders = with_class Feeders start k feeders_back.ring₁

  abbrev book_after_feeders : Book
  book_after_feeders = with_places Feeders feeders_back.places₁ k

  peers_back : ClassBack u b Peers after_feeders book_after_feeders room.open_book from.rings.of_peers 0 blank (places_of Peers k)
  peers_back =
      let l = ok.1.1.0.0 in
      class_back u b Peers after_feeders book_after_feeders room.open_book from.rings.of_peers 0 (ring_of u) blank (places_of Peers k) ok.1.1.0.1
      (length-replicate (ring_of u) empty) (omega arith) (λ j h. all_same (ring_of u) j empty) (room.per_class Peers)

  abbrev after_peers : Register
  after_peers = with_class Peers after_feeders book_after_feeders peers_back.ring₁

  abbrev book_after_peers : Book
  book_after_peers = with_places Peers peers_back.places₁ book_after_feeders

  own_back : ClassBack u b Own after_peers book_after_peers room.open_book from.rings.of_own 0 blank (places_of Own k)
  own_back =
      let l = ok.1.1.1.0 in
      class_back u b Own after_peers book_after_peers room.open_book from.rings.of_own 0 (ring_of u) blank (places_of Own k) ok.1.1.1.1
      (length-replicate (ring_of u) empty) (omega arith) (λ j h. all_same (ring_of u) j empty) (room.per_class Own)

  restored_is : restore u b (dump_of from) (started u Empty) k
      ≡ record { register = with_class Own after_peers book_after_peers own_back.ring₁; book = with_places Own own_back.places₁ book_after_peers; whole = true }
  unfolding restore raised_to_dumped started
  restored_is =
      ap (λ (r : Restoring). restore_class u b Own (dumped_of from.rings.of_own) (restore_class u b Peers (dumped_of from.rings.of_peers) r)) feeders_back.is
      ∙ ap (restore_class u b Own (dumped_of from.rings.of_own)) peers_back.is ∙ own_back.is

  same_ring : (gs to : Ring) → length gs ≡ ring_of u → length to ≡ length blank
      → ((j : ℕ) → SameGeneration (get_or gs j empty) (get_or to (0 + j) empty)) → SameRing gs to
  same_ring gs to long as_long same = record {
    as_long = as_long ∙ length-replicate (ring_of u) empty ∙ sym long;
    each = λ j. let e : 0 + j ≡ j = omega arith in rw e at (same j);
  }

  rings_back : (c : Class) → SameRing (pick c from.rings) (pick c (with_class Own after_peers book_after_peers own_back.ring₁).rings)
  rings_back Feeders = same_ring from.rings.of_feeders feeders_back.ring₁ ok.1.0.0 feeders_back.long feeders_back.same
  rings_back Peers = same_ring from.rings.of_peers peers_back.ring₁ ok.1.1.0.0 peers_back.long peers_back.same
  rings_back Own = same_ring from.rings.of_own own_back.ring₁ ok.1.1.1.0 own_back.long own_back.same

  raised : (from.floor ≡ Some top64 → ⊥) → start.floor ≡ from.floor
  unfolding raised_to_dumped started
  raised other = floor_back from.floor small other

  pub whole_back : WholeBack from (restore u b (dump_of from) (started u Empty) k)
  whole_back = subst (WholeBack from) (sym restored_is) (record { whole = refl; back = record { rings = rings_back; floor = raised } })
