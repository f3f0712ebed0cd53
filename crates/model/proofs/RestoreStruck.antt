-- What was struck before a restore is struck after it, however it comes out. Assumes nothing.
use Prim.Native.Nat.{ℕ, ◌-◌, ◌%◌, ◌<◌, ◌≤◌}
use native.Mathlib.Omega.{arith}
use mathlib.Core.Path.{◌≡◌, refl, sym, subst}
use mathlib.Core.Bool.{Bool, true, not}
use mathlib.Core.List.{List, [], ◌∷◌}
use Rattle.std.specs.Prelude.{Option}
use lib.Dec.{eqb}
use lib.ListN.{length, get_or}
use borrow.Author.Tests.{eqb-true, eqb-false}
use Rattle.model.specs.declared.Class.{Class}
use Rattle.model.specs.declared.Class.TheVariants.{Feeders, Peers, Own}
use Rattle.model.specs.declared.Deliverer.TheVariants.{Restored}
use Rattle.model.specs.declared.Room.{Room}
use Rattle.model.specs.declared.Room.TheVariants.{At, Collides, Full as NoSlots}
use Rattle.model.specs.declared.Usable.{Usable}
use Rattle.model.specs.declared.Shares.{Shares}
use Rattle.runs.proofs.Cases.{by_test, split_if}
use Rattle.model.specs.Numbers.{under}
use Rattle.model.specs.Class.{pick}
use Rattle.model.specs.Generation.{as_read, empty, dropped}
use Rattle.model.specs.Book.{Book, second_of, granted, draw_says, drawn}
use Rattle.model.specs.Register.{Ring, Register, generation_at}
use Rattle.model.specs.Judge.{make_room}
use Rattle.model.specs.Dump.{Dumped, Dump, Holding, hold_room, hold_one, hold_all, drop_bucket, dropped_newest, failed, Restoring, settled, restore_class, raised_to_dumped, restore}
use Rattle.model.specs.Dump.{begun, tried}
use Rattle.model.proofs.Choice.{swap_cases}
use Rattle.model.proofs.Struck.{In, in_other, Safe, is_in, is_under, Struck, seen_in, struck_on, under_raise, under_raised}
use Rattle.model.proofs.Strike.{safe_strike}
use Rattle.model.proofs.FloorCovers.{goes}
use Rattle.model.proofs.Judging.{read_positive}
use Rattle.model.proofs.RestoreKept.{Fine, one_fine, all_fine, settled_fine, class_fine, dumped_ok}

module _ (u : Usable) (b : Shares) (small : u.slots ≤ 1_024) (some_pairs : 1 ≤ b.pairs) where
  -- ---- where one generation's restore begins
  pub begun_fine : (r : Restoring) → Fine u b r.register r.book → Fine u b (begun r).register (begun r).book
  begun_fine r ok = record { register = ok.register; book = ok.book }

  -- ---- a restore class by class: well formed at first, and after Feeders and Peers
  module _ (d : Dump) (reg : Register) (k : Book) where
    abbrev pub at_first : Restoring
    at_first = record { register = raised_to_dumped d.floor reg; book = k; whole = true }

    abbrev pub after_feeders : Restoring
    after_feeders = restore_class u b Feeders d.classes.of_feeders at_first

    abbrev pub after_peers : Restoring
    after_peers = restore_class u b Peers d.classes.of_peers after_feeders

    module _ (ok : Fine u b reg k) where
      pub first_fine : Fine u b at_first.register at_first.book
      first_fine = record { register = dumped_ok u b small some_pairs d.floor reg ok.register; book = ok.book }

      pub feeders_fine : Fine u b after_feeders.register after_feeders.book
      feeders_fine = class_fine u b small some_pairs Feeders d.classes.of_feeders at_first first_fine

      pub peers_fine : Fine u b after_peers.register after_peers.book
      peers_fine = class_fine u b small some_pairs Peers d.classes.of_peers after_feeders feeders_fine

  -- ---- a ticket that was struck, in class e
  module _ (x fp t : ℕ) (pos : 0 < fp) where
    module _ (e : Class) where
      abbrev pub Stays : Register → Type 0
      Stays reg = Safe x fp t (seen_in e reg)

      -- one fingerprint, and all of one generation
      module _ (c : Class) (d : Dumped) where
        room_safe : (p : ℕ) (h : Holding) (k : Book) (m : Room) → make_room u.slots d.bucket (as_read p) (pick c h.register.rings) ≡ m
            → Fine u b h.register h.book → Stays h.register → Stays (hold_room c d p h k m).register
        unfolding hold_room
        room_safe p h k (At i) r ok s =
            safe_strike u x fp t d.bucket (as_read p) d.newest i c e h.register pos (read_positive p) ok.register r s
        room_safe p h k Collides r ok s = s
        room_safe p h k NoSlots r ok s = s

        one_safe : (p : ℕ) (h : Holding) → Fine u b h.register h.book → Stays h.register → Stays (hold_one u b c d p h).register
        unfolding hold_one
        one_safe p h ok s =
            let second = second_of d.bucket u.bucket in
            split_if (λ (y : Holding). Stays y.register) (not h.fits) (λ f. s)
            (λ f. split_if (λ (y : Holding). Stays y.register) (granted (draw_says b (Restored c) second h.book))
            (λ g. room_safe p h (drawn b (Restored c) second h.book) _ refl ok s) (λ g. s))

        pub all_safe : (ps : List ℕ) (h : Holding) → Fine u b h.register h.book → Stays h.register → Stays (hold_all u b c d ps h).register
        unfolding hold_all
        all_safe [] h ok s = s
        all_safe (p ∷ ps) h ok s = all_safe ps (hold_one u b c d p h) (one_fine u b small some_pairs c d p h ok) (one_safe p h ok s)

      -- a generation that failed: what goes with its bucket is at or below the floor
      ring_safe : (q : ℕ) (ring : Ring) (f : Option ℕ) → ((n : ℕ) → n ≤ dropped_newest q ring → under n f ≡ true) → In x fp t ring
          → Safe x fp t (record { floor = f; ring = drop_bucket q ring })
      unfolding drop_bucket
      ring_safe q ring f below h =
          let n = length ring in
          let g = generation_at ring q in
          split_if (λ (r : Ring). Safe x fp t (record { floor = f; ring = r })) (eqb g.bucket q)
          (λ e. by_test (eqb (x % n) (q % n))
          (λ same. let k = subst (λ (i : ℕ). t ≤ (get_or ring i empty).newest) (eqb-true (x % n) (q % n) same) h.as_new in
          is_under (below t (omega (arith, goes q ring (eqb-true g.bucket q e)))))
          (λ other. is_in (in_other x fp t (q % n) ring (dropped g) (eqb-false (x % n) (q % n) other) h)))
          (λ e. is_in h)

      failed_safe : (c : Class) (d : Dumped) (reg : Register) → Stays reg → Stays (failed c d reg)
      unfolding failed
      failed_safe c d reg (is_under p) = is_under (under_raise t _ reg.floor p)
      failed_safe c d reg (is_in h) =
          let ring = pick c reg.rings in
          swap_cases (λ (r : Ring). Safe x fp t (record { floor = (failed c d reg).floor; ring = r })) c e (drop_bucket d.bucket ring) reg.rings
          (λ i. ring_safe d.bucket ring (failed c d reg).floor (λ n k. under_raised n _ reg.floor (omega (arith, k)))
          (subst (λ (k : Class). In x fp t (pick k reg.rings)) (sym i) h)) (is_in h)

      pub settled_safe : (c : Class) (d : Dumped) (whole : Bool) (h : Holding) → Stays h.register → Stays (settled u c d whole h).register
      unfolding settled
      settled_safe c d whole h s =
          split_if (λ (y : Restoring). Stays y.register) h.fits (λ f. s) (λ f. failed_safe c d h.register s)

      -- all generations of a class
      pub class_safe : (c : Class) (ds : List Dumped) (r : Restoring) → Fine u b r.register r.book → Stays r.register
          → Stays (restore_class u b c ds r).register
      unfolding restore_class
      class_safe c [] r ok s = s
      class_safe c (d ∷ ds) r ok s =
          let fine = begun_fine r ok in
          class_safe c ds (settled u c d r.whole (tried u b c d r))
          (settled_fine u b small some_pairs c d r.whole (tried u b c d r) (all_fine u b small some_pairs c d d.prints (begun r) fine))
          (settled_safe c d r.whole (tried u b c d r) (all_safe c d d.prints (begun r) fine s))

      pub raised_safe : (n : ℕ) (reg : Register) → Stays reg → Stays (raised_to_dumped n reg)
      unfolding raised_to_dumped
      raised_safe n reg (is_in h) = is_in h
      raised_safe n reg (is_under p) =
          is_under (split_if (λ (f : Option ℕ). under t f ≡ true) (eqb n 0) (λ f. p) (λ f. under_raise t (n - 1) reg.floor p))

      module _ (d : Dump) (reg : Register) (k : Book) (ok : Fine u b reg k) where
        -- what the first two classes left, through the others
        pub through_own : Stays (after_peers d reg k).register → Stays (restore u b d reg k).register
        unfolding restore
        through_own s = class_safe Own d.classes.of_own (after_peers d reg k) (peers_fine d reg k ok) s

        pub through_peers : Stays (after_feeders d reg k).register → Stays (restore u b d reg k).register
        through_peers s = through_own (class_safe Peers d.classes.of_peers (after_feeders d reg k) (feeders_fine d reg k ok) s)

        restore_safe : Stays reg → Stays (restore u b d reg k).register
        restore_safe s = through_peers (class_safe Feeders d.classes.of_feeders (at_first d reg k) (first_fine d reg k ok) (raised_safe d.floor reg s))

    pub restore_struck : (d : Dump) (reg : Register) (k : Book) → Fine u b reg k → Struck x fp t reg → Struck x fp t (restore u b d reg k).register
    restore_struck d reg k ok s = struck_on x fp t reg _ (λ e. restore_safe e d reg k ok) s
