-- Whatever a call does to the book while the limits stay, any one holder of a class keeps within T units and any two within T and half
-- of it: draws, draws given back, expiry, closing, restore and resume. Restored and Relay are held to T by the rule that grants them.
use mathlib.Core.Path.{◌≡◌, subst}
use mathlib.Core.Bool.{true, not}
use mathlib.Core.List.{List, [], ◌∷◌}
use Rattle.std.specs.Prelude.{Option}
use Prim.Native.Nat.{ℕ, zero, suc}
use Rattle.model.specs.declared.Class.{Class}
use Rattle.model.specs.declared.Class.TheVariants.{Feeders, Peers, Own}
use Rattle.model.specs.declared.Deliverer.{Deliverer}
use Rattle.model.specs.declared.Deliverer.TheVariants.{Restored}
use Rattle.model.specs.declared.Verdict.{Verdict}
use Rattle.model.specs.declared.Verdict.TheVariants.{New, Duplicate, Late, Ahead, Full, Unjudged}
use Rattle.model.specs.declared.Room.{Room}
use Rattle.model.specs.declared.Room.TheVariants.{At, Collides, Full as NoSlots}
use Rattle.model.specs.declared.Shares.{Shares}
use Rattle.model.specs.declared.Limits.{Limits}
use Rattle.model.specs.declared.Usable.{Usable}
use Rattle.runs.proofs.Cases.{split_if}
use Rattle.model.specs.Numbers.{cap32, ceil}
use Rattle.model.specs.Class.{class_of, pick}
use Rattle.model.specs.Generation.{as_read}
use Rattle.model.specs.Book.{Place, Held, Book, together, second_of, granted, enter, give_back, expire, places_of, with_places, draw_says, drawn, undrawn, opened_book, closed_book, with_limits}
use Rattle.model.specs.Register.{Register}
use Rattle.model.specs.Judge.{Ask, bucket_of, judge, judge_batch, make_room, Taken, take_room, take_share, take_judged, take, take_batch}
use Rattle.model.specs.Dump.{Dumped, Dump, Holding, hold_room, hold_one, hold_all, undrawn_all, Restoring, settled, restore_class, restore, resume}
use Rattle.model.proofs.Choice.{swap_cases}
use Rattle.model.proofs.Units.{Shared, shrunk_shared}
use Rattle.model.proofs.Sharing.{each_units, draw_shared, drops, class_expires}

abbrev pub Bounded : Shares → Book → Type 0
Bounded b k = (c : Class) → Shared (together k.limits c) (each_units b (places_of c k))

pub opened_bounded : (b : Shares) (l : Limits) → Bounded b (opened_book l)
unfolding opened_book
opened_bounded b l Feeders = tt
opened_bounded b l Peers = tt
opened_bounded b l Own = tt

module _ (b : Shares) where
  placed : (c : Class) (ps : List Place) (k : Book) → Bounded b k → Shared (together k.limits c) (each_units b ps) → Bounded b (with_places c ps k)
  placed c ps k h p d =
      swap_cases (λ (x : Held). Shared (together k.limits d) (each_units b x.places)) c d
      (record { places = ps; expired = (pick c k.classes).expired }) k.classes
      (λ e. subst (λ (x : Class). Shared (together k.limits x) (each_units b ps)) e p) (h d)

  drawn_bounded : (who : Deliverer) (s : ℕ) (k : Book) → granted (draw_says b who s k) ≡ true → Bounded b k → Bounded b (drawn b who s k)
  unfolding drawn draw_says
  drawn_bounded who s k g h =
      let c = class_of who in
      placed c (enter b who s (places_of c k)) k h (draw_shared b k.limits k.closed who s (places_of c k) g (h c))

  undrawn_bounded : (who : Deliverer) (s : ℕ) (k : Book) → Bounded b k → Bounded b (undrawn who s k)
  unfolding undrawn
  undrawn_bounded who s k h =
      let c = class_of who in
      placed c (give_back who s (places_of c k)) k h (shrunk_shared (together k.limits c) (drops b who s (places_of c k)) (h c))

  pub expire_bounded : (ms : ℕ) (k : Book) → Bounded b k → Bounded b (expire ms k)
  unfolding expire
  expire_bounded ms k h Feeders =
      shrunk_shared (together k.limits Feeders) (class_expires b (cap32 (ceil ms 1_000)) k.classes.of_feeders) (h Feeders)
  expire_bounded ms k h Peers =
      shrunk_shared (together k.limits Peers) (class_expires b (cap32 (ceil ms 1_000)) k.classes.of_peers) (h Peers)
  expire_bounded ms k h Own =
      shrunk_shared (together k.limits Own) (class_expires b (cap32 (ceil ms 1_000)) k.classes.of_own) (h Own)

  pub closed_bounded : (k : Book) → Bounded b k → Bounded b (closed_book k)
  unfolding closed_book
  closed_bounded k h c = h c

  -- a limit change that leaves the five as they are
  pub limits_bounded : (l : Limits) (k : Book) → l ≡ k.limits → Bounded b k → Bounded b (with_limits l k)
  unfolding with_limits
  limits_bounded l k e h c = rw e (h c)

  -- ---- take
  module _ (u : Usable) (a : Ask) (reg : Register) where
    abbrev second : ℕ
    second = second_of (bucket_of u a.stamp) u.bucket

    room_bounded : (k : Book) (m : Room) → granted (draw_says b a.who second k) ≡ true → Bounded b k → Bounded b (take_room u b a reg k m).book
    unfolding take_room
    room_bounded k (At i) g h = drawn_bounded a.who second k g h
    room_bounded k Collides g h = h
    room_bounded k NoSlots g h = h

    share_bounded : (k : Book) → Bounded b k → Bounded b (take_share u b a reg k).book
    unfolding take_share
    share_bounded k h =
        let m = make_room u.slots (bucket_of u a.stamp) (as_read a.fp) (pick (class_of a.who) reg.rings) in
        split_if (λ (x : Taken). Bounded b x.book) (granted (draw_says b a.who second k)) (λ g. room_bounded k m g h) (λ g. h)

    judged_bounded : (k : Book) (v : Verdict) → Bounded b k → Bounded b (take_judged u b a k reg v).book
    unfolding take_judged
    judged_bounded k New h = share_bounded k h
    judged_bounded k Duplicate h = h
    judged_bounded k Late h = h
    judged_bounded k Ahead h = h
    judged_bounded k Full h = h
    judged_bounded k Unjudged h = h

  pub take_bounded : (u : Usable) (reg : Register) (k : Book) (a : Ask) → Bounded b k → Bounded b (take u b reg k a).book
  unfolding take
  take_bounded u reg k a h = judged_bounded u a (judge u reg a).register k (judge u reg a).says h

  pub take_batch_bounded : (u : Usable) (reg : Register) (k : Book) (a : Ask) → Bounded b k → Bounded b (take_batch u b reg k a).book
  unfolding take_batch
  take_batch_bounded u reg k a h = judged_bounded u a (judge_batch u reg a).register k (judge_batch u reg a).says h

  -- ---- restore and resume
  module _ (u : Usable) where
    hold_bounded : (c : Class) (d : Dumped) (fp : ℕ) (w : Holding) (k : Book) (m : Room) → Bounded b k → Bounded b (hold_room c d fp w k m).book
    unfolding hold_room
    hold_bounded c d fp w k (At i) h = h
    hold_bounded c d fp w k Collides h = h
    hold_bounded c d fp w k NoSlots h = h

    one_bounded : (c : Class) (d : Dumped) (fp : ℕ) (w : Holding) → Bounded b w.book → Bounded b (hold_one u b c d fp w).book
    unfolding hold_one
    one_bounded c d fp w h =
        let s = second_of d.bucket u.bucket in
        let m = make_room u.slots d.bucket (as_read fp) (pick c w.register.rings) in
        split_if (λ (x : Holding). Bounded b x.book) (not w.fits) (λ e. h)
        (λ e. split_if (λ (x : Holding). Bounded b x.book) (granted (draw_says b (Restored c) s w.book))
        (λ g. hold_bounded c d fp w (drawn b (Restored c) s w.book) m (drawn_bounded (Restored c) s w.book g h)) (λ g. h))

    all_bounded : (c : Class) (d : Dumped) (fps : List ℕ) (w : Holding) → Bounded b w.book → Bounded b (hold_all u b c d fps w).book
    unfolding hold_all
    all_bounded c d [] w h = h
    all_bounded c d (fp ∷ fps) w h = all_bounded c d fps (hold_one u b c d fp w) (one_bounded c d fp w h)

    backs_bounded : (n : ℕ) (who : Deliverer) (s : ℕ) (k : Book) → Bounded b k → Bounded b (undrawn_all n who s k)
    unfolding undrawn_all
    backs_bounded zero who s k h = h
    backs_bounded (suc n) who s k h = backs_bounded n who s (undrawn who s k) (undrawn_bounded who s k h)

    class_bounded : (c : Class) (ds : List Dumped) (r : Restoring) → Bounded b r.book → Bounded b (restore_class u b c ds r).book
    unfolding restore_class settled
    class_bounded c [] r h = h
    class_bounded c (d ∷ ds) r h =
        let w = hold_all u b c d d.prints (record { register = r.register; book = r.book; draws = 0; fits = true }) in
        let k : Bounded b w.book = all_bounded c d d.prints (record { register = r.register; book = r.book; draws = 0; fits = true }) h in
        class_bounded c ds (settled u c d r.whole w)
        (split_if (λ (x : Restoring). Bounded b x.book) w.fits (λ e. k)
        (λ e. backs_bounded w.draws (Restored c) (second_of d.bucket u.bucket) w.book k))

    pub restore_bounded : (d : Dump) (reg : Register) (k : Book) → Bounded b k → Bounded b (restore u b d reg k).book
    unfolding restore
    restore_bounded d reg k h =
        class_bounded Own d.classes.of_own _ (class_bounded Peers d.classes.of_peers _ (class_bounded Feeders d.classes.of_feeders _ h))

    pub resume_bounded : (d : Dump) (p : Option ℕ) (reg : Register) (k : Book) → Bounded b k → Bounded b (resume u b d p reg k).book
    unfolding resume
    resume_bounded d p reg k h = restore_bounded d _ k h
