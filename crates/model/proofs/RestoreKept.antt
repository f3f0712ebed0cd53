-- A restore or a resume leaves register and book well formed, whatever the dump says. Assumes nothing.
use Prim.Native.Nat.{ℕ, zero, suc, ◌≤◌}
use mathlib.Core.Path.{◌≡◌, refl}
use mathlib.Core.Bool.{Bool, true, not}
use mathlib.Core.List.{List, [], ◌∷◌}
use Rattle.std.specs.Prelude.{Option, Some, None}
use Rattle.model.specs.declared.Class.{Class}
use Rattle.model.specs.declared.Class.TheVariants.{Feeders, Peers, Own}
use Rattle.model.specs.declared.Deliverer.{Deliverer}
use Rattle.model.specs.declared.Deliverer.TheVariants.{Restored}
use Rattle.model.specs.declared.Room.{Room}
use Rattle.model.specs.declared.Room.TheVariants.{At, Collides, Full as NoSlots}
use Rattle.model.specs.declared.Usable.{Usable}
use Rattle.model.specs.declared.Shares.{Shares}
use Rattle.runs.proofs.Cases.{split_if}
use Rattle.model.specs.Class.{pick}
use Rattle.model.specs.Generation.{as_read}
use Rattle.model.specs.Book.{Book, second_of, granted, draw_says, drawn, undrawn}
use Rattle.model.specs.Register.{Register, with_floor}
use Rattle.model.specs.Judge.{make_room}
use Rattle.model.specs.Dump.{Dumped, Dump, Holding, hold_room, hold_one, hold_all, undrawn_all, Restoring, settled, restore_class, raised_to_dumped, restore, raised_to_proven, resume}
use Rattle.model.proofs.RingsKept.{RegisterOk, strike_ok, failed_ok, floor_ok}
use Rattle.model.proofs.BookKept.{BookOk, second_short, drawn_ok, undrawn_ok}
use Rattle.model.proofs.Judging.{read_positive}

-- both are well formed
pub record Fine (u : Usable) (b : Shares) (reg : Register) (k : Book) : Type 0 where
  pub register : RegisterOk u reg
  pub book : BookOk b k

module _ (u : Usable) (b : Shares) (small : u.slots ≤ 1_024) (some_pairs : 1 ≤ b.pairs) where
  -- ---- one fingerprint, and all of one generation
  module _ (c : Class) (d : Dumped) where
    abbrev Held : Holding → Type 0
    Held h = Fine u b h.register h.book

    room_fine : (fp : ℕ) (h : Holding) (k : Book) (m : Room) → make_room u.slots d.bucket (as_read fp) (pick c h.register.rings) ≡ m
        → BookOk b k → Held h → Held (hold_room c d fp h k m)
    unfolding hold_room
    room_fine fp h k (At i) r new ok = record {
      register = strike_ok u c d.bucket (as_read fp) d.newest i h.register small (read_positive fp) r ok.register;
      book = new;
    }
    room_fine fp h k Collides r new ok = record { register = ok.register; book = new }
    room_fine fp h k NoSlots r new ok = record { register = ok.register; book = new }

    pub one_fine : (fp : ℕ) (h : Holding) → Held h → Held (hold_one u b c d fp h)
    unfolding hold_one
    one_fine fp h ok =
        let s = second_of d.bucket u.bucket in
        split_if Held (not h.fits) (λ e. ok)
        (λ e. split_if Held (granted (draw_says b (Restored c) s h.book))
        (λ g. room_fine fp h (drawn b (Restored c) s h.book) _ refl
        (drawn_ok b (Restored c) s h.book some_pairs (second_short d.bucket u.bucket) g ok.book) ok)
        (λ g. record { register = ok.register; book = ok.book }))

    pub all_fine : (fps : List ℕ) (h : Holding) → Held h → Held (hold_all u b c d fps h)
    unfolding hold_all
    all_fine [] h ok = ok
    all_fine (fp ∷ fps) h ok = all_fine fps (hold_one u b c d fp h) (one_fine fp h ok)

  returned_fine : (n : ℕ) (who : Deliverer) (s : ℕ) (k : Book) → BookOk b k → BookOk b (undrawn_all n who s k)
  unfolding undrawn_all
  returned_fine zero who s k ok = ok
  returned_fine (suc n) who s k ok = returned_fine n who s (undrawn who s k) (undrawn_ok b who s k ok)

  -- ---- all generations of a class, and all classes
  abbrev Whole : Restoring → Type 0
  Whole r = Fine u b r.register r.book

  pub settled_fine : (c : Class) (d : Dumped) (whole : Bool) (h : Holding) → Fine u b h.register h.book → Whole (settled u c d whole h)
  unfolding settled
  settled_fine c d whole h ok =
      split_if Whole h.fits (λ e. record { register = ok.register; book = ok.book })
      (λ e. record { register = failed_ok u c d h.register ok.register; book = returned_fine h.draws (Restored c) _ h.book ok.book })

  pub class_fine : (c : Class) (ds : List Dumped) (r : Restoring) → Whole r → Whole (restore_class u b c ds r)
  unfolding restore_class
  class_fine c [] r ok = ok
  class_fine c (d ∷ ds) r ok =
      let start : Holding = record { register = r.register; book = r.book; draws = 0; fits = true } in
      class_fine c ds _ (settled_fine c d r.whole (hold_all u b c d d.prints start) (all_fine c d d.prints start (record { register = ok.register; book = ok.book })))

  pub dumped_ok : (n : ℕ) (reg : Register) → RegisterOk u reg → RegisterOk u (raised_to_dumped n reg)
  unfolding raised_to_dumped
  dumped_ok n reg ok = floor_ok u _ reg ok

  pub restore_fine : (d : Dump) (reg : Register) (k : Book) → Fine u b reg k → Whole (restore u b d reg k)
  unfolding restore
  restore_fine d reg k ok =
      class_fine Own d.classes.of_own _ (class_fine Peers d.classes.of_peers _ (class_fine Feeders d.classes.of_feeders _
      (record { register = dumped_ok d.floor reg ok.register; book = ok.book })))

  proven_fine : (p : Option ℕ) (reg : Register) → RegisterOk u reg → RegisterOk u (raised_to_proven p reg)
  unfolding raised_to_proven
  proven_fine None reg ok = ok
  proven_fine (Some f) reg ok = floor_ok u _ reg ok

  pub resume_fine : (d : Dump) (p : Option ℕ) (reg : Register) (k : Book) → Fine u b reg k → Whole (resume u b d p reg k)
  unfolding resume
  resume_fine d p reg k ok =
      let r = restore_fine d (with_floor None reg) k (record { register = floor_ok u None reg ok.register; book = ok.book }) in
      record { register = proven_fine p _ r.register; book = r.book }
