-- A restore that comes out Partly raises the floor (specs/PartlyRaises): to the newest stamp of one of the dump's generations, and to that
-- of what the register had of its bucket. Assumes nothing.
use Prim.Native.Nat.{ℕ, ◌+◌, ◌≤◌, ◌<◌}
use native.Mathlib.Omega.{arith}
use mathlib.Core.Path.{◌≡◌, refl, sym, ◌∙◌, ap, subst}
use mathlib.Core.Bool.{Bool, true, false, cond}
use mathlib.Core.List.{List, [], ◌∷◌}
use Rattle.std.specs.Prelude.{Option, Some, None}
use lib.Dec.{eqb}
use lib.Seq.{get_or-set_same}
use borrow.Author.Tests.{eqb-false, eq-eqb, leb-false}
use Rattle.model.specs.Answer.{Whole, Partly}
use Rattle.model.specs.declared.Class.{Class}
use Rattle.model.specs.declared.Class.TheVariants.{Feeders, Peers, Own}
use Rattle.model.specs.declared.Settings.{Settings}
use Rattle.model.specs.declared.Shares.{Shares}
use Rattle.model.specs.declared.Usable.{Usable}
use Rattle.runs.proofs.Cases.{by_test, no}
use Rattle.model.specs.Settings.{settings_of, settings_fit, usable_at, ring_of}
use Rattle.model.specs.Class.{pick}
use Rattle.model.specs.Generation.{count, among}
use Rattle.model.specs.Book.{Book}
use Rattle.model.specs.Register.{Register, generation_at}
use Rattle.model.specs.Dump.{Dumped, Dump, OneOf, first, further, read_dump, Holding, Restoring, begun, tried, settled, restore_class, restore}
use Rattle.model.specs.Words.{State, state_form}
use Rattle.model.specs.Codes.{went_through}
use Rattle.model.specs.Calls.{Call, On, Restore, Floor, no_register, register_at, bytes_read, after_restored, restored, done_on, step, is_open, no_such_register, held_in, refused, reply, after}
use Rattle.model.specs.Misreadings.{NoLower}
use Rattle.model.specs.Floors.{AtLeast}
use Rattle.model.specs.PartlyRaises.{had, PartlyRaises}
use Rattle.model.proofs.Choice.{or_left, or_right, true_false}
use Rattle.model.proofs.Struck.{Safe, is_in, is_under, seen_in}
use Rattle.model.proofs.Growth.{ok_ways}
use Rattle.model.proofs.Bounds.{ring_positive, slots_small, fit_shares, fit_usable}
use Rattle.model.proofs.RingsKept.{RingOk, at_ok}
use Rattle.model.proofs.BookKept.{pairs_some}
use Rattle.model.proofs.SoundnessKept.{there, book_in, register_in}
use Rattle.model.proofs.Simulates.{entered, fit_settings, vetted_ok, reply_is, after_vetted, after_holds, through_zero}
use Rattle.model.proofs.FloorLaws.{lower, under_stands, settled_stands, class_stands}
use Rattle.model.proofs.Floors.{stands_told}
use Rattle.model.proofs.FloorCovers.{failed_covers}
use Rattle.model.proofs.RestoreKept.{Fine, all_fine, settled_fine}
use Rattle.model.proofs.RestoreStruck.{begun_fine, at_first, after_feeders, after_peers, first_fine, feeders_fine, peers_fine, all_safe, settled_safe, class_safe, raised_safe}

-- ---- a restore that comes out Partly: one of the dump's generations failed. What was struck in its bucket and class is below the floor
record ClassBlame (c : Class) (ds : List Dumped) (was reg : Register) : Type 0 where
  failed : Dumped
  its : OneOf failed ds
  floor : NoLower failed.newest reg.floor
  struck : (fp t : ℕ) → 0 < fp → Safe failed.bucket fp t (seen_in c was) → NoLower t reg.floor

record Blame (d : Dump) (was reg : Register) : Type 0 where
  class : Class
  failed : Dumped
  its : OneOf failed (pick class d.classes)
  floor : NoLower failed.newest reg.floor
  struck : (fp t : ℕ) → 0 < fp → Safe failed.bucket fp t (seen_in class was) → NoLower t reg.floor

module _ (u : Usable) (b : Shares) where
  settled_whole : (c : Class) (d : Dumped) (whole : Bool) (h : Holding) → h.fits ≡ true → (settled u c d whole h).whole ≡ whole
  unfolding settled
  settled_whole c d whole h e = rw e

  failed_past : (c : Class) (d : Dumped) (whole : Bool) (h : Holding) (fp t : ℕ) → h.fits ≡ false → Safe d.bucket fp t (seen_in c h.register)
      → NoLower t (settled u c d whole h).register.floor
  failed_past c d whole h fp t e (is_in k) = lower t _ _ k.as_new ((failed_covers u b c d whole h e).of_the_dropped k.of_bucket)
  failed_past c d whole h fp t e (is_under p) = settled_stands u b t c d whole h (under_stands t h.register.floor p)

  module _ (small : u.slots ≤ 1_024) (some_pairs : 1 ≤ b.pairs) where
    class_blame : (c : Class) (ds : List Dumped) (r : Restoring) → Fine u b r.register r.book → r.whole ≡ true
        → (restore_class u b c ds r).whole ≡ false → ClassBlame c ds r.register (restore_class u b c ds r).register
    unfolding restore_class
    class_blame c [] r ok w p = true_false w p
    class_blame c (d ∷ ds) r ok w p =
        let h = tried u b c d r in
        let start = begun_fine u b small some_pairs r ok in
        by_test h.fits
        (λ e. let fine = settled_fine u b small some_pairs c d r.whole h (all_fine u b small some_pairs c d d.prints (begun r) start) in
        let k = class_blame c ds (settled u c d r.whole h) fine (settled_whole c d r.whole h e ∙ w) p in
        record {
          failed = k.failed;
          its = further k.its;
          floor = k.floor;
          struck = λ fp t pos s.
              k.struck fp t pos (settled_safe u b small some_pairs k.failed.bucket fp t pos c c d r.whole h
              (all_safe u b small some_pairs k.failed.bucket fp t pos c c d d.prints (begun r) start s));
        })
        (λ e. record {
          failed = d;
          its = first;
          floor = class_stands u b d.newest c ds _ (failed_covers u b c d r.whole h e).of_the_dump;
          struck = λ fp t pos s.
              class_stands u b t c ds _
              (failed_past c d r.whole h fp t e (all_safe u b small some_pairs d.bucket fp t pos c c d d.prints (begun r) start s));
        })

    module _ (d : Dump) (reg : Register) (k : Book) (ok : Fine u b reg k) where
      abbrev r₀ : Restoring
      r₀ = at_first u b small some_pairs d reg k

      abbrev r₁ : Restoring
      r₁ = after_feeders u b small some_pairs d reg k

      abbrev r₂ : Restoring
      r₂ = after_peers u b small some_pairs d reg k

      feeders_blame : r₁.whole ≡ false → Blame d reg (restore u b d reg k).register
      unfolding restore
      feeders_blame e =
          let x = class_blame Feeders d.classes.of_feeders r₀ (first_fine u b small some_pairs d reg k ok) refl e in
          record {
            class = Feeders;
            failed = x.failed;
            its = x.its;
            floor = class_stands u b _ Own d.classes.of_own r₂ (class_stands u b _ Peers d.classes.of_peers r₁ x.floor);
            struck = λ fp t pos s.
                class_stands u b t Own d.classes.of_own r₂ (class_stands u b t Peers d.classes.of_peers r₁
                (x.struck fp t pos (raised_safe u b small some_pairs x.failed.bucket fp t pos Feeders d.floor reg s)));
          }

      peers_blame : r₁.whole ≡ true → r₂.whole ≡ false → Blame d reg (restore u b d reg k).register
      unfolding restore
      peers_blame w e =
          let x = class_blame Peers d.classes.of_peers r₁ (feeders_fine u b small some_pairs d reg k ok) w e in
          record {
            class = Peers;
            failed = x.failed;
            its = x.its;
            floor = class_stands u b _ Own d.classes.of_own r₂ x.floor;
            struck = λ fp t pos s.
                class_stands u b t Own d.classes.of_own r₂ (x.struck fp t pos
                (class_safe u b small some_pairs x.failed.bucket fp t pos Peers Feeders d.classes.of_feeders r₀ (first_fine u b small some_pairs d reg k ok)
                (raised_safe u b small some_pairs x.failed.bucket fp t pos Peers d.floor reg s)));
          }

      own_blame : r₂.whole ≡ true → (restore u b d reg k).whole ≡ false → Blame d reg (restore u b d reg k).register
      unfolding restore
      own_blame w e =
          let x = class_blame Own d.classes.of_own r₂ (peers_fine u b small some_pairs d reg k ok) w e in
          record {
            class = Own;
            failed = x.failed;
            its = x.its;
            floor = x.floor;
            struck = λ fp t pos s.
                x.struck fp t pos
                (class_safe u b small some_pairs x.failed.bucket fp t pos Own Peers d.classes.of_peers r₁ (feeders_fine u b small some_pairs d reg k ok)
                (class_safe u b small some_pairs x.failed.bucket fp t pos Own Feeders d.classes.of_feeders r₀ (first_fine u b small some_pairs d reg k ok)
                (raised_safe u b small some_pairs x.failed.bucket fp t pos Own d.floor reg s)));
          }

      restore_blame : (restore u b d reg k).whole ≡ false → Blame d reg (restore u b d reg k).register
      restore_blame p = by_test r₁.whole (λ e. by_test r₂.whole (λ f. own_blame f p) (λ f. peers_blame e f)) feeders_blame

-- ---- a generation that holds something holds a fingerprint
record Holds (s : List ℕ) : Type 0 where
  print : ℕ
  some : 0 < print
  held : among print s ≡ true

holds_one : (s : List ℕ) → 0 < count s → Holds s
unfolding count among
holds_one [] h = absurd (omega arith)
holds_one (x ∷ xs) h =
    by_test (eqb x 0)
    (λ e. let n : 0 < 0 + count xs = rw e at h in
    let k = holds_one xs (omega arith) in record { print = k.print; some = k.some; held = or_right (eqb k.print x) (among k.print xs) k.held })
    (λ e. let z = eqb-false x 0 e in record { print = x; some = omega arith; held = or_left (eqb x x) (among x xs) (eq-eqb x x refl) })

-- the floor is at least the newest stamp of what the register had
had_below : (u : Usable) (d : Dump) (was reg : Register) (k : Blame d was reg) → RingOk u (pick k.class was.rings)
    → (generation_at (pick k.class was.rings) k.failed.bucket).bucket ≡ k.failed.bucket
    → NoLower (generation_at (pick k.class was.rings) k.failed.bucket).newest reg.floor
had_below u d was reg k ok e =
    let ring = pick k.class was.rings in
    let g = generation_at ring k.failed.bucket in
    ok_ways u.slots (ring_of u) _ g (at_ok u.slots (ring_of u) ring k.failed.bucket (ring_positive u) ok)
    (λ none zero. lower g.newest k.failed.newest _ (omega arith) k.floor)
    (λ power some few position reached. let one = holds_one g.slots (omega arith) in
    k.struck one.print g.newest one.some (is_in (record { of_bucket = e; holds_it = one.held; as_new = omega arith })))

-- ---- on a state
said_partly : (w : Bool) (m n : ℕ) → cond w (Whole m) (Partly m) ≡ Partly n → w ≡ false
said_partly true m n e = no (cc)
said_partly false m n e = refl

record BlameIn (r : ℕ) (o : Option Dump) (was t : State) : Type 0 where
  dump : Dump
  read : o ≡ Some dump
  blame : Blame dump (register_at r was) (register_at r t)

restored_blame : (s : Settings) (r : ℕ) (t : State) (o : Option Dump) (n : ℕ) → settings_fit s ≡ true → r < s.registers → (state_form s).Ok t
    → (restored s r t o).answer ≡ Partly n → BlameIn r o t (restored s r t o).state
unfolding restored after_restored
restored_blame s r t None n fit low ok e = no (cc)
restored_blame s r t (Some d) n fit low ok e =
    let u = usable_at s r in
    let w = restore u s.shares d (register_at r t) t.book in
    record {
      dump = d;
      read = refl;
      blame = subst (λ (x : Register). Blame d (register_at r t) x) (sym (get_or-set_same t.registers r w.register no_register (there s r t ok low)))
          (restore_blame u s.shares (slots_small u (fit_usable s r fit low)) (pairs_some s.shares (fit_shares s fit)) d (register_at r t) t.book
          (record { register = register_in s r t low ok; book = book_in s t ok }) (said_partly w.whole (bytes_read d) n e));
    }

-- ---- on words
told_after : (st ws : List ℕ) (call : Call) (r f : ℕ) → refused st ws call ≡ 0 → r < (settings_of st).registers
    → NoLower f (register_at r (step (settings_of st) call (held_in (settings_of st) ws)).state).floor
    → AtLeast f (reply st (after st ws call) (On r Floor))
told_after st ws call r f z low h = stands_told st (after st ws call) r f (record {
  vetted = after_vetted st ws call z;
  there = low;
  floor = subst (λ (y : State). NoLower f (register_at r y).floor) (sym (after_holds st ws call z)) h;
})

pub partly_raises : PartlyRaises
unfolding step done_on is_open no_such_register went_through
partly_raises st ws r bytes n e =
    let call = On r (Restore bytes) in
    let s = settings_of st in
    let z = through_zero st ws call (ap went_through e) in
    let k = entered st ws call z in
    let low = leb-false s.registers r k.register in
    let ok = vetted_ok st ws (record { fit = k.fit; long = k.long; sound = k.vets refl }) in
    let x = restored_blame s r (held_in s ws) (read_dump bytes) n (fit_settings st k.fit) low ok (sym (reply_is st ws call z) ∙ e) in
    record {
      dump = x.dump;
      read = x.read;
      class = x.blame.class;
      failed = x.blame.failed;
      its = x.blame.its;
      of_the_dump = told_after st ws call r x.blame.failed.newest z low x.blame.floor;
      of_the_register = λ same.
          told_after st ws call r (had st ws r x.blame.class x.blame.failed.bucket).newest z low
          (had_below (usable_at s r) x.dump (register_at r (held_in s ws)) _ x.blame ((register_in s r (held_in s ws) low ok).rings x.blame.class) same);
    }
