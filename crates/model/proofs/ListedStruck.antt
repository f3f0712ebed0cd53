-- What a dump lists is struck once it is restored (specs/ListedStruck): a fingerprint is held under its generation's newest stamp, or its
-- generation failed and the floor is at or past that stamp. Assumes nothing.
use Prim.Native.Nat.{ℕ, ◌≤◌, ◌<◌}
use native.Mathlib.Omega.{arith}
use mathlib.Core.Path.{◌≡◌, refl, sym, subst}
use mathlib.Core.Bool.{Bool, true, false, not}
use mathlib.Core.List.{List, [], ◌∷◌}
use Rattle.std.specs.Prelude.{Option, Some, None}
use lib.Seq.{get_or-set_same}
use borrow.Author.Tests.{leb-false, leb-true, le-leb}
use Rattle.model.specs.declared.Class.{Class}
use Rattle.model.specs.declared.Class.TheVariants.{Feeders, Peers, Own}
use Rattle.model.specs.declared.Deliverer.TheVariants.{Restored}
use Rattle.model.specs.declared.Room.{Room}
use Rattle.model.specs.declared.Room.TheVariants.{At, Collides, Full as NoSlots}
use Rattle.model.specs.declared.Settings.{Settings}
use Rattle.model.specs.declared.Shares.{Shares}
use Rattle.model.specs.declared.Usable.{Usable}
use Rattle.runs.proofs.Cases.{by_test, split_if, no}
use Rattle.model.specs.Numbers.{under}
use Rattle.model.specs.Settings.{settings_of, usable_at, settings_fit}
use Rattle.model.specs.Class.{pick}
use Rattle.model.specs.Generation.{as_read}
use Rattle.model.specs.Book.{Book, second_of, granted, draw_says, drawn}
use Rattle.model.specs.Register.{Register}
use Rattle.model.specs.Judge.{bucket_of}
use Rattle.model.specs.Dump.{Dumped, Dump, OneOf, first, further, read_dump, Holding, hold_room, hold_one, hold_all, failed, Restoring, settled, restore_class, restore}
use Rattle.model.specs.Words.{State, state_form}
use Rattle.model.specs.Calls.{On, Restore, no_register, register_at, after_restored, restored, done_on, step, is_open, no_such_register, held_in}
use Rattle.model.specs.Dump.{begun, tried}
use Rattle.model.specs.Once.{Strike}
use Rattle.model.specs.ListedStruck.{Listed, restored_words, ListedStruck}
use Rattle.model.proofs.Choice.{true_false}
use Rattle.model.proofs.Struck.{Safe, is_under, Struck, in_class, below_floor, seen_in, struck_by, under_raised}
use Rattle.model.proofs.Strike.{safe_new}
use Rattle.model.proofs.Judging.{read_positive}
use Rattle.model.proofs.Bounds.{slots_small, fit_shares, fit_usable}
use Rattle.model.proofs.BookKept.{pairs_some}
use Rattle.model.proofs.SoundnessKept.{there, book_in, register_in}
use Rattle.model.proofs.RestoreKept.{Fine, one_fine, all_fine, settled_fine}
use Rattle.model.proofs.RestoreStruck.{begun_fine, first_fine, feeders_fine, peers_fine, all_safe, class_safe, through_own, through_peers}
use Rattle.model.proofs.Simulates.{entered, fit_settings, vetted_ok, through_zero}
use Rattle.model.proofs.Lawful.{StruckIn}
use Rattle.model.proofs.Once.{guarded_after, guarded_through, call_silent}

-- ---- what is struck under a stamp is struck under every older one of its bucket
under_older : (t n : ℕ) (f : Option ℕ) → t ≤ n → under n f ≡ true → under t f ≡ true
unfolding under
under_older t n None h p = p
under_older t n (Some f) h p = le-leb t f (omega (arith, leb-true n f p))

struck_older : (b fp t n : ℕ) (reg : Register) → t ≤ n → Struck b fp n reg → Struck b fp t reg
struck_older b fp t n reg h (in_class c k) =
    let m = k.as_new in
    in_class c (record { of_bucket = k.of_bucket; holds_it = k.holds_it; as_new = omega arith })
struck_older b fp t n reg h (below_floor p) = below_floor (under_older t n reg.floor h p)

module _ (u : Usable) (b : Shares) (small : u.slots ≤ 1_024) (some_pairs : 1 ≤ b.pairs) where
  module _ (c : Class) (d : Dumped) where
    -- ---- after a fingerprint that failed none is tried
    stays_failed : (ps : List ℕ) (h : Holding) → h.fits ≡ false → (hold_all u b c d ps h).fits ≡ false
    unfolding hold_all hold_one
    stays_failed [] h e = e
    stays_failed (p ∷ ps) h e = stays_failed ps _ (rw e)

    had_fit : (ps : List ℕ) (h : Holding) → (hold_all u b c d ps h).fits ≡ true → h.fits ≡ true
    had_fit ps h w = by_test h.fits (λ e. e) (λ e. true_false w (stays_failed ps h e))

    -- ---- one that fits is struck
    abbrev Strikes : ℕ → Register → Type 0
    Strikes p reg = Safe d.bucket (as_read p) d.newest (seen_in c reg)

    room_listed : (p : ℕ) (h : Holding) (k : Book) (m : Room) → Fine u b h.register h.book → (hold_room c d p h k m).fits ≡ true
        → Strikes p (hold_room c d p h k m).register
    unfolding hold_room
    room_listed p h k (At i) ok w = safe_new u d.bucket (as_read p) d.newest c h.register (read_positive p) ok.register
    room_listed p h k Collides ok w = no (cc)
    room_listed p h k NoSlots ok w = no (cc)

    one_listed : (p : ℕ) (h : Holding) → Fine u b h.register h.book → (hold_one u b c d p h).fits ≡ true → Strikes p (hold_one u b c d p h).register
    unfolding hold_one
    one_listed p h ok w =
        let second = second_of d.bucket u.bucket in
        split_if (λ (y : Holding). y.fits ≡ true → Strikes p y.register) (not h.fits) (λ e v. true_false e (rw v))
        (λ e. split_if (λ (y : Holding). y.fits ≡ true → Strikes p y.register) (granted (draw_says b (Restored c) second h.book))
        (λ g v. room_listed p h (drawn b (Restored c) second h.book) _ ok v) (λ g v. no (cc))) w

    -- ---- so are all that a generation lists, where all fit
    all_listed : (p : ℕ) (ps : List ℕ) (h : Holding) → OneOf p ps → Fine u b h.register h.book → (hold_all u b c d ps h).fits ≡ true
        → Strikes p (hold_all u b c d ps h).register
    unfolding hold_all
    all_listed p [] h one ok w = elim one [ ]
    all_listed p (q ∷ ps) h first ok w =
        let fine = one_fine u b small some_pairs c d p h ok in
        all_safe u b small some_pairs d.bucket (as_read p) d.newest (read_positive p) c c d ps (hold_one u b c d p h) fine
        (one_listed p h ok (had_fit ps (hold_one u b c d p h) w))
    all_listed p (q ∷ ps) h (further i) ok w = all_listed p ps (hold_one u b c d q h) i (one_fine u b small some_pairs c d q h ok) w

    -- and where one did not, the floor is at the dump's newest
    settled_listed : (p : ℕ) (whole : Bool) (h : Holding) → (h.fits ≡ true → Strikes p h.register) → Strikes p (settled u c d whole h).register
    unfolding settled failed
    settled_listed p whole h s =
        split_if (λ (y : Restoring). Strikes p y.register) h.fits s
        (λ e. is_under (under_raised d.newest _ h.register.floor (omega arith)))

  -- ---- all generations of a class, and all classes
  class_listed : (c : Class) (d : Dumped) (p : ℕ) (ds : List Dumped) (r : Restoring) → OneOf d ds → OneOf p d.prints → Fine u b r.register r.book
      → Strikes c d p (restore_class u b c ds r).register
  unfolding restore_class
  class_listed c d p [] r one i ok = elim one [ ]
  class_listed c d p (x ∷ ds) r first i ok =
      let start = begun_fine u b small some_pairs r ok in
      class_safe u b small some_pairs d.bucket (as_read p) d.newest (read_positive p) c c ds (settled u c d r.whole (tried u b c d r))
      (settled_fine u b small some_pairs c d r.whole (tried u b c d r) (all_fine u b small some_pairs c d d.prints (begun r) start))
      (settled_listed c d p r.whole (tried u b c d r) (all_listed c d p d.prints (begun r) i start))
  class_listed c d p (x ∷ ds) r (further j) i ok =
      class_listed c d p ds (settled u c x r.whole (tried u b c x r)) j i
      (settled_fine u b small some_pairs c x r.whole (tried u b c x r) (all_fine u b small some_pairs c x x.prints (begun r) (begun_fine u b small some_pairs r ok)))

  restore_listed : (d : Dump) (reg : Register) (k : Book) (g : Dumped) (p : ℕ) (c : Class) → Fine u b reg k → OneOf p g.prints → OneOf g (pick c d.classes)
      → Strikes c g p (restore u b d reg k).register
  unfolding restore
  restore_listed d reg k g p Feeders ok i j =
      through_peers u b small some_pairs g.bucket (as_read p) g.newest (read_positive p) Feeders d reg k ok
      (class_listed Feeders g p d.classes.of_feeders _ j i (first_fine u b small some_pairs d reg k ok))
  restore_listed d reg k g p Peers ok i j =
      through_own u b small some_pairs g.bucket (as_read p) g.newest (read_positive p) Peers d reg k ok
      (class_listed Peers g p d.classes.of_peers _ j i (feeders_fine u b small some_pairs d reg k ok))
  restore_listed d reg k g p Own ok i j = class_listed Own g p d.classes.of_own _ j i (peers_fine u b small some_pairs d reg k ok)

-- ---- on a state
-- the ticket that is listed, with its own stamp
as_listed : (u : Usable) (d : Dump) (t : Strike) (l : Listed u d t) (reg : Register)
    → Struck l.generation.bucket (as_read l.print) l.generation.newest reg → Struck (bucket_of u t.stamp) t.print t.stamp reg
as_listed u d t l reg s =
    subst (λ (y : ℕ). Struck (bucket_of u t.stamp) y t.stamp reg) (sym l.read)
    (subst (λ (y : ℕ). Struck y (as_read l.print) t.stamp reg) (sym l.bucket)
    (struck_older l.generation.bucket (as_read l.print) t.stamp l.generation.newest reg l.up_to s))

module _ (s : Settings) (fit : settings_fit s ≡ true) (t : Strike) (x : State) (low : t.register < s.registers) (ok : (state_form s).Ok x) where
  abbrev u : Usable
  u = usable_at s t.register

  listed_here : (d : Dump) → Listed u d t
      → Struck (bucket_of u t.stamp) t.print t.stamp (restore u s.shares d (register_at t.register x) x.book).register
  listed_here d l =
      as_listed u d t l _
      (struck_by l.generation.bucket (as_read l.print) l.generation.newest l.class _
      (restore_listed u s.shares (slots_small u (fit_usable s t.register fit low)) (pairs_some s.shares (fit_shares s fit)) d (register_at t.register x) x.book
      l.generation l.print l.class (record { register = register_in s t.register x low ok; book = book_in s x ok }) l.listed l.its))

  listed_in : (o : Option Dump) (d : Dump) → o ≡ Some d → Listed u d t → StruckIn s t (restored s t.register x o).state
  unfolding restored after_restored
  listed_in None d e l = no (cc)
  listed_in (Some f) d e l =
      let same : d ≡ f = cc in
      subst (λ (y : Register). Struck (bucket_of u t.stamp) t.print t.stamp y)
      (sym (get_or-set_same x.registers t.register _ no_register (there s t.register x ok low)))
      (listed_here f (subst (λ (y : Dump). Listed u y t) same l))

-- ---- on words
read_some : (t : Strike) (p : ℕ) → t.print ≡ as_read p → 0 < t.print
read_some t p e = let k = read_positive p in omega (arith, e)

pub listed_struck : ListedStruck
unfolding step done_on is_open no_such_register
listed_struck st ws bytes d t between later e through l clear ask again =
    let r = t.register in
    let call = On r (Restore bytes) in
    let s = settings_of st in
    let z = through_zero st ws call through in
    let k = entered st ws call z in
    let low = leb-false s.registers r k.register in
    let ok = vetted_ok st ws (record { fit = k.fit; long = k.long; sound = k.vets refl }) in
    let pos = read_some t l.print l.read in
    let g = guarded_after st ws call z t (listed_in s (fit_settings st k.fit) t (held_in s ws) low ok (read_dump bytes) d e l) in
    let h = guarded_through t pos between (restored_words st ws r bytes) clear g in
    call_silent later.settings _ later.call t pos h (ask, again)
