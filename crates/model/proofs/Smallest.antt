-- The smallest stamp with a wanted verdict (specs/Smallest). A stamp that gives it has one of the list at or below it that gives it too
-- (proofs/Still), and the least of those is answered. Assumes nothing.
use Prim.Native.Nat.{ℕ, zero, suc, ◌+◌, ◌*◌, ◌≤◌, ◌<◌}
use native.Mathlib.Omega.{arith}
use mathlib.Core.Path.{◌≡◌, refl, sym, ◌∙◌, ap, subst}
use mathlib.Core.Bool.{Bool, true, false, and-true, and-false}
use mathlib.Core.List.{List, [], ◌∷◌}
use Rattle.std.specs.Prelude.{Option, Some, None}
use lib.Dec.{eqb}
use lib.ListN.{length, length-append}
use borrow.Author.Tests.{eqb-true, eq-eqb, leb-false}
use Rattle.model.specs.Answer.{Refused, Said, NoStamp, StampAt}
use Rattle.model.specs.declared.Settings.{Settings}
use Rattle.model.specs.declared.Class.TheVariants.{Feeders, Peers, Own}
use Rattle.model.specs.declared.Shares.{Shares}
use Rattle.model.specs.declared.Usable.{Usable}
use Rattle.model.specs.declared.Verdict.{Verdict}
use Rattle.model.specs.declared.Window.{Window}
use Rattle.runs.proofs.Cases.{by_test, both_true, no}
use Rattle.model.specs.Numbers.{cap64, top64}
use Rattle.model.specs.Settings.{settings_of, usable_at, ring_of}
use Rattle.model.specs.Codes.{verdict_number, same_verdict, verdict_fits, verdict_of, went_through}
use Rattle.model.specs.Book.{Book}
use Rattle.model.specs.Register.{Ring, Register, through_of, sweep}
use Rattle.model.specs.Judge.{Ask, window_for}
use Rattle.model.specs.Dump.{OneOf, first}
use Rattle.model.specs.Stamp.{batch_at, first_stamp, floor_stamps, edge_stamps, bucket_stamps, window_stamps, ring_stamps, stamps, least_from, stamp_for}
use Rattle.model.specs.Words.{State}
use Rattle.model.specs.Calls.{Seeking, asking_at, ask_of, register_at, sought, stamp_answer, asking_fits, after_taken, asked, done_on, step}
use Rattle.model.specs.Calls.{codes_fit, deed_fits, unfit, is_open, unsound, no_such_register, deed_refusals, own_refusals, first_met, held_in, refused, reply}
use Rattle.model.specs.Smallest.{seek_call, take_call, Gives, Told, refused_with, nowhere, at, tried, SmallestOf, Smallest}
use Rattle.model.proofs.Bounds.{UsableBounds, usable_bounds, fit_usable}
use Rattle.model.proofs.RingsKept.{RegisterOk, sweep_ok}
use Rattle.model.proofs.SoundnessKept.{register_in}
use Rattle.model.proofs.Simulates.{entered, fit_settings, vetted_ok, reply_is, through_zero}
use Rattle.model.proofs.ToldApart.{verdicts_apart}
use Rattle.model.proofs.Least.{All, all_at, all_append, UpTo, HasIt, least_reaches, least_has, last_before}
use Rattle.model.proofs.Still.{edge_in, verdict_still}

-- ---- how many stamps are tried
edge_few : (w : Window) (ms : ℕ) (f : Option ℕ) → length (edge_stamps w ms f) ≤ 4
unfolding edge_stamps floor_stamps
edge_few w ms None = omega arith
edge_few w ms (Some n) = omega arith

bucket_few : (u : Usable) (b n : ℕ) → length (bucket_stamps u b n) ≡ n
unfolding bucket_stamps
bucket_few u b zero = refl
bucket_few u b (suc n) = ap suc (bucket_few u (suc b) n)

ring_few : (u : Usable) (ring : Ring) → length (ring_stamps u ring) ≡ 2 * length ring
unfolding ring_stamps
ring_few u [] = refl
ring_few u (g ∷ gs) = let h = ring_few u gs in omega arith

pub few_stamps : (u : Usable) (reg : Register) (a : Ask) → RegisterOk u reg → length (stamps u reg a) ≤ 7 * ring_of u + 4
unfolding stamps window_stamps
few_stamps u reg a ok =
    let rings = reg.rings in
    let buckets = bucket_few u (through_of u a.ms) (ring_of u) in
    let feeders = ring_few u rings.of_feeders in
    let peers = ring_few u rings.of_peers in
    let own = ring_few u rings.of_own in
    let edges = edge_few (window_for u a.who) a.ms reg.floor in
    rw (length-append, length-append, length-append, length-append, buckets, feeders, peers, own)
    (omega (arith, edges, (ok.rings Feeders).long, (ok.rings Peers).long, (ok.rings Own).long))

-- ---- each has 64 bits
abbrev Short : ℕ → Type 0
Short c = c ≤ top64

first_short : (u : Usable) (b : ℕ) → Short (first_stamp u b)
unfolding first_stamp cap64
first_short u b = omega arith

edge_short : (w : Window) (ms : ℕ) (f : Option ℕ) → ms ≤ top64 → All Short (edge_stamps w ms f)
unfolding edge_stamps floor_stamps cap64 All
edge_short w ms None small = (omega arith, (omega arith, (omega arith, tt)))
edge_short w ms (Some n) small = (omega arith, (omega arith, (omega arith, (omega arith, tt))))

bucket_short : (u : Usable) (b n : ℕ) → All Short (bucket_stamps u b n)
unfolding bucket_stamps All
bucket_short u b zero = tt
bucket_short u b (suc n) = (first_short u b, bucket_short u (suc b) n)

ring_short : (u : Usable) (ring : Ring) → All Short (ring_stamps u ring)
unfolding ring_stamps All
ring_short u [] = tt
ring_short u (g ∷ gs) = (first_short u g.bucket, (first_short u (g.bucket + 1), ring_short u gs))

all_short : (u : Usable) (reg : Register) (a : Ask) → a.ms ≤ top64 → All Short (stamps u reg a)
unfolding stamps window_stamps
all_short u reg a small =
    let feeders = ring_short u reg.rings.of_feeders in
    let peers = ring_short u reg.rings.of_peers in
    let own = ring_short u reg.rings.of_own in
    all_append Short _ _ (edge_short (window_for u a.who) a.ms reg.floor small)
    (all_append Short _ _ (bucket_short u (through_of u a.ms) (ring_of u)) (all_append Short _ _ feeders (all_append Short _ _ peers own)))

-- ---- on a state
same_is : (v w : Verdict) → same_verdict v w ≡ true → w ≡ v
same_is v w e = sym (verdicts_apart v w (eqb-true (verdict_number v) (verdict_number w) e))

module _ (u : Usable) (fit : UsableBounds u) (b : Shares) (reg : Register) (ok : RegisterOk u reg) (k : Book) (a : Ask) (small : a.ms ≤ top64) (wanted : Verdict) where
  abbrev gives : ℕ → Bool
  gives x = same_verdict wanted (batch_at u b reg k a x)

  abbrev list : List ℕ
  list = stamps u (sweep u a.ms reg) a

  -- what is found gives it, and has 64 bits
  pub record Fine (x : ℕ) : Type 0 where
    pub gives : batch_at u b reg k a x ≡ wanted
    pub short : x ≤ top64

  pub found_fine : HasIt gives Fine (stamp_for u b reg k a wanted)
  unfolding stamp_for
  found_fine =
      least_has gives Fine list None
      (λ c o m. record { gives = same_is wanted (batch_at u b reg k a c) m; short = all_at Short o (all_short u (sweep u a.ms reg) a small) }) tt

  -- and is no more than any stamp that gives it
  zero_in : OneOf 0 list
  unfolding edge_stamps
  zero_in = edge_in u (sweep u a.ms reg) a 0 first

  further_up : (x y : ℕ) (o : Option ℕ) → x ≤ y → UpTo x o → UpTo y o
  further_up x y None h l = l
  further_up x y (Some z) h l = omega arith

  pub found_smallest : (y : ℕ) → y ≤ top64 → batch_at u b reg k a y ≡ wanted → UpTo y (stamp_for u b reg k a wanted)
  unfolding stamp_for
  found_smallest y top e =
      let l = last_before (λ c. OneOf c list) list 0 y zero_in (omega arith) (λ c o. o) in
      let same = verdict_still u fit b reg k a small l.last y l.on top (sweep_ok u a.ms reg ok) l.still in
      let m : gives l.last ≡ true = eq-eqb (verdict_number wanted) (verdict_number (batch_at u b reg k a l.last)) (ap verdict_number (sym (same ∙ e))) in
      further_up l.last y (least_from gives list None) l.on (least_reaches gives l.last list None l.its m)

said_is : (v w : Verdict) → Said v ≡ Said w → v ≡ w
said_is v w e = cc

-- ---- on words: what is refused
module _ (st ws : List ℕ) (r : ℕ) (q : Seeking) where
  as_take : verdict_fits q.wanted ≡ true → (x : ℕ) → refused st ws (seek_call r q) ≡ refused st ws (take_call r q x)
  unfolding refused unfit codes_fit deed_fits unsound is_open no_such_register own_refusals deed_refusals
  as_take e x = rw (e, and-true (asking_fits (asking_at 0 q))) refl

  not_listed : verdict_fits q.wanted ≡ false → reply st ws (seek_call r q) ≡ Refused 1
  unfolding reply refused first_met unfit codes_fit deed_fits
  not_listed e = rw (e, and-false (asking_fits (asking_at 0 q)), and-false) refl

  told_of : (o : Option ℕ) → Told (stamp_answer o)
  told_of None = nowhere
  told_of (Some x) = at x

  -- what a call that goes through answers, and what `take_batch` would
  module _ (small : q.ms ≤ top64) (z : refused st ws (seek_call r q) ≡ 0) where
    abbrev s : Settings
    s = settings_of st

    abbrev t : State
    t = held_in s ws

    abbrev u : Usable
    u = usable_at s r

    abbrev a : Ask
    a = ask_of (asking_at 0 q)

    answers : reply st ws (seek_call r q) ≡ stamp_answer (sought s r q t)
    unfolding step done_on
    answers = reply_is st ws (seek_call r q) z

    wanted_listed : verdict_fits q.wanted ≡ true
    unfolding codes_fit deed_fits
    wanted_listed = (both_true (asking_fits (asking_at 0 q)) (verdict_fits q.wanted) (entered st ws (seek_call r q) z).codes).1

    take_answers : (x : ℕ) → reply st ws (take_call r q x) ≡ Said (batch_at u s.shares (register_at r t) t.book a x)
    unfolding step done_on asked after_taken batch_at
    take_answers x = reply_is st ws (take_call r q x) (sym (as_take wanted_listed x) ∙ z)

    there : r < s.registers
    unfolding no_such_register
    there = leb-false s.registers r (entered st ws (seek_call r q) z).register

    bounds : UsableBounds u
    bounds = usable_bounds u (fit_usable s r (fit_settings st (entered st ws (seek_call r q) z).fit) there)

    register_ok : RegisterOk u (register_at r t)
    unfolding is_open
    register_ok =
        let e = entered st ws (seek_call r q) z in
        register_in s r t there (vetted_ok st ws (record { fit = e.fit; long = e.long; sound = e.vets refl }))

    few_tried : length (tried st ws r q) ≤ 7 * ring_of u + 4
    few_tried = few_stamps u (sweep u q.ms (register_at r t)) a (sweep_ok u q.ms (register_at r t) register_ok)

    -- a stamp
    is_at : (x : ℕ) (o : Option ℕ) → stamp_answer o ≡ StampAt x → o ≡ Some x
    is_at x None e = no (cc)
    is_at x (Some y) e = cc

    fine : (x : ℕ) → reply st ws (seek_call r q) ≡ StampAt x → Fine u bounds s.shares (register_at r t) register_ok t.book a small (verdict_of q.wanted) x
    fine x e =
        let i = is_at x (sought s r q t) (sym answers ∙ e) in
        rw i at (found_fine u bounds s.shares (register_at r t) register_ok t.book a small (verdict_of q.wanted))

    reached : (y : ℕ) → y ≤ top64 → Gives st ws r q y → UpTo y (sought s r q t)
    reached y top g =
        found_smallest u bounds s.shares (register_at r t) register_ok t.book a small (verdict_of q.wanted) y top
        (said_is _ (verdict_of q.wanted) (sym (take_answers y) ∙ g))

  -- a stamp or none is answered by a call that goes through alone
  stamp_zero : (x : ℕ) → reply st ws (seek_call r q) ≡ StampAt x → refused st ws (seek_call r q) ≡ 0
  unfolding went_through
  stamp_zero x e = through_zero st ws (seek_call r q) (ap went_through e)

  none_zero : reply st ws (seek_call r q) ≡ NoStamp → refused st ws (seek_call r q) ≡ 0
  unfolding went_through
  none_zero e = through_zero st ws (seek_call r q) (ap went_through e)

  is_none : (o : Option ℕ) → stamp_answer o ≡ NoStamp → o ≡ None
  is_none None e = refl
  is_none (Some y) e = no (cc)

  refused_told : eqb (refused st ws (seek_call r q)) 0 ≡ false → Told (reply st ws (seek_call r q))
  unfolding reply
  refused_told e = rw e (refused_with (refused st ws (seek_call r q)))

  smallest_of : q.ms ≤ top64 → SmallestOf st ws r q
  smallest_of small = record {
    told = by_test (eqb (refused st ws (seek_call r q)) 0)
        (λ e. subst Told (sym (answers small (eqb-true (refused st ws (seek_call r q)) 0 e))) (told_of (sought (settings_of st) r q (held_in (settings_of st) ws)))) refused_told;
    fits = λ x e. (fine small (stamp_zero x e) x e).short;
    gives = λ x e. let z = stamp_zero x e in take_answers small z x ∙ ap Said (fine small z x e).gives;
    smallest = λ x e y h g.
        let z = stamp_zero x e in
        let i = is_at small z x (sought (settings_of st) r q (held_in (settings_of st) ws)) (sym (answers small z) ∙ e) in
        let f = (fine small z x e).short in
        let l : x ≤ y = rw i at (reached small z y (omega arith) g) in
        omega arith;
    none = λ e y top g.
        let z = none_zero e in
        let i = is_none (sought (settings_of st) r q (held_in (settings_of st) ws)) (sym (answers small z) ∙ e) in
        rw i at (reached small z y top g);
    unlisted = not_listed;
    listed = as_take;
    few = few_tried small;
  }

pub smallest : Smallest
smallest st ws r q small = smallest_of st ws r q small
