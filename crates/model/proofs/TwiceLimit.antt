-- A Feeder or Peer never brings its class above twice its limit, and no other above the limit (specs/TwiceLimit). Assumes nothing.
use Prim.Native.Nat.{ℕ, ◌≤◌}
use native.Mathlib.Omega.{arith}
use mathlib.Core.Path.{◌≡◌, refl, sym, ◌∙◌, ap, subst}
use mathlib.Core.Bool.{Bool, true, false}
use mathlib.Core.List.{List}
use lib.Dec.{leb, eqb}
use borrow.Author.Tests.{leb-true, eqb-true}
use Rattle.model.specs.declared.Class.{Class}
use Rattle.model.specs.declared.Deliverer.{Deliverer}
use Rattle.model.specs.declared.Draw.TheVariants.{Granted, Closed, OwnShare, ClassLimit}
use Rattle.model.specs.declared.Manner.{Manner}
use Rattle.model.specs.declared.Manner.TheVariants.{Judged, JudgedBatch, Taken as TakenManner, TakenBatch}
use Rattle.model.specs.declared.Settings.{Settings}
use Rattle.model.specs.declared.Shares.{Shares}
use Rattle.model.specs.declared.Limits.{Limits}
use Rattle.model.specs.declared.Usable.{Usable}
use Rattle.model.specs.declared.Verdict.{Verdict}
use Rattle.runs.proofs.Cases.{by_test, no}
use Rattle.model.specs.Settings.{settings_of, usable_at}
use Rattle.model.specs.Class.{class_of}
use Rattle.model.specs.Book.{Place, second_of, Held, Book, entries_of, units, together, below_share, fair, units_after, draw_limits, draw_test, granted, enter, places_of, draw_says, drawn}
use Rattle.model.specs.Register.{Register}
use Rattle.model.specs.Judge.{Ask, bucket_of, judge, judge_batch, Taken, take_room, take_judged, take, take_batch}
use Rattle.model.specs.Words.{State, state_form}
use Rattle.model.specs.Calls.{Asking, Ticket, On, register_at, ask_of, after_judged, after_taken, asked, done_on}
use Rattle.model.specs.Calls.{step, is_open, held_in, refused}
use Rattle.model.specs.TwiceLimit.{class_units, class_limit, Bounded, who_asks, NeverAboveTwice}
use Rattle.model.proofs.Choice.{swap_same}
use Rattle.model.proofs.Places.{grants, units_enter}
use Rattle.model.proofs.BookKept.{BookOk, granted_is}
use Rattle.model.proofs.SoundnessKept.{book_in}
use Rattle.model.proofs.Judging.{taken_cases}
use Rattle.model.proofs.Simulates.{refused_words, entered, vetted_ok, after_holds}

-- nothing was raised
unraised : (who : Deliverer) (n limit : ℕ) → Bounded who n n limit
unraised who n limit = record { twice = λ h. absurd (omega arith); others = λ f h. absurd (omega arith) }

-- a draw that is granted to neither a Feeder nor a Peer stays within the limit
others_within : (b : Shares) (l : Limits) (closed : Bool) (who : Deliverer) (s : ℕ) (ps : List Place) → draw_test b l closed who s ps ≡ Granted
    → fair who ≡ false → units_after b who ps ≤ together l (class_of who)
unfolding draw_test draw_limits
others_within b l closed who s ps g f =
    let t = together l (class_of who) in
    let n = units_after b who ps in
    by_test closed
    (λ e. no (let z : Closed ≡ Granted = rw e at g in cc))
    (λ e. by_test (below_share l who (entries_of who ps))
    (λ d. by_test (leb n t) (λ i. leb-true n t i) (λ i. no (let z : ClassLimit ≡ Granted = rw (e, d, i, f) at g in cc)))
    (λ d. no (let z : OwnShare ≡ Granted = rw (e, d) at g in cc)))

-- ---- a draw that is granted
module _ (b : Shares) (who : Deliverer) (s : ℕ) (k : Book) (ok : BookOk b k) (g : granted (draw_says b who s k) ≡ true) where
  abbrev class : Class
  class = class_of who

  drawn_places : places_of class (drawn b who s k) ≡ enter b who s (places_of class k)
  unfolding drawn
  drawn_places = swap_same (λ (h : Held). h.places ≡ enter b who s (places_of class k)) class _ k.classes refl

  draw_bounded : Bounded who (units b (places_of class k)) (units b (places_of class (drawn b who s k))) (together k.limits class)
  unfolding draw_says
  draw_bounded =
      let e = granted_is _ g in
      let u : units b (places_of class (drawn b who s k)) ≡ units_after b who (places_of class k) =
      ap (units b) drawn_places ∙ units_enter class b.pairs b who s 0 (places_of class k) (ok.classes class).1.0.1 in
      let w = (grants b k.limits k.closed who s (places_of class k) e).within in
      record {
        twice = λ h. omega arith;
        others = λ f h. let o = others_within b k.limits k.closed who s (places_of class k) e f in omega arith;
      }

-- ---- a take, whatever it answers
module _ (u : Usable) (b : Shares) (reg : Register) (k : Book) (a : Ask) (ok : BookOk b k) where
  abbrev Within : Book → Type 0
  Within k' = Bounded a.who (units b (places_of (class_of a.who) k)) (units b (places_of (class_of a.who) k')) (together k.limits (class_of a.who))

  rest_bounded : (reg' : Register) → (v : Verdict) → Within (take_judged u b a k reg' v).book
  unfolding take_room
  rest_bounded reg' =
      let second = second_of (bucket_of u a.stamp) u.bucket in
      taken_cases u b a k reg' (λ (x : Taken). Within x.book) (λ i r g. draw_bounded b a.who second k ok g)
      (λ v n. unraised a.who _ _)

  take_bounded : Within (take u b reg k a).book
  unfolding take
  take_bounded = rest_bounded (judge u reg a).register (judge u reg a).says

  take_batch_bounded : Within (take_batch u b reg k a).book
  unfolding take_batch
  take_batch_bounded = rest_bounded (judge_batch u reg a).register (judge_batch u reg a).says

-- ---- a call about a ticket, on a well-formed state
module _ (s : Settings) (r : ℕ) (a : Asking) (x : State) (ok : (state_form s).Ok x) where
  abbrev class_in : Class
  class_in = class_of (who_asks a)

  asked_bounded : (m : Manner) → Bounded (who_asks a) (units s.shares (places_of class_in x.book))
      (units s.shares (places_of class_in (asked s r m (ask_of a) x).state.book)) (together x.book.limits class_in)
  unfolding asked after_judged after_taken
  asked_bounded Judged = unraised (who_asks a) _ _
  asked_bounded JudgedBatch = unraised (who_asks a) _ _
  asked_bounded TakenManner = take_bounded (usable_at s r) s.shares (register_at r x) x.book (ask_of a) (book_in s x ok)
  asked_bounded TakenBatch =
      take_batch_bounded (usable_at s r) s.shares (register_at r x) x.book (ask_of a) (book_in s x ok)

-- ---- and on any words
pub never_above_twice : NeverAboveTwice
unfolding step done_on is_open
never_above_twice st ws r m a =
    let s = settings_of st in
    let c = class_of (who_asks a) in
    let call = On r (Ticket m a) in
    by_test (eqb (refused st ws call) 0)
    (λ d. let z = eqb-true (refused st ws call) 0 d in
    let e = entered st ws call z in
    let v = vetted_ok st ws (record { fit = e.fit; long = e.long; sound = e.vets refl }) in
    subst (λ (y : State). Bounded (who_asks a) (class_units st ws c) (units s.shares (places_of c y.book)) (class_limit st ws c))
    (sym (after_holds st ws call z)) (asked_bounded s r a (held_in s ws) v m))
    (λ d. subst (λ (l : List ℕ). Bounded (who_asks a) (class_units st ws c) (class_units st l c) (class_limit st ws c)) (sym (refused_words st ws call d))
    (unraised (who_asks a) _ _))
