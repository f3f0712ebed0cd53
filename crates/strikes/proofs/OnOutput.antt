-- A call that writes an output: refused, or the bytes or words that the rules say.
use Prim.Native.Nat.{ℕ, ◌<◌, ◌≤◌}
use native.Mathlib.Omega.{arith}
use mathlib.Core.Path.{◌≡◌, refl, sym, ◌∙◌, ap, subst}
use mathlib.Core.Bool.{Bool, true, false}
use mathlib.Core.List.{List, [], ◌∷◌}
use lib.Dec.{ltb}
use lib.ListN.{length}
use borrow.Author.Tests.{ltb-false, lt-ltb, le-ltb, ne_eqb}
use Rattle.std.proofs.Common.{Result, Ok, Err}
use Rattle.std.specs.Result.{IsErrAnd}
use Rattle.model.specs.Answer.{Answer, Refused, Dumped, Viewed, refusal_number}
use Rattle.model.specs.declared.Refusal.{Refusal}
use Rattle.model.specs.Listed.{listed}
use Rattle.model.proofs.Refused.{refusal_there, exits, listed_ok, listed_err}
use Rattle.vet.specs.Vetted.{vetted}
use Rattle.vet.specs.Entries.{Refuses}
use Rattle.model.specs.declared.Class.{Class}
use Rattle.model.specs.declared.Deliverer.{Deliverer}
use Rattle.model.specs.declared.Settings.{Settings}
use Rattle.model.specs.declared.Shares.{Shares}
use Rattle.model.specs.declared.Usable.{Usable}
use Rattle.model.specs.Settings.{settings_of}
use Rattle.model.specs.Class.{class_of, deliverer_fits, deliverer_of}
use Rattle.model.specs.Words.{State}
use Rattle.model.specs.Register.{Register}
use Rattle.model.specs.Dump.{dump_bytes}
use Rattle.model.specs.RawViews.{deliverer_view, register_view}
use Rattle.model.specs.Calls.{Deed, DumpTo, ViewRegister, Call, On, ViewDeliverer, register_at, held_in, codes_fit, is_open, no_such_register, own_refusals, deed_refusals}
use Rattle.model.specs.Calls.{deed_fits, done_on, step, refused, refusal, reply, output_of, written_by, output_after, first_met}
use Rattle.model.specs.Calls.{Refusal as Refusing}
use Rattle.register.specs.Words.{RegisterReads}
use Rattle.dump.specs.Outputs.{Holds, Outputs}
use Rattle.book.specs.ClassRules.{ClassReads}
use Rattle.book_view.specs.Views.{places_view, HoldsView, ViewsPlaces}
use Rattle.numbers.specs.declared.starts.RegisterExtent.{RegisterExtent}
use Rattle.strikes.specs.declared.ClassExtent.{ClassExtent}
use Rattle.strikes.specs.Admitted.{admits, six_then_five, dump_refusal, DumpTried}
use Rattle.strikes.specs.Calls.{ToldOutput, heard}
use Rattle.strikes.specs.Entries.{AtRegister, AtClass}
use Rattle.strikes.proofs.Through.{replied}
use Rattle.strikes.proofs.Admitting.{none_of, first_own, refused_early, refused_own, OfBook, book_early, book_own, unlisted}
use Rattle.strikes.proofs.OnRegister.{part_of, seen}
use Rattle.strikes.proofs.OnClass.{class_of_words, deliverer_at, seen_class}

-- ---- 6 and 5 as the code tries them
-- what is said of a pending flag and a length that were read is said of the register
pub refusal_reads : (u : Usable) {ws : List ℕ} (room : ℕ) {n v : ℕ} {b : Bool} → ((x : Usable) → RegisterReads x (λ reg. reg.pending) ws b)
    → RegisterReads u (λ reg. length (dump_bytes reg)) ws n → v ≡ six_then_five b (ltb room n) → DumpTried u room ws v
unfolding dump_refusal
refusal_reads u room pending long e = record { reads = record { says = λ reg ok is. e ∙ rw ((pending u).says reg ok is, long.says reg ok is) } }

module _ (u : Usable) {ws : List ℕ} (room : ℕ) {n : ℕ} {b : Bool} (pending : (x : Usable) → RegisterReads x (λ reg. reg.pending) ws b)
    (long : RegisterReads u (λ reg. length (dump_bytes reg)) ws n) where
  pub tried_pending : b ≡ true → DumpTried u room ws 6
  unfolding first_met
  tried_pending t = refusal_reads u room pending long (rw t)

  pub tried_short : b ≡ false → room < n → DumpTried u room ws 5
  unfolding first_met
  tried_short t h = refusal_reads u room pending long (rw (t, lt-ltb room n h))

  pub tried_all : b ≡ false → n ≤ room → DumpTried u room ws 0
  unfolding first_met
  tried_all t h = refusal_reads u room pending long (rw (t, le-ltb room n h))

-- where neither is met the output has room
room_left : (room : ℕ) (reg : Register) → dump_refusal room reg ≡ 0 → length (dump_bytes reg) ≤ room
unfolding dump_refusal
room_left room reg e =
    let p = none_of 6 reg.pending (refusal 5 (ltb room (length (dump_bytes reg))) ∷ []) (λ k. omega arith) e in
    ltb-false room (length (dump_bytes reg)) (none_of 5 (ltb room (length (dump_bytes reg))) [] (λ k. omega arith) p.1).0

pub output_holds : {u : Usable} {ws : List ℕ} (out : List ℕ) {v : ℕ} → DumpTried u (length out) ws v → v ≡ 0 → Holds dump_bytes u ws out
output_holds out tried none = record { room = λ reg ok is. room_left (length out) reg (sym (tried.reads.says reg ok is) ∙ none) }

-- ---- a refusal leaves the output
pub refused_output : (st ws : List ℕ) (call : Call) (v : ℕ) → refused st ws call ≡ v → (v ≡ 0 → ⊥) → ToldOutput st ws call (Refused v) (output_of call)
unfolding reply output_after
refused_output st ws call v e h = let b = ne_eqb v 0 h in record { answer = rw (e, b); output = rw (e, b) }

output_exit : {A : Type 0} (f : A → Answer) (st ws : List ℕ) (call : Call) (e : Refusal) (got : Result A Refusal) → IsErrAnd got (λ y. y ≡ e)
    → refused st ws call ≡ refusal_number e → ToldOutput st ws call (heard f got) (output_of call)
output_exit f st ws call e got out is = rw (exits got out) (refused_output st ws call (refusal_number e) is (refusal_there e))

-- ---- a deed that shows something of the register, into the output `out`
pub record Shows (d : Deed) (out : List ℕ) (shown : Register → List ℕ) (answer : ℕ → Answer) : Type 0 where
  pub fits : deed_fits d ≡ true
  pub lent : (r : ℕ) → out ≡ output_of (On r d)
  pub says : (s : Settings) (r : ℕ) (t : State) → (done_on s r d t).answer ≡ answer (length (shown (register_at r t)))
  pub writes : (r : ℕ) (t : State) → written_by (On r d) t ≡ shown (register_at r t)

module _ {d : Deed} {out : List ℕ} {shown : Register → List ℕ} {answer : ℕ → Answer} (shows : Shows d out shown answer) (st ws : List ℕ) (r : ℕ) where
  -- one that is refused leaves what was lent
  kept : {a : Answer} → ToldOutput st ws (On r d) a (output_of (On r d)) → ToldOutput st ws (On r d) a out
  kept {a} told = subst (λ (o : List ℕ). ToldOutput st ws (On r d) a o) (sym (shows.lent r)) told

  shut_out : {A : Type 0} (f : A → Answer) (e : Refusal) (got : Result A Refusal) → IsErrAnd got (λ y. y ≡ e) → Refuses (admits st ws r) e
      → ToldOutput st ws (On r d) (heard f got) out
  shut_out f e got by v = kept (output_exit f st ws (On r d) e got by (refused_early st ws r d shows.fits (refusal_number e) v (refusal_there e)))

  module _ {p : RegisterExtent} (at : AtRegister st ws r p) {v : ℕ} (tried : RegisterReads p.u (λ reg. first_own (deed_refusals reg d)) (part_of p ws) v) where
    own_is : refused st ws (On r d) ≡ v
    own_is = refused_own st ws r d shows.fits at.passed ∙ sym (seen at tried)

    turned_down : (v ≡ 0 → ⊥) → ToldOutput st ws (On r d) (Refused v) out
    turned_down h = kept (refused_output st ws (On r d) v own_is h)

    told_output : v ≡ 0 → {after : List ℕ} {k : ℕ} → Outputs shown p.u (part_of p ws) out after k → ToldOutput st ws (On r d) (answer k) after
    unfolding step output_after
    told_output none o =
        let e = own_is ∙ none in
        let t = held_in (settings_of st) ws in
        record {
          answer = ap answer (seen at o.count) ∙ sym (shows.says (settings_of st) r t) ∙ sym (replied st ws (On r d) e);
          output = seen at o.out ∙ rw (e, shows.writes r t, ← shows.lent r);
        }

-- ---- a dump
dumps : (out : List ℕ) → Shows (DumpTo out) out dump_bytes Dumped
unfolding deed_fits output_of done_on written_by
dumps out = record { fits = refl; lent = λ r. refl; says = λ s r t. refl; writes = λ r t. refl }

module _ (out st ws : List ℕ) (r : ℕ) where
  pub dump_shut : {A : Type 0} (f : A → Answer) (e : Refusal) (got : Result A Refusal) → IsErrAnd got (λ y. y ≡ e) → Refuses (admits st ws r) e
      → ToldOutput st ws (On r (DumpTo out)) (heard f got) out
  dump_shut f e got by v = shut_out (dumps out) st ws r f e got by v

  module _ {p : RegisterExtent} (at : AtRegister st ws r p) {v : ℕ} (tried : DumpTried p.u (length out) (part_of p ws) v) where
    own_dump : RegisterReads p.u (λ reg. first_own (deed_refusals reg (DumpTo out))) (part_of p ws) v
    unfolding first_own deed_refusals dump_refusal
    own_dump = tried.reads

    pub dump_turned_down : {A : Type 0} (f : A → Answer) (e : Refusal) (got : Result A Refusal) → IsErrAnd got (λ y. y ≡ e) → v ≡ refusal_number e
        → ToldOutput st ws (On r (DumpTo out)) (heard f got) out
    dump_turned_down f e got by is =
        kept (dumps out) st ws r (output_exit f st ws (On r (DumpTo out)) e got by (own_is (dumps out) st ws r at own_dump ∙ is))

    pub dump_told : v ≡ 0 → {after : List ℕ} {k : ℕ} → Outputs dump_bytes p.u (part_of p ws) out after k
        → ToldOutput st ws (On r (DumpTo out)) (Dumped k) after
    dump_told none o = told_output (dumps out) st ws r at own_dump none o

-- ---- a register's view
-- 8 where the output has fewer words
abbrev short_view : ℕ → ℕ → List Refusing
short_view room long = refusal 8 (ltb room long) ∷ []

views : (out : List ℕ) → Shows (ViewRegister out) out register_view Viewed
unfolding deed_fits output_of done_on written_by
views out = record { fits = refl; lent = λ r. refl; says = λ s r t. refl; writes = λ r t. refl }

-- where it has as many the output has room
pub view_holds : {u : Usable} {ws : List ℕ} (out : List ℕ) {long : ℕ} → RegisterReads u (λ reg. length (register_view reg)) ws long → long ≤ length out
    → Holds register_view u ws out
view_holds out counted h = record { room = λ reg ok is. let e = counted.says reg ok is in omega arith }

module _ (out st ws : List ℕ) (r : ℕ) where
  pub view_shut : {A : Type 0} (f : A → Answer) (e : Refusal) (got : Result A Refusal) → IsErrAnd got (λ y. y ≡ e) → Refuses (admits st ws r) e
      → ToldOutput st ws (On r (ViewRegister out)) (heard f got) out
  view_shut f e got by v = shut_out (views out) st ws r f e got by v

  module _ {p : RegisterExtent} (at : AtRegister st ws r p) {long : ℕ} (counted : RegisterReads p.u (λ reg. length (register_view reg)) (part_of p ws) long) where
    eight : RegisterReads p.u (λ reg. first_own (deed_refusals reg (ViewRegister out))) (part_of p ws) (first_own (short_view (length out) long))
    unfolding first_own deed_refusals
    eight = record { says = λ reg ok is. rw (counted.says reg ok is) }

    pub view_short : length out < long → ToldOutput st ws (On r (ViewRegister out)) (Refused 8) out
    unfolding first_own first_met
    view_short h = let e = rw (lt-ltb (length out) long h) at eight in turned_down (views out) st ws r at e (λ k. omega arith)

    pub view_told : long ≤ length out → {after : List ℕ} {k : ℕ} → Outputs register_view p.u (part_of p ws) out after k
        → ToldOutput st ws (On r (ViewRegister out)) (Viewed k) after
    unfolding first_own first_met
    view_told h o = let e = rw (le-ltb (length out) long h) at eight in told_output (views out) st ws r at e refl o

-- ---- a deliverer's view
asks_book : (kind number : ℕ) (out : List ℕ) → OfBook (ViewDeliverer kind number out)
unfolding is_open no_such_register
asks_book kind number out = record { shut = refl; unnumbered = λ s. refl }

pub deliverer_holds : {b : Shares} {who : Deliverer} {ws : List ℕ} (out : List ℕ) {long : ℕ}
    → ClassReads b (class_of who) (λ h. length (places_view who h.places)) ws long → long ≤ length out → HoldsView b who ws out
deliverer_holds out counted h = record { room = λ x ok is. let e = counted.says x ok is in omega arith }

module _ (out st ws : List ℕ) (kind number : ℕ) where
  module _ {A : Type 0} (f : A → Answer) (e : Refusal) (got : Result A Refusal) (by : IsErrAnd got (λ y. y ≡ e)) where
    pub viewer_unlisted : Err e ≡ listed (deliverer_fits kind number) (deliverer_of kind number) → ToldOutput st ws (ViewDeliverer kind number out) (heard f got) out
    unfolding codes_fit output_of
    viewer_unlisted h =
        let p = listed_err (deliverer_of kind number) (deliverer_fits kind number) h in
        output_exit f st ws (ViewDeliverer kind number out) e got by
        (unlisted st ws (ViewDeliverer kind number out) p.0 ∙ sym (ap refusal_number p.1))

    pub deliverer_shut : {who : Deliverer} → ◌≡◌ {A = Result Deliverer Refusal} (Ok who) (listed (deliverer_fits kind number) (deliverer_of kind number))
        → Refuses (vetted st ws) e → ToldOutput st ws (ViewDeliverer kind number out) (heard f got) out
    unfolding codes_fit output_of
    deliverer_shut read h =
        let fits = (listed_ok (deliverer_fits kind number) read).0 in
        output_exit f st ws (ViewDeliverer kind number out) e got by
        (book_early st ws (ViewDeliverer kind number out) (asks_book kind number out) fits (refusal_number e) h (refusal_there e))

  module _ {who : Deliverer} (read : ◌≡◌ {A = Result Deliverer Refusal} (Ok who) (listed (deliverer_fits kind number) (deliverer_of kind number)))
      {c : Class} {p : ClassExtent} (at : AtClass st ws c p) (its : c ≡ class_of who) {long : ℕ}
      (counted : ClassReads p.shares (class_of who) (λ h. length (places_view who h.places)) (class_of_words p ws) long) where
    is_who : who ≡ deliverer_of kind number
    is_who = (listed_ok (deliverer_fits kind number) read).1

    own_is_eight : refused st ws (ViewDeliverer kind number out) ≡ first_own (short_view (length out) long)
    unfolding codes_fit own_refusals deliverer_view
    own_is_eight =
        book_own st ws (ViewDeliverer kind number out) (asks_book kind number out) (listed_ok (deliverer_fits kind number) read).0 at.passed
        ∙ rw (← is_who, seen_class (deliverer_at at who its) counted)

    pub deliverer_short : length out < long → ToldOutput st ws (ViewDeliverer kind number out) (Refused 8) out
    unfolding first_own first_met output_of
    deliverer_short h =
        let e = own_is_eight in
        refused_output st ws (ViewDeliverer kind number out) 8 (rw (lt-ltb (length out) long h) at e) (λ k. omega arith)

    pub deliverer_told : long ≤ length out → {after : List ℕ} {k : ℕ} → ViewsPlaces p.shares who (class_of_words p ws) out after k
        → ToldOutput st ws (ViewDeliverer kind number out) (Viewed k) after
    unfolding first_own first_met step output_after written_by output_of deliverer_view
    deliverer_told h o =
        let e = rw (le-ltb (length out) long h) at own_is_eight in
        let there = deliverer_at at who its in
        let book = (held_in (settings_of st) ws).book in
        let named = ap (λ (w : Deliverer). Viewed (length (deliverer_view w book))) is_who in
        record {
          answer = ap Viewed (seen_class there o.count) ∙ named ∙ sym (replied st ws (ViewDeliverer kind number out) e);
          output = seen_class there o.out ∙ rw (e, is_who);
        }
