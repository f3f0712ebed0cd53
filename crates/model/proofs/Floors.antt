-- The floor that is told of a register never falls over a list of calls (specs/Floors), and a resume raises it to the proven one
-- (specs/ResumeProves). Assumes nothing.
use Prim.Native.Nat.{ℕ, ◌≤◌, ◌<◌}
use native.Mathlib.Omega.{arith}
use mathlib.Core.Path.{◌≡◌, refl, sym, ◌∙◌, ap, subst}
use mathlib.Core.Bool.{true, false, ◌&&◌}
use mathlib.Core.List.{List, [], ◌∷◌}
use Rattle.std.specs.Prelude.{Option, Some, None}
use lib.Dec.{eqb}
use lib.ListN.{length}
use lib.Seq.{get_or-set_same}
use borrow.Author.Tests.{eqb-true, leb-false, lt-leb, le-ltb}
use Rattle.model.specs.Answer.{Refused, FloorAt}
use Rattle.model.specs.declared.Settings.{Settings}
use Rattle.runs.proofs.Cases.{by_test, no}
use Rattle.model.specs.Settings.{settings_of, usable_at, words_needed}
use Rattle.model.specs.Register.{Register}
use Rattle.model.specs.Dump.{Dump, read_dump}
use Rattle.model.specs.Words.{State}
use Rattle.model.specs.Codes.{went_through}
use Rattle.model.specs.Calls.{Call, On, Floor, Resume, Kind, Opens, OnOne, Sets, Other, opens, kind, is_open, no_such_register, no_register, register_at, floor_answer}
use Rattle.model.specs.Calls.{after_restored, resumed, done_on, step, codes_fit, deed_fits, unfit, too_short, sound, unsound, is_cut, deed_refusals, own_refusals, first_met}
use Rattle.model.specs.Calls.{held_in, refused, reply, after}
use Rattle.model.specs.View.{Given, answered, left_by, words_after}
use Rattle.model.specs.Soundness.{Vetted}
use Rattle.model.specs.Misreadings.{NoLower}
use Rattle.model.specs.Floors.{forgets, forgotten_among, AtLeast, FloorsNeverFall}
use Rattle.model.specs.ResumeProves.{ResumeProves}
use Rattle.model.proofs.Choice.{or_false, and_false, true_false}
use Rattle.model.proofs.Simulates.{refused_words, not_met, entered, vetted_ok, one_settings, reply_is, after_vetted, after_holds, through_zero}
use Rattle.model.proofs.Refusals.{step_through}
use Rattle.model.proofs.Misreadings.{same}
use Rattle.model.proofs.FloorLaws.{resume_proves}
use Rattle.model.proofs.EveryCall.{lawful}

-- under these settings the words are vetted, and register r has a floor of at least f
pub record Stands (st ws : List ℕ) (r f : ℕ) : Type 0 where
  pub vetted : Vetted st ws
  pub there : r < (settings_of st).registers
  pub floor : NoLower f (register_at r (held_in (settings_of st) ws)).floor

-- ---- the floor that is told
answer_floor : (o : Option ℕ) (f : ℕ) → floor_answer o ≡ FloorAt f → o ≡ Some f
answer_floor None f e = no (cc)
answer_floor (Some g) f e = cc

module _ (st ws : List ℕ) (r : ℕ) where
  told_stands : (f : ℕ) → reply st ws (On r Floor) ≡ FloorAt f → Stands st ws r f
  unfolding reply step done_on is_open no_such_register
  told_stands f e =
      by_test (eqb (refused st ws (On r Floor)) 0)
      (λ d. let n = entered st ws (On r Floor) (eqb-true (refused st ws (On r Floor)) 0 d) in
      let s = settings_of st in
      record {
        vetted = record { fit = n.fit; long = n.long; sound = n.vets refl };
        there = leb-false s.registers r n.register;
        floor = same f _ (answer_floor (register_at r (held_in s ws)).floor f (rw d at e));
      })
      (λ d. let q : Refused (refused st ws (On r Floor)) ≡ FloorAt f = rw d at e in no (cc))

  asks_floor : Vetted st ws → r < (settings_of st).registers → refused st ws (On r Floor) ≡ 0
  unfolding refused first_met unfit codes_fit deed_fits too_short unsound is_open no_such_register own_refusals deed_refusals
  asks_floor v low = rw (v.fit, le-ltb (length ws) (words_needed (settings_of st)) v.long, v.sound, lt-leb (settings_of st).registers r low)

  pub stands_told : (f : ℕ) → Stands st ws r f → AtLeast f (reply st ws (On r Floor))
  unfolding step done_on
  stands_told f k = record {
    level = k.floor.level;
    told = reply_is st ws (On r Floor) (asks_floor k.vetted k.there) ∙ ap floor_answer k.floor.there;
    no_lower = k.floor.no_lower;
  }

-- ---- one call
kind_shut : (r : ℕ) (k : Kind) → forgets r k ≡ false → opens k ≡ false
unfolding forgets opens
kind_shut r (Opens limits starts) e = e
kind_shut r (OnOne q d) e = refl
kind_shut r (Sets limits) e = refl
kind_shut r Other e = refl

module _ (st ws : List ℕ) (r f : ℕ) (k : Stands st ws r f) (st' : List ℕ) (call : Call) where
  -- it goes through: its settings are those of the words
  module _ (z : refused st' ws call ≡ 0) (e : forgets r (kind call) ≡ false) where
    abbrev s' : Settings
    s' = settings_of st'

    was_vetted : Vetted st' ws
    unfolding is_open
    was_vetted = let n = entered st' ws call z in record { fit = n.fit; long = n.long; sound = n.vets (kind_shut r (kind call) e) }

    one : s' ≡ settings_of st
    one = one_settings st' st ws was_vetted k.vetted

    kept_floor : NoLower f (register_at r (held_in s' (after st' ws call))).floor
    unfolding step kind
    kept_floor =
        let was = subst (λ (x : Settings). NoLower f (register_at r (held_in x ws)).floor) (sym one) k.floor in
        let now = (lawful call).floors s' (held_in s' ws) r e was.level was.there in
        let a = was.no_lower in
        let b = now.no_lower in
        subst (λ (x : State). NoLower f (register_at r x).floor) (sym (after_holds st' ws call z))
        (record { level = now.level; there = now.there; no_lower = omega arith })

    through_stands : Stands st (after st' ws call) r f
    through_stands =
        let v = after_vetted st' ws call z in
        record {
          vetted = record {
            fit = k.vetted.fit;
            long = subst (λ (x : Settings). words_needed x ≤ length (after st' ws call)) one v.long;
            sound = subst (λ (x : Settings). sound x (after st' ws call) ≡ true) one v.sound;
          };
          there = k.there;
          floor = subst (λ (x : Settings). NoLower f (register_at r (held_in x (after st' ws call))).floor) one kept_floor;
        }

  call_stands : (forgets r (kind call) && went_through (reply st' ws call)) ≡ false → Stands st (after st' ws call) r f
  call_stands e =
      by_test (eqb (refused st' ws call) 0)
      (λ d. let z = eqb-true (refused st' ws call) 0 d in
      through_stands z
      (and_false (forgets r (kind call)) (went_through (reply st' ws call)) e (λ n. n)
      (λ n. true_false (step_through (settings_of st') call (held_in (settings_of st') ws)) (ap went_through (sym (reply_is st' ws call z)) ∙ n))))
      (λ d. subst (λ (l : List ℕ). Stands st l r f) (sym (refused_words st' ws call d)) k)

-- ---- a list
list_stands : (st : List ℕ) (r f : ℕ) (gs : List Given) (ws : List ℕ) → forgotten_among r ws gs ≡ false → Stands st ws r f → Stands st (words_after ws gs) r f
unfolding forgotten_among words_after
list_stands st r f [] ws e k = k
list_stands st r f (g ∷ gs) ws e k =
    let n = or_false (forgets r (kind g.call) && went_through (answered ws g)) (forgotten_among r (left_by ws g) gs) e in
    list_stands st r f gs (left_by ws g) n.1 (call_stands st ws r f k g.settings g.call n.0)

pub floors_never_fall : FloorsNeverFall
floors_never_fall ws st r f calls said none-forgets =
    stands_told st (words_after ws calls) r f (list_stands st r f calls ws none-forgets (told_stands st ws r f said))

-- ---- resume
module _ (s : Settings) (r : ℕ) (t : State) (low : r < length t.registers) where
  resumed_proves : (proven : ℕ) (d : Option Dump) → is_cut d ≡ false → NoLower proven (register_at r (resumed s r t (Some proven) d).state).floor
  unfolding resumed after_restored is_cut
  resumed_proves proven None e = no (cc)
  resumed_proves proven (Some d) e =
      subst (λ (x : Register). NoLower proven x.floor) (sym (get_or-set_same t.registers r _ no_register low))
      (resume_proves (usable_at s r) s.shares d proven (register_at r t) t.book)

-- one that goes through was not cut short
whole_dump : (st ws : List ℕ) (r : ℕ) (bytes : List ℕ) (flag floor : ℕ) → refused st ws (On r (Resume bytes flag floor)) ≡ 0 → is_cut (read_dump bytes) ≡ false
unfolding refused first_met own_refusals deed_refusals
whole_dump st ws r bytes flag floor z =
    let call = On r (Resume bytes flag floor) in
    let a = not_met (unfit st call) 0 _ z in
    let b = not_met (too_short st ws) 1 _ a.1 in
    let c = not_met (unsound st ws call) 2 _ b.1 in
    let d = not_met (no_such_register (settings_of st) call) 3 _ c.1 in
    (not_met (is_cut (read_dump bytes)) 6 _ d.1).0

pub resume_proves_floor : ResumeProves
unfolding step done_on is_open no_such_register
resume_proves_floor st ws r bytes proven t =
    let call = On r (Resume bytes 1 proven) in
    let s = settings_of st in
    let z = through_zero st ws call t in
    let n = entered st ws call z in
    let low = leb-false s.registers r n.register in
    let long = (vetted_ok st ws (record { fit = n.fit; long = n.long; sound = n.vets refl })).1.1.0.0 in
    stands_told st (after st ws call) r proven (record {
      vetted = after_vetted st ws call z;
      there = low;
      floor = subst (λ (x : State). NoLower proven (register_at r x).floor) (sym (after_holds st ws call z))
          (resumed_proves s r (held_in s ws) (omega arith) proven (read_dump bytes) (whole_dump st ws r bytes 1 proven z));
    })
