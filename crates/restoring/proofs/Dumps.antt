-- The generations of a class one after the other, and the classes of a dump. Assumes nothing.
use Prim.Native.Nat.{ℕ, zero, suc, ◌+◌, ◌-◌, ◌/◌, ◌<◌, ◌≤◌}
use native.Mathlib.Omega.{arith}
use mathlib.Core.Path.{◌≡◌, refl, sym, ap, subst, ◌∙◌}
use mathlib.Core.Bool.{Bool, true, ◌&&◌}
use mathlib.Core.List.{List, [], ◌∷◌}
use Rattle.std.specs.Prelude.{Option, None, Some}
use lib.ListN.{length, get_or}
use borrow.Author.Tests.{ne_eqb}
use Rattle.runs.proofs.Cases.{by_test}
use Rattle.runs.specs.Turns.{silent}
use Rattle.model.specs.declared.Class.{Class}
use Rattle.model.specs.declared.Class.TheVariants.{Feeders, Peers, Own}
use Rattle.model.specs.declared.Settings.{Settings}
use Rattle.model.specs.Settings.{usable_at}
use Rattle.model.specs.Book.{Book}
use Rattle.model.specs.Register.{Register}
use Rattle.model.specs.Dump.{Dumped, Dump, Holding, Restoring, words_of, hold_all, settled, restore_class, raised_to_dumped, restore, raised_to_proven, resume}
use Rattle.model.specs.Calls.{restored, resumed, after_restored}
use Rattle.register.specs.Rules.{floor_gone, raised_with}
use Rattle.dump.specs.Walk.{told_by, dumped_at, next_at, dumped_from, class_dumped, class_end, Walks, ClassWalks}
use Rattle.dump.proofs.Walks.{walk_next, walk_done}
use Rattle.taking.specs.Words.{RunWords, StateTurns}
use Rattle.restoring.specs.declared.heads.Head.{Head}
use Rattle.restoring.specs.Words.{Acts}
use Rattle.restoring.specs.Rules.{headed, holding, restoring, RestoreActs, generation_restored, one_restored, class_restored, dump_restored, restored_whole, resumed_whole}
use Rattle.restoring.proofs.Acting.{acts_turns}
use Rattle.restoring.proofs.Steps.{Rest, rest_start, rest_step, rest_end}

module _ (s : Settings) (r : ℕ) where
  -- ---- one generation, as it was found
  pub found_acts : (ds : List ℕ) (at : ℕ) (h : Head) → h.bucket.0 ≡ (dumped_at ds at).bucket → h.newest ≡ (dumped_at ds at).newest → (ws last : List ℕ) (v : Bool)
      → RestoreActs s r (generation_restored s r h (dumped_at ds at).prints) ws last v → RestoreActs s r (one_restored s r h.class (dumped_at ds at)) ws last v
  found_acts ds at h b n ws last v a =
      let e : headed h (dumped_at ds at).prints ≡ dumped_at ds at = λ i. record { bucket = b i; newest = n i; prints = (dumped_at ds at).prints } in
      subst (λ (d : Dumped). RestoreActs s r (λ reg k. settled (usable_at s r) h.class d true
      (hold_all (usable_at s r) s.shares h.class d (dumped_at ds at).prints (holding 0 reg k))) ws last v) e a

  -- ---- a class
  settled_is : (c : Class) (d : Dumped) (w : Bool) (x : Holding)
      → restoring ((settled (usable_at s r) c d true x).whole && w) (settled (usable_at s r) c d true x).register (settled (usable_at s r) c d true x).book
      ≡ settled (usable_at s r) c d w x
  unfolding settled
  settled_is c d w x = by_test x.fits (λ e. rw e) (λ e. rw e)

  more_is : (c : Class) (d : Dumped) (ds : List Dumped) (w : Bool) (reg : Register) (k : Book)
      → class_restored s r c ds ((one_restored s r c d reg k).whole && w) (one_restored s r c d reg k).register (one_restored s r c d reg k).book
      ≡ class_restored s r c (d ∷ ds) w reg k
  unfolding restore_class
  more_is c d ds w reg k =
      ap (λ (x : Restoring). restore_class (usable_at s r) s.shares c ds x)
      (settled_is c d w (hold_all (usable_at s r) s.shares c d d.prints (holding 0 reg k)))

  none_is : (c : Class) (w : Bool) (reg : Register) (k : Book) → class_restored s r c [] w reg k ≡ restoring w reg k
  unfolding restore_class
  none_is c w reg k = refl

  module _ (c : Class) (bs : List ℕ) (from : ℕ) (all : Bool) (before : List ℕ) where
    abbrev left_from : ℕ → ℕ → Bool → Register → Book → Restoring
    left_from at n w reg k = class_restored s r c (dumped_from (words_of bs) at n) w reg k

    pub record Walking (ws : List ℕ) (at n : ℕ) (w : Bool) : Type 0 where
      pub words : RunWords s ws
      pub walks : Walks bs at n (class_end (words_of bs) from)
      pub rest : Rest s r before ws (left_from at n w) (class_restored s r c (class_dumped (words_of bs) from) all)

    pub walking_start : (n : ℕ) → RunWords s before → ClassWalks bs from (class_end (words_of bs) from) → n ≡ get_or (words_of bs) from 0 → Walking before (from + 1) n all
    walking_start n w q e =
        let f = left_from (from + 1) n all in
        record {
          words = w;
          walks = rw e q.walks;
          rest = rest_start s r before f (class_restored s r c (class_dumped (words_of bs) from) all) (λ reg k. ap (λ (m : ℕ). left_from (from + 1) m all reg k) e);
        }

    pub walking_inside : (ws : List ℕ) (at n : ℕ) (w : Bool) → Walking ws at n w → 0 < n → next_at (words_of bs) at ≤ length bs / 8
    walking_inside ws at n w i l = (walk_next bs at n (class_end (words_of bs) from) i.walks l).inside

    pub walking_next : (ws last : List ℕ) (at n next : ℕ) (w v : Bool) → Walking ws at n w → 0 < n → next ≡ next_at (words_of bs) at → RunWords s last
        → RestoreActs s r (one_restored s r c (dumped_at (words_of bs) at)) ws last v → (m : ℕ) → m ≡ n - 1 → Walking last next m (v && w)
    walking_next ws last at n next w v i l e words a m is =
        let x = walk_next bs at n (class_end (words_of bs) from) i.walks l in
        let go = class_restored s r c (class_dumped (words_of bs) from) all in
        rw is (record {
          words = words;
          walks = rw e x.walks;
          rest = rest_step s r before ws last (left_from at n w) go (left_from next (n - 1) (v && w)) i.rest a
              (λ reg k q.
              let d = dumped_at (words_of bs) at in
              let o = one_restored s r c d reg k in
              ap (λ (m : ℕ). left_from m (n - 1) (v && w) o.register o.book) e
              ∙ ap (λ (b : Bool). left_from (next_at (words_of bs) at) (n - 1) (b && w) o.register o.book) q
              ∙ more_is c d (dumped_from (words_of bs) (next_at (words_of bs) at) (n - 1)) w reg k
              ∙ ap (λ (ds : List Dumped). class_restored s r c ds w reg k) (sym x.dumped));
        })

    pub walking_end : (ws : List ℕ) (at n : ℕ) (w : Bool) → Walking ws at n w → n ≤ 0
        → (at ≡ class_end (words_of bs) from) × RestoreActs s r (class_restored s r c (class_dumped (words_of bs) from) all) before ws w
    walking_end ws at n w i l =
        let z : n ≡ 0 = omega arith in
        let x = walk_done bs at n (class_end (words_of bs) from) i.walks z in
        let e : (reg : Register) (k : Book) → left_from at n w reg k ≡ restoring w reg k = λ reg k. ap (λ (ds : List Dumped). class_restored s r c ds w reg k) x.0 ∙ none_is c w reg k in (
          x.1,
          rest_end s r before ws (left_from at n w) (class_restored s r c (class_dumped (words_of bs) from) all) (λ y. y.register) (λ y. y.book) (λ y. y.whole) w i.rest
              (λ reg k. ap (λ (y : Restoring). y.register) (e reg k)) (λ reg k. ap (λ (y : Restoring). y.book) (e reg k)) (λ reg k. sym (ap (λ (y : Restoring). y.whole) (e reg k))),
        )

  -- ---- a dump
  -- the floor that a dump tells raises it as the dump's word does
  told_acts : (n : ℕ) (ws last : List ℕ) → Acts s r (λ reg k. raised_with (told_by n) reg) (λ reg k. k) (λ reg. silent) ws last (tt {0})
      → Acts s r (λ reg k. raised_to_dumped n reg) (λ reg k. k) (λ reg. silent) ws last (tt {0})
  unfolding told_by raised_to_dumped
  told_acts zero ws last a = a
  told_acts (suc n) ws last a = let e : suc n - 1 ≡ n = omega arith in rw (ne_eqb (suc n) 0 (λ z. omega (arith, z)), e) a

  pub dump_acts : (d : Dump) (ws a b e last : List ℕ) (x y z : Bool) → Acts s r (λ reg k. raised_with (told_by d.floor) reg) (λ reg k. k) (λ reg. silent) ws a (tt {0})
      → RestoreActs s r (class_restored s r Feeders d.classes.of_feeders true) a b x
      → RestoreActs s r (class_restored s r Peers d.classes.of_peers x) b e y
      → RestoreActs s r (class_restored s r Own d.classes.of_own y) e last z
      → RestoreActs s r (dump_restored s r d) ws last z
  unfolding restore
  dump_acts d ws a b e last x y z p q o w =
      let goal : Register → Book → Restoring = λ reg k. dump_restored s r d reg k in
      let c1 : Register → Book → Restoring = λ reg k. restore_class (usable_at s r) s.shares Own d.classes.of_own
      (restore_class (usable_at s r) s.shares Peers d.classes.of_peers (class_restored s r Feeders d.classes.of_feeders true reg k)) in
      let c2 : Register → Book → Restoring = λ reg k. restore_class (usable_at s r) s.shares Own d.classes.of_own (class_restored s r Peers d.classes.of_peers x reg k) in
      let c3 : Register → Book → Restoring = λ reg k. class_restored s r Own d.classes.of_own y reg k in
      let r0 : Rest s r ws ws goal goal = rest_start s r ws goal goal (λ reg k. refl) in
      let r1 : Rest s r ws a c1 goal = rest_step s r ws ws a goal goal c1 r0 (told_acts d.floor ws a p) (λ reg k t. refl) in
      let r2 : Rest s r ws b c2 goal = rest_step s r ws a b c1 goal c2 r1 q
      (λ reg k t.
      let m = class_restored s r Feeders d.classes.of_feeders true reg k in
      ap (λ (v : Bool). restore_class (usable_at s r) s.shares Own d.classes.of_own
      (restore_class (usable_at s r) s.shares Peers d.classes.of_peers (restoring v m.register m.book))) t) in
      let r3 : Rest s r ws e c3 goal = rest_step s r ws b e c2 goal c3 r2 o
      (λ reg k t.
      let m = class_restored s r Peers d.classes.of_peers x reg k in
      ap (λ (v : Bool). restore_class (usable_at s r) s.shares Own d.classes.of_own (restoring v m.register m.book)) t) in
      let end : Register → Book → Restoring = λ reg k. restoring z reg k in
      let r4 : Rest s r ws last end goal = rest_step s r ws e last c3 goal end r3 w
      (λ reg k t.
      let m = class_restored s r Own d.classes.of_own y reg k in
      ap (λ (v : Bool). restoring v m.register m.book) t) in
      rest_end s r ws last end goal (λ m. m.register) (λ m. m.book) (λ m. m.whole) z r4 (λ reg k. refl) (λ reg k. refl) (λ reg k. refl)

  -- ---- as the calls say it
  module _ (h : r < s.registers) (d : Dump) where
    pub restore_turns : (ws last : List ℕ) (v : Bool) → RestoreActs s r (dump_restored s r d) ws last v
        → StateTurns s (λ t. (restored s r t (Some d)).state) (restored_whole s r d) ws last v
    unfolding restored after_restored
    restore_turns ws last v a = acts_turns s r h ws last a

    abbrev resume_to : Option ℕ → Register → Book → Restoring
    resume_to p reg k = resume (usable_at s r) s.shares d p reg k

    resume_turns : (p : Option ℕ) (ws last : List ℕ) (v : Bool) → RestoreActs s r (resume_to p) ws last v
        → StateTurns s (λ t. (resumed s r t p (Some d)).state) (resumed_whole s r d p) ws last v
    unfolding resumed after_restored
    resume_turns p ws last v a = acts_turns s r h ws last a

    -- a proven floor raises it after
    proven_acts : (p : Option ℕ) (ws last : List ℕ) → Acts s r (λ reg k. raised_with p reg) (λ reg k. k) (λ reg. silent) ws last (tt {0})
        → Acts s r (λ reg k. raised_to_proven p reg) (λ reg k. k) (λ reg. silent) ws last (tt {0})
    unfolding raised_to_proven
    proven_acts None ws last a = a
    proven_acts (Some f) ws last a = a

    pub resume_raised : (proven : Option ℕ) (ws mid back last : List ℕ) (v : Bool)
        → Acts s r (λ reg k. floor_gone reg) (λ reg k. k) (λ reg. silent) ws mid (tt {0}) → RestoreActs s r (dump_restored s r d) mid back v
        → Acts s r (λ reg k. raised_with proven reg) (λ reg k. k) (λ reg. silent) back last (tt {0})
        → StateTurns s (λ t. (resumed s r t proven (Some d)).state) (resumed_whole s r d proven) ws last v
    unfolding resume
    resume_raised proven ws mid back last v a b f = resume_turns proven ws last v (record {
      does = λ t reg k n.
          let x = b.does t (floor_gone reg) k (a.does t reg k n).0 in
          let y = dump_restored s r d (floor_gone reg) k in
          (((proven_acts proven back last f).does t y.register y.book x.0).0, x.1);
    })
