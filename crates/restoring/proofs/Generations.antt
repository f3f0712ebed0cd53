-- One generation: its fingerprints one after the other, its draws given back, and what is settled of it. Assumes nothing.
use Prim.Native.Nat.{ℕ, suc, ◌+◌, ◌-◌, ◌/◌, ◌<◌, ◌≤◌}
use native.Mathlib.Numerals.{add-one}
use native.Mathlib.Omega.{arith}
use mathlib.Core.Path.{◌≡◌, refl, sym, ap, subst, ◌∙◌}
use mathlib.Core.Bool.{Bool, true, false, not, cond}
use Rattle.std.specs.Prelude.{Result, Ok, Err}
use borrow.Author.Tests.{not-false}
use Rattle.runs.proofs.Cases.{split_if, no}
use Rattle.runs.specs.Turns.{silent}
use Rattle.model.proofs.Choice.{true_false}
use mathlib.Core.List.{List, [], ◌∷◌}
use lib.ListN.{length, get_or, take, drop}
use Rattle.model.specs.declared.Deliverer.{Deliverer}
use Rattle.model.specs.declared.Deliverer.TheVariants.{Restored}
use Rattle.model.specs.declared.Room.{Room}
use Rattle.model.specs.declared.Room.TheVariants.{At, Collides, Full as NoSlots}
use Rattle.model.specs.declared.Settings.{Settings}
use Rattle.model.specs.Settings.{usable_at}
use Rattle.model.specs.Book.{Book, undrawn}
use Rattle.model.specs.Register.{Register}
use Rattle.model.specs.Dump.{Dumped, Holding, Restoring, words_of, hold_room, hold_one, hold_all, undrawn_all, failed, settled}
use Rattle.register.specs.Rules.{failed_at}
use Rattle.dump.proofs.Walks.{prints_next, prints_end}
use Rattle.taking.specs.Words.{RunWords}
use Rattle.restoring.specs.declared.heads.Head.{Head}
use Rattle.restoring.specs.Words.{Now, Acts}
use Rattle.restoring.specs.Rules.{Suits, headed, room_in, fits_in, held_at, held_in, may_draw, drawn_if, holding, tally_of, HoldActs, AllOnes, one_held, all_held}
use Rattle.restoring.specs.Rules.{restoring, RestoreActs, generation_restored}
use Rattle.restoring.proofs.Steps.{Rest, rest_start, rest_step, rest_end}

-- ---- what a tally says of its fingerprints
tally_ok : (v : Result ℕ ℕ) (m n : ℕ) (fits : Bool) → v ≡ Ok m → v ≡ cond fits (Ok n) (Err n) → (true ≡ fits) × (m ≡ n)
tally_ok v m n true a b = (refl, cc)
tally_ok v m n false a b = no (cc)

tally_err : (v : Result ℕ ℕ) (m n : ℕ) (fits : Bool) → v ≡ Err m → v ≡ cond fits (Ok n) (Err n) → (false ≡ fits) × (m ≡ n)
tally_err v m n true a b = no (cc)
tally_err v m n false a b = (refl, cc)

module _ (s : Settings) (r : ℕ) (h : Head) where
  -- ---- one fingerprint
  module _ (suits : Suits s r h) (fp n : ℕ) where
    room_is : (ps : List ℕ) (reg : Register) (k new : Book) (m : Room)
        → hold_room h.class (headed h ps) fp (holding n reg k) new m ≡ record { register = held_at h fp reg m; book = new; draws = suc n; fits = fits_in m }
    unfolding hold_room held_at fits_in
    room_is ps reg k new (At i) = refl
    room_is ps reg k new Collides = refl
    room_is ps reg k new NoSlots = refl

    one_no : (ps : List ℕ) (reg : Register) (k : Book) → false ≡ may_draw s.shares h k
        → record { register = reg; book = drawn_if s.shares h k; draws = n; fits = false } ≡ one_held s r h ps fp n reg k
    unfolding hold_one
    one_no ps reg k e = rw (← suits.second, ← e)

    one_yes : (ps : List ℕ) (reg : Register) (k : Book) → true ≡ may_draw s.shares h k
        → record { register = held_in (usable_at s r) h fp reg; book = drawn_if s.shares h k; draws = n + 1; fits = fits_in (room_in (usable_at s r) h fp reg) } ≡ one_held s r h ps fp n reg k
    unfolding hold_one
    one_yes ps reg k e = rw (← suits.second, ← e, add-one) (sym (room_is ps reg k _ (room_in (usable_at s r) h fp reg)))

    pub one_refused : (ws last : List ℕ) (o : Bool) → o ≡ false → Acts s r (λ reg k. reg) (λ reg k. drawn_if s.shares h k) (λ reg k. may_draw s.shares h k) ws last o
        → AllOnes s r h fp n ws last (Err n)
    one_refused ws last o q a = record {
      acts = λ ps. record {
        does = λ t reg k now.
            let d = a.does t reg k now in
            subst (λ (x : Holding). Now s r t last x.register x.book × (Err n ≡ tally_of x)) (one_no ps reg k (sym q ∙ d.1)) (d.0, refl);
      };
    }

    pub one_drawn : (ws mid last : List ℕ) (v o : Bool) → o ≡ true → Acts s r (λ reg k. reg) (λ reg k. drawn_if s.shares h k) (λ reg k. may_draw s.shares h k) ws mid o
        → Acts s r (λ reg k. held_in (usable_at s r) h fp reg) (λ reg k. k) (λ reg k. fits_in (room_in (usable_at s r) h fp reg)) mid last v
        → (out : Result ℕ ℕ) → out ≡ cond v (Ok (n + 1)) (Err (n + 1)) → AllOnes s r h fp n ws last out
    one_drawn ws mid last v o q a b out is = record {
      acts = λ ps. record {
        does = λ t reg k now.
            let d = a.does t reg k now in
            let e = b.does t reg (drawn_if s.shares h k) d.0 in
            subst (λ (x : Holding). Now s r t last x.register x.book × (out ≡ tally_of x)) (one_yes ps reg k (sym q ∙ d.1))
            (e.0, is ∙ ap (λ (b : Bool). cond b (Ok (n + 1)) (Err (n + 1))) e.1);
      };
    }

  -- ---- all of them
  abbrev all_from : List ℕ → List ℕ → ℕ → Register → Book → Holding
  all_from ps left n reg k = hold_all (usable_at s r) s.shares h.class (headed h ps) left (holding n reg k)

  one_stopped : (d : Dumped) (fp : ℕ) (x : Holding) → x.fits ≡ false → hold_one (usable_at s r) s.shares h.class d fp x ≡ x
  unfolding hold_one
  one_stopped d fp x e = split_if (λ (y : Holding). y ≡ x) (not x.fits) (λ q. refl) (λ q. true_false (not-false x.fits q) e)

  stopped : (d : Dumped) (fps : List ℕ) (x : Holding) → x.fits ≡ false → hold_all (usable_at s r) s.shares h.class d fps x ≡ x
  unfolding hold_all
  stopped d [] x e = refl
  stopped d (fp ∷ fps) x e =
      ap (λ (y : Holding). hold_all (usable_at s r) s.shares h.class d fps y) (one_stopped d fp x e) ∙ stopped d fps x e

  next_is : (ps left : List ℕ) (fp n : ℕ) (reg : Register) (k : Book)
      → all_from ps (fp ∷ left) n reg k ≡ hold_all (usable_at s r) s.shares h.class (headed h ps) left (one_held s r h ps fp n reg k)
  unfolding hold_all
  next_is ps left fp n reg k = refl

  done_is : (ps : List ℕ) (n : ℕ) (reg : Register) (k : Book) → all_from ps [] n reg k ≡ holding n reg k
  unfolding hold_all
  done_is ps n reg k = refl

  module _ (bs : List ℕ) (at long : ℕ) (before : List ℕ) where
    abbrev prints : List ℕ
    prints = take long (drop at (words_of bs))

    pub record Holds (ws : List ℕ) (n j : ℕ) : Type 0 where
      pub words : RunWords s ws
      pub few : n ≤ j
      pub rest : Rest s r before ws (all_from prints (drop j prints) n) (all_held s r h prints)

    pub holds_next : (inside : at + long ≤ length bs / 8) (ws last : List ℕ) (n j fp m : ℕ) (v : Result ℕ ℕ) → Holds ws n j → j < long
        → fp ≡ get_or (words_of bs) (at + j) 0
        → RunWords s last → AllOnes s r h fp n ws last v → m ≤ n + 1 → v ≡ Ok m → Holds last m (j + 1)
    holds_next inside ws last n j fp m v i l f w done less fit = record {
      words = w;
      few = let m = i.few in omega arith;
      rest = rest_step s r before ws last (all_from prints (drop j prints) n) (all_held s r h prints) (all_from prints (drop (j + 1) prints) m) i.rest
          (done.acts prints)
          (λ reg k e.
          let x = one_held s r h prints fp n reg k in
          let p = tally_ok v m x.draws x.fits fit e in
          let y : holding m x.register x.book ≡ x = λ o. record { register = x.register; book = x.book; draws = p.1 o; fits = p.0 o } in
          let q : drop j prints ≡ fp ∷ drop (j + 1) prints = rw f (prints_next bs at long inside j l) in
          ap (λ (z : Holding). hold_all (usable_at s r) s.shares h.class (headed h prints) (drop (j + 1) prints) z) y
          ∙ sym (next_is prints (drop (j + 1) prints) fp n reg k)
          ∙ ap (λ (z : List ℕ). all_from prints z n reg k) (sym q));
    }

    pub holds_stop : (inside : at + long ≤ length bs / 8) (ws last : List ℕ) (n j fp m : ℕ) (v : Result ℕ ℕ) → Holds ws n j → j < long
        → fp ≡ get_or (words_of bs) (at + j) 0
        → AllOnes s r h fp n ws last v → v ≡ Err m → HoldActs s r (all_held s r h prints) before last (Err m)
    holds_stop inside ws last n j fp m v i l f done unfit =
        let stop : Register → Book → Holding = λ reg k. record { register = reg; book = k; draws = m; fits = false } in
        let rest : Rest s r before last stop (all_held s r h prints) = rest_step s r before ws last (all_from prints (drop j prints) n) (all_held s r h prints) stop i.rest
        (done.acts prints)
        (λ reg k e.
        let x = one_held s r h prints fp n reg k in
        let p = tally_err v m x.draws x.fits unfit e in
        let y : stop x.register x.book ≡ x = λ o. record { register = x.register; book = x.book; draws = p.1 o; fits = p.0 o } in
        let z : x.fits ≡ false = sym p.0 in
        let q : drop j prints ≡ fp ∷ drop (j + 1) prints = rw f (prints_next bs at long inside j l) in
        y ∙ sym (stopped (headed h prints) (drop (j + 1) prints) x z)
        ∙ sym (next_is prints (drop (j + 1) prints) fp n reg k)
        ∙ ap (λ (z : List ℕ). all_from prints z n reg k) (sym q)) in
        rest_end s r before last stop (all_held s r h prints) (λ x. x.register) (λ x. x.book) tally_of (Err m) rest (λ reg k. refl) (λ reg k. refl) (λ reg k. refl)

    pub holds_end : (inside : at + long ≤ length bs / 8) (ws : List ℕ) (n j : ℕ) → Holds ws n j → long ≤ j
        → HoldActs s r (all_held s r h prints) before ws (Ok n)
    holds_end inside ws n j i l =
        let q = prints_end bs at long inside j l in
        let e : (reg : Register) (k : Book) → all_from prints (drop j prints) n reg k ≡ holding n reg k = λ reg k. ap (λ (z : List ℕ). all_from prints z n reg k) q ∙ done_is prints n reg k in
        rest_end s r before ws (all_from prints (drop j prints) n) (all_held s r h prints) (λ x. x.register) (λ x. x.book) tally_of (Ok n) i.rest
        (λ reg k. ap (λ (z : Holding). z.register) (e reg k)) (λ reg k. ap (λ (z : Holding). z.book) (e reg k)) (λ reg k. sym (ap tally_of (e reg k)))

  -- ---- draws given back
  module _ (before : List ℕ) (all : ℕ) where
    abbrev back : ℕ → Register → Book → Restoring
    back n reg k = restoring true reg (undrawn_all n (Restored h.class) h.second.0 k)

    -- after j of them
    pub record Returns (ws : List ℕ) (j : ℕ) : Type 0 where
      pub words : RunWords s ws
      pub rest : Rest s r before ws (back (all - j)) (back all)

    pub returns_start : RunWords s before → Returns before 0
    returns_start w =
        let z : all - 0 ≡ all = omega arith in
        record { words = w; rest = rest_start s r before (back (all - 0)) (back all) (λ reg k. ap (λ (m : ℕ). back m reg k) z) }

    one_back : (n m : ℕ) (who : Deliverer) (sec : ℕ) (k : Book) → n ≡ suc m → undrawn_all m who sec (undrawn who sec k) ≡ undrawn_all n who sec k
    unfolding undrawn_all
    one_back n m who sec k e = rw e

    none_back : (who : Deliverer) (sec : ℕ) (k : Book) → undrawn_all 0 who sec k ≡ k
    unfolding undrawn_all
    none_back who sec k = refl

    pub returns_next : (ws last : List ℕ) (j : ℕ) → Returns ws j → j < all → RunWords s last
        → Acts s r (λ reg k. reg) (λ reg k. undrawn (Restored h.class) h.second.0 k) (λ reg. silent) ws last (tt {0}) → Returns last (j + 1)
    returns_next ws last j i l w a =
        let m : all - j ≡ suc (all - (j + 1)) = omega arith in
        record {
          words = w;
          rest = rest_step s r before ws last (back (all - j)) (back all) (back (all - (j + 1))) i.rest a
              (λ reg k e. ap (λ (z : Book). restoring true reg z) (one_back (all - j) (all - (j + 1)) (Restored h.class) h.second.0 k m));
        }

    pub returns_end : (ws : List ℕ) (j : ℕ) → Returns ws j → all ≤ j
        → Acts s r (λ reg k. reg) (λ reg k. undrawn_all all (Restored h.class) h.second.0 k) (λ reg. silent) before ws (tt {0})
    returns_end ws j i l =
        let z : all - j ≡ 0 = omega arith in
        rest_end s r before ws (back (all - j)) (back all) (λ x. x.register) (λ x. x.book) (λ x. tt {0}) (tt {0}) i.rest (λ reg k. refl)
        (λ reg k. rw z (none_back (Restored h.class) h.second.0 k)) (λ reg k. refl)

  -- ---- settled
  module _ (ps ws : List ℕ) where
    kept_is : (x : Holding) → x.fits ≡ true → restoring true x.register x.book ≡ settled (usable_at s r) h.class (headed h ps) true x
    unfolding settled
    kept_is x e = rw e

    failed_is : Suits s r h → (x : Holding) → x.fits ≡ false
        → restoring false (failed_at h.class h.bucket.0 h.newest x.register) (undrawn_all x.draws (Restored h.class) h.second.0 x.book)
        ≡ settled (usable_at s r) h.class (headed h ps) true x
    unfolding settled failed
    failed_is u x e = rw (e, u.second)

    pub generation_kept : (last : List ℕ) (n : ℕ) (v : Result ℕ ℕ) → HoldActs s r (all_held s r h ps) ws last v → v ≡ Ok n
        → RestoreActs s r (generation_restored s r h ps) ws last true
    generation_kept last n v a e = record {
      does = λ t reg k now.
          let d = a.does t reg k now in
          let x = all_held s r h ps reg k in
          subst (λ (z : Restoring). Now s r t last z.register z.book × (true ≡ z.whole)) (kept_is x (sym (tally_ok v n x.draws x.fits e d.1).0)) (d.0, refl);
    }

    pub generation_failed : (mid back last : List ℕ) (n : ℕ) (v : Result ℕ ℕ) → Suits s r h → HoldActs s r (all_held s r h ps) ws mid v → v ≡ Err n
        → Acts s r (λ reg k. reg) (λ reg k. undrawn_all n (Restored h.class) h.second.0 k) (λ reg. silent) mid back (tt {0})
        → Acts s r (λ reg k. failed_at h.class h.bucket.0 h.newest reg) (λ reg k. k) (λ reg. silent) back last (tt {0})
        → RestoreActs s r (generation_restored s r h ps) ws last false
    generation_failed mid back last n v u a e b f = record {
      does = λ t reg k now.
          let d = a.does t reg k now in
          let x = all_held s r h ps reg k in
          let p = tally_err v n x.draws x.fits e d.1 in
          let y = b.does t x.register x.book d.0 in
          let z = f.does t x.register (undrawn_all n (Restored h.class) h.second.0 x.book) y.0 in
          let w = subst (λ (i : ℕ). Now s r t last (failed_at h.class h.bucket.0 h.newest x.register)
          (undrawn_all i (Restored h.class) h.second.0 x.book)) p.1 z.0 in
          subst (λ (z : Restoring). Now s r t last z.register z.book × (false ≡ z.whole)) (failed_is u x (sym p.0)) (w, refl);
    }
