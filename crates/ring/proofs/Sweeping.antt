-- A sweep over a ring: a position visited is the generation there swept, and the newest that went is what the sweep raises the
-- floor to.
use Prim.Native.Nat.{ℕ, zero, suc, ◌+◌, ◌-◌, ◌%◌, ◌<◌, ◌≤◌, max}
use native.Mathlib.Numerals.{add-one}
use native.Mathlib.Omega.{arith}
use mathlib.Core.Path.{◌≡◌, refl, ap, sym, subst, ◌∙◌}
use mathlib.Core.List.{List}
use lib.ListN.{length}
use lib.Dec.{eqb, ltb}
use borrow.Author.Tests.{ltb-true, ltb-false}
use Rattle.std.specs.Ordering.{nat_cmp, ord_max}
use Rattle.std.specs.Option.{option_cmp}
use lib.Seq.{set-get_or}
use Rattle.runs.proofs.Cases.{by_test}
use Rattle.model.specs.Numbers.{raise}
use Rattle.model.specs.Generation.{Generation, empty, dropped}
use Rattle.model.specs.Register.{Ring, generation_at, with_generation, passed, Swept, visit, visits, sweep_ring}
use Rattle.model.proofs.RingsKept.{visit_ok}
use Rattle.model.proofs.Peeked.{visit_passed, visit_left}
use Rattle.std.specs.Prelude.{Option, Some, None}
use Rattle.generation.specs.Rules.{swept_at, sweep_says}
use Rattle.ring.specs.Ring.{places, RingTurns, RingWords}
use Rattle.ring.specs.Sweep.{swept_ring, swept_says, raised_by}
use Rattle.ring.proofs.Positions.{placed, of_placed, turned}

-- ---- of two drops the newest, as the library's `max` has it
pub newest_is : (a b : Option ℕ) → ord_max (option_cmp nat_cmp) a b ≡ raised_by b a
unfolding raise
newest_is None None = refl
newest_is None (Some m) = refl
newest_is (Some n) None = refl
newest_is (Some n) (Some m) =
    by_test (ltb m n)
    (λ e. let h = ltb-true m n e in let k : n ≡ max n m = omega arith in rw e (ap Some k))
    (λ e.
    let h = ltb-false m n e in
    let k : m ≡ max n m = omega arith in
    by_test (eqb m n) (λ q. rw (e, q) (ap Some k)) (λ q. rw (e, q) (ap Some k)))

-- ---- one visit
module _ (through b : ℕ) (w : Swept) where
  abbrev there : Generation
  there = generation_at w.ring b

  visit_ring : with_generation w.ring b (swept_at through there) ≡ (visit through b w).ring
  visit_ring =
      by_test (passed through there) (λ e. rw (visit_passed through b w e, e))
      (λ e. rw (visit_left through b w e, e) (set-get_or w.ring (b % length w.ring) empty))

  visit_floor : raised_by (sweep_says through there) w.floor ≡ (visit through b w).floor
  visit_floor = by_test (passed through there) (λ e. rw (visit_passed through b w e, e)) (λ e. rw (visit_left through b w e, e))

  visit_fine : (S n : ℕ) → (places S n).Ok w.ring → (places S n).Ok (visit through b w).ring
  visit_fine S n ok = of_placed S n _ (visit_ok S n through b w (placed S n w.ring ok))

-- ---- the loop: of every ring that the words were at first, it stands on the way of that ring's sweep
pub record OnWay (S n from through : ℕ) (ring : Ring) (b : ℕ) (words : List ℕ) (so_far : Option ℕ) : Type 0 where
  pub at : Swept
  pub ok : (places S n).Ok at.ring
  pub are : words ≡ (places S n).enc at.ring
  pub says : so_far ≡ at.floor
  pub left : visits (through - b) through b at ≡ sweep_ring from through None ring

pub record Sweeps (S n from through : ℕ) (ws : List ℕ) (b : ℕ) (words : List ℕ) (so_far : Option ℕ) : Type 0 where
  pub good : RingWords S n words
  pub way : (ring : Ring) → (places S n).Ok ring → ws ≡ (places S n).enc ring → OnWay S n from through ring b words so_far

module _ (S n from through : ℕ) (ws : List ℕ) where
  pub sweep_start : RingWords S n ws → Sweeps S n from through ws from ws None
  unfolding sweep_ring
  sweep_start good = record {
    good = good;
    way = λ ring ok is. record { at = record { floor = None; ring = ring }; ok = ok; are = is; says = refl; left = refl };
  }

  module _ (b : ℕ) (words : List ℕ) (so_far : Option ℕ) (s : Sweeps S n from through ws b words so_far) where
    pub sweep_on : b < through → (last : List ℕ) (more : Option ℕ)
        → RingTurns S n (λ ring. with_generation ring b (swept_at through (generation_at ring b)))
        (λ ring. sweep_says through (generation_at ring b)) words last more
        → (next : Option ℕ) → next ≡ raised_by more so_far → Sweeps S n from through ws (b + 1) last next
    unfolding visits
    sweep_on h last more t next e =
        let v = s.good.is in
        let w : Swept = record { floor = None; ring = v.value } in
        let one : through - b ≡ suc (through - suc b) = omega arith in
        record {
          good = turned S n t s.good (rw (visit_ring through b w) (visit_fine through b w S n v.ok));
          way = λ ring ok is.
              let o = s.way ring ok is in
              let d = t.does o.at.ring o.ok o.are in
              record {
                at = visit through b o.at;
                ok = visit_fine through b o.at S n o.ok;
                are = d.0 ∙ ap (places S n).enc (visit_ring through b o.at);
                says = e ∙ rw (o.says, d.1) (visit_floor through b o.at);
                left = rw add-one (rw one at o.left);
              };
        }

    pub sweep_end : through ≤ b → RingWords S n words × RingTurns S n (swept_ring from through) (swept_says from through) ws words so_far
    unfolding visits
    sweep_end h = (
      s.good,
      record {
        does = λ ring ok is.
            let o = s.way ring ok is in
            let z : through - b ≡ 0 = omega arith in
            let q = rw z at o.left in
            (o.are ∙ ap (λ (x : Swept). (places S n).enc x.ring) q, o.says ∙ ap (λ (x : Swept). x.floor) q);
      },
    )

-- ---- a floor that is there already rises by what went, and the ring does not depend on it
raise_twice : (x floor : Option ℕ) (m : ℕ) → raised_by x (raise floor m) ≡ raised_by (raised_by x (Some m)) floor
unfolding raise
raise_twice None floor m = refl
raise_twice (Some k) None m = refl
raise_twice (Some k) (Some f) m = ap Some (omega arith)

-- two sweeps on, one from a floor and one from none
record Tied (f : Option ℕ) (x y : Swept) : Type 0 where
  ring : x.ring ≡ y.ring
  floor : x.floor ≡ raised_by y.floor f

tied : (k through b : ℕ) (f : Option ℕ) (x y x' y' : Swept) → visit through b x ≡ x' → visit through b y ≡ y'
    → Tied f (visits k through (suc b) x') (visits k through (suc b) y') → Tied f (visits (suc k) through b x) (visits (suc k) through b y)
unfolding visits
tied k through b f x y x' y' p q t =
    subst (λ (z : Swept). Tied f (visits k through (suc b) z) (visits k through (suc b) (visit through b y))) (sym p)
    (subst (λ (z : Swept). Tied f (visits k through (suc b) x') (visits k through (suc b) z)) (sym q) t)

visits_law : (k through b : ℕ) (f : Option ℕ) (r : Ring)
    → Tied f (visits k through b (record { floor = f; ring = r })) (visits k through b (record { floor = None; ring = r }))
unfolding visits raise
visits_law zero through b f r = record { ring = refl; floor = refl }
visits_law (suc k) through b f r =
    let g = generation_at r b in
    let after = with_generation r b (dropped g) in
    let from : Swept = record { floor = f; ring = r } in
    let bare : Swept = record { floor = None; ring = r } in
    let p = visits_law k through (suc b) (raise f g.newest) after in
    let q = visits_law k through (suc b) (Some g.newest) after in
    let x = (visits k through (suc b) (record { floor = None; ring = after })).floor in
    let went_on = p.floor ∙ raise_twice x f g.newest ∙ ap (λ (z : Option ℕ). raised_by z f) (sym q.floor) in
    by_test (passed through g)
    (λ e.
    tied k through b f from bare _ _ (visit_passed through b from e) (visit_passed through b bare e)
    (record { ring = p.ring ∙ sym q.ring; floor = went_on }))
    (λ e. tied k through b f from bare _ _ (visit_left through b from e) (visit_left through b bare e) (visits_law k through (suc b) f r))

pub sweep_floor : (from through : ℕ) (floor : Option ℕ) (ring : Ring)
    → ((sweep_ring from through floor ring).ring ≡ swept_ring from through ring)
    × ((sweep_ring from through floor ring).floor ≡ raised_by (swept_says from through ring) floor)
unfolding sweep_ring
sweep_floor from through floor ring = let t = visits_law (through - from) through from floor ring in (t.ring, t.floor)
