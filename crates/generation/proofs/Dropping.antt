-- A generation is dropped, by itself and by a sweep.
use Prim.Native.Nat.{ℕ, ◌+◌, ◌-◌, ◌<◌, ◌≤◌}
use native.Mathlib.Omega.{arith}
use mathlib.Core.Path.{◌≡◌, sym, ◌∙◌, ap}
use mathlib.Core.Bool.{not, ◌&&◌}
use mathlib.Core.List.{List, []}
use lib.ListN.{length, get_or, replicate, replicate-append-replicate}
use lib.Dec.{eqb, ltb}
use borrow.Author.Tests.{eq-eqb, ne_eqb, eqb-true, lt-ltb, le-ltb}
use Rattle.runs.specs.Words.{pad}
use Rattle.runs.proofs.Cases.{by_test}
use Rattle.runs.proofs.Words.{pad_fits}
use Rattle.model.specs.Widths.{generation_head, generation_width}
use Rattle.model.specs.Generation.{Generation, count, dropped}
use Rattle.model.specs.GenerationWords.{encode_generation, GenerationOk}
use Rattle.model.specs.Register.{passed}
use Rattle.model.proofs.Growth.{ok_ways}
use Rattle.model.proofs.GenerationWords.{rest_pad}
use Rattle.generation.specs.declared.Generation.{Generation as Leading}
use Rattle.std.specs.Prelude.{Option, Some, None}
use Rattle.std.specs.Bool.{then_some}
use Rattle.generation.specs.Rules.{drop_says, dropped_in, drop_in_says, swept_at, sweep_says}
use Rattle.generation.specs.Words.{Leads, led_by, GenerationReads, GenerationTurns}
use Rattle.generation.proofs.Looking.{lent_slots, with_lent, slots_part}

-- one that holds nothing is as it would be dropped
none_held : (S n i : ℕ) (g : Generation) → GenerationOk S n i g → count g.slots ≡ 0 → dropped g ≡ g
unfolding dropped
none_held S n i g ok z =
    ok_ways S n i g ok
    (λ e newest.
    let oldest : g.oldest ≡ 0 = let a = ok.aged in omega arith in
    λ j. record { bucket = g.bucket; oldest = sym oldest j; newest = sym newest j; slots = sym e j })
    (λ p some b c r. absurd (omega arith))

module _ (ws : List ℕ) (h : Leading) (leads : Leads ws h) where
  pub drops_nothing : h.held ≡ 0 → GenerationTurns dropped drop_says ws ws None
  drops_nothing z S n i = record {
    does = λ g ok is.
        let c : count g.slots ≡ 0 = sym (ap (λ (l : List ℕ). get_or l 1 0) is) ∙ sym leads.held ∙ z in
        (is ∙ sym (ap (encode_generation S) (none_held S n i g ok c)), rw (eq-eqb (count g.slots) 0 c));
  }

  pub drops_all : (h.held ≡ 0 → ⊥) → (ys : List ℕ) → ys ≡ replicate (length (lent_slots h.slots ws)) 0
      → (next : Leading) → next ≡ record { slots = 0; held = 0; newest = 0; bucket = h.bucket; oldest = 0 }
      → GenerationTurns dropped drop_says ws (led_by next (with_lent h.slots ws ys)) (Some h.newest)
  unfolding dropped count
  drops_all some ys y next x S n i = record {
    does = λ g ok is.
        let m = length g.slots in
        let fits = ok.fits in
        let live = slots_part S g fits ws is h.slots leads.slots in
        let k : generation_width h.slots - generation_head ≡ m = let l = ap (λ (l : List ℕ). get_or l 0 0) is in let e = leads.slots in omega arith in
        let held : count g.slots ≡ 0 → ⊥ = λ z. some (leads.held ∙ ap (λ (l : List ℕ). get_or l 1 0) is ∙ z) in
        let s : m + (S - m) ≡ S = omega arith in
        let o : S - 0 ≡ S = omega arith in
        let all : pad S [] ≡ replicate S 0 = rw (pad_fits S [] (omega arith), o) in (
          rw (x, leads.bucket, y, live, k, is, rest_pad S g fits, replicate-append-replicate, s, all),
          rw (ne_eqb (count g.slots) 0 held, leads.newest, is),
        );
  }

module _ (ws : List ℕ) (b : ℕ) where
  pub bucket_drops : (last : List ℕ) (r : Option ℕ) → get_or ws 3 0 ≡ b → GenerationTurns dropped drop_says ws last r
      → GenerationTurns (dropped_in b) (drop_in_says b) ws last r
  bucket_drops last r h t S n i = record {
    does = λ g ok is.
        let q = (t S n i).does g ok is in
        let e = eq-eqb g.bucket b (rw is at h) in
        (rw e q.0, rw e q.1);
  }

module _ (ws : List ℕ) (through : ℕ) where
  -- a drop is what a sweep does where the bucket is passed, since what holds nothing stays as it is
  pub sweep_drops : (last : List ℕ) (r : Option ℕ) → get_or ws 3 0 < through → GenerationTurns dropped drop_says ws last r
      → GenerationTurns (swept_at through) (sweep_says through) ws last r
  unfolding passed
  sweep_drops last r h t S n i = record {
    does = λ g ok is.
        let q = (t S n i).does g ok is in
        let p = lt-ltb g.bucket through (rw is at h) in
        by_test (eqb (count g.slots) 0)
        (λ e.
        let d = none_held S n i g ok (eqb-true (count g.slots) 0 e) in
        (rw (p, e) (q.0 ∙ ap (encode_generation S) d), q.1 ∙ rw (p, e)))
        (λ e. (rw (p, e) q.0, q.1 ∙ rw (p, e)));
  }

  pub sweep_leaves : through ≤ get_or ws 3 0 → GenerationTurns (swept_at through) (sweep_says through) ws ws None
  unfolding passed
  sweep_leaves h S n i = record {
    does = λ g ok is. let p = le-ltb g.bucket through (rw is at h) in (rw p is, rw p);
  }

-- with nothing dropped: the test of the words that lead is the test of the generation
module _ (ws : List ℕ) (through : ℕ) (h : Leading) (leads : Leads ws h) where
  passed_is : (S : ℕ) (g : Generation) → ws ≡ encode_generation S g → (ltb h.bucket through && not (eqb h.held 0)) ≡ passed through g
  unfolding passed
  passed_is S g is = rw (leads.bucket, leads.held, is)

  pub passed_told : (r : Option ℕ) → r ≡ then_some (ltb h.bucket through && not (eqb h.held 0)) h.newest
      → GenerationReads (λ S. sweep_says through) ws r
  passed_told r e S n i = record {
    says = λ g ok is.
        let k = passed_is S g is in
        let m : h.newest ≡ g.newest = leads.newest ∙ ap (λ (l : List ℕ). get_or l 2 0) is in
        e ∙ by_test (passed through g) (λ t. rw (k, t, m)) (λ t. rw (k, t));
  }
