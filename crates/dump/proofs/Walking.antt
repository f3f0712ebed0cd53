-- The walk by positions is the model's reading: a dump is whole exactly when the position after it lies within the words, and
-- then what it holds is what lies at the positions. And what each step of a walk comes to.
use Prim.Native.Nat.{ℕ, zero, suc, ◌+◌, ◌-◌, ◌*◌, ◌<◌, ◌≤◌}
use native.Mathlib.Omega.{arith}
use mathlib.Core.Path.{◌≡◌, refl, ap, sym, ◌∙◌}
use mathlib.Core.Bool.{cond}
use mathlib.Core.List.{List, [], ◌∷◌}
use Rattle.std.specs.Prelude.{SomeIff, Option, Some, None}
use lib.Dec.{leb}
use lib.ListN.{length, get_or, take, drop, length-drop, drop_of_length-le}
use lib.Seq.{drop-cons, drop-drop}
use borrow.Author.Tests.{le-leb, lt-leb, leb-true, leb-false, ne_eqb}
use Rattle.runs.proofs.Cases.{by_test}
use Rattle.runs.proofs.Firsts.{firsts_are}
use Rattle.model.specs.Dump.{Dumped, Cut, found_first, read_generations, read_class, read_own, read_peers, read_feeders, read_words}
use Rattle.model.proofs.DumpRead.{read_none}
use Rattle.dump.specs.Walk.{told_by, length_at, dumped_at, next_at, dumped_from, end_from, class_dumped, class_end, peers_at, own_at, dump_end, dump_at}

-- ---- the floor that the first word tells, as one is taken from it
pub told_is : (n : ℕ) (r : Option ℕ) → SomeIff r (1 ≤ n) (n - 1) → r ≡ told_by n
unfolding told_by
told_is zero None h = refl
told_is zero (Some f) h = let l = h.0 in absurd (omega arith)
told_is (suc n) None h = absurd (h (omega arith))
told_is (suc n) (Some f) h = let t = h.1 in let e : f ≡ n = omega (arith, t) in ap Some e

-- ---- one step
pub end_next : (ws : List ℕ) (p n : ℕ) → 0 < n → end_from ws p n ≡ end_from ws (next_at ws p) (n - 1)
unfolding end_from
end_next ws p zero h = absurd (omega arith)
end_next ws p (suc n) h = let e : suc n - 1 ≡ n = omega arith in rw e

pub dumped_next : (ws : List ℕ) (p n : ℕ) → 0 < n → dumped_from ws p n ≡ dumped_at ws p ∷ dumped_from ws (next_at ws p) (n - 1)
unfolding dumped_from
dumped_next ws p zero h = absurd (omega arith)
dumped_next ws p (suc n) h = let e : suc n - 1 ≡ n = omega arith in rw e

-- a generation has three words at least
pub end_after : (ws : List ℕ) (p n : ℕ) → p + 3 * n ≤ end_from ws p n
unfolding end_from
end_after ws p zero = omega arith
end_after ws p (suc n) = omega (arith, end_after ws (next_at ws p) n)

pub class_after : (ws : List ℕ) (p : ℕ) → p < class_end ws p
unfolding class_end
class_after ws p = omega (arith, end_after ws (p + 1) (get_or ws p 0))

-- ---- generations, as the model reads them
-- what the model says of words that hold all up to position e, or do not
abbrev cut_at : List ℕ → List Dumped → ℕ → Option Cut
cut_at ws ds e = cond (leb e (length ws)) (Some (record { found = ds; rest = drop e ws })) None

cut_here : (ws : List ℕ) (ds : List Dumped) (e : ℕ) → e ≤ length ws → cut_at ws ds e ≡ Some (record { found = ds; rest = drop e ws })
cut_here ws ds e h = rw (le-leb e (length ws) h)

cut_far : (ws : List ℕ) (ds : List Dumped) (e : ℕ) → length ws < e → cut_at ws ds e ≡ None
cut_far ws ds e h = rw (lt-leb e (length ws) h)

read_few : (most n : ℕ) (us : List ℕ) → length us < 3 → read_generations most (suc n) us ≡ None
unfolding read_generations
read_few zero n us h = rw (ne_eqb (suc n) 0 (λ z. omega arith))
read_few (suc most) n [] h = rw (ne_eqb (suc n) 0 (λ z. omega arith))
read_few (suc most) n (b ∷ []) h = rw (ne_eqb (suc n) 0 (λ z. omega arith))
read_few (suc most) n (b ∷ t ∷ []) h = rw (ne_eqb (suc n) 0 (λ z. omega arith))
read_few (suc most) n (b ∷ t ∷ l ∷ us) h = absurd (omega arith)

first_at : (ws : List ℕ) (d : Dumped) (ds : List Dumped) (e : ℕ) → found_first d (cut_at ws ds e) ≡ cut_at ws (d ∷ ds) e
unfolding found_first
first_at ws d ds e = by_test (leb e (length ws)) (λ b. rw b) (λ b. rw b)

-- one generation of which the three words that lead are there
read_cons : (most n b t l : ℕ) (us : List ℕ) → read_generations (suc most) (suc n) (b ∷ t ∷ l ∷ us)
    ≡ cond (leb l (length us)) (found_first (record { bucket = b; newest = t; prints = take l us }) (read_generations most n (drop l us))) None
unfolding read_generations
read_cons most n b t l us = let less : suc n - 1 ≡ n = omega arith in rw (ne_eqb (suc n) 0 (λ z. omega arith), less)

lead_at : (ws : List ℕ) (p : ℕ) → p + 3 ≤ length ws
    → drop p ws ≡ get_or ws p 0 ∷ get_or ws (p + 1) 0 ∷ get_or ws (p + 2) 0 ∷ drop (p + 3) ws
lead_at ws p h =
    let k1 : p + 1 ≡ suc p = omega arith in
    let k2 : p + 2 ≡ suc (suc p) = omega arith in
    rw (k1, k2) (firsts_are 3 p ws h)

fits_from : (ws : List ℕ) (p l : ℕ) → p ≤ length ws → leb l (length (drop p ws)) ≡ leb (p + l) (length ws)
fits_from ws p l h =
    rw (length-drop p ws)
    (by_test (leb (p + l) (length ws)) (λ b. let q = leb-true (p + l) (length ws) b in rw b (le-leb l (length ws - p) (omega arith)))
    (λ b. let q = leb-false (p + l) (length ws) b in rw b (lt-leb l (length ws - p) (omega arith))))

read_step : (ws : List ℕ) (most n p : ℕ) → p + 3 ≤ length ws
    → read_generations (suc most) (suc n) (drop p ws)
    ≡ cond (leb (next_at ws p) (length ws)) (found_first (dumped_at ws p) (read_generations most n (drop (next_at ws p) ws))) None
read_step ws most n p h =
    rw (lead_at ws p h, read_cons most n (get_or ws p 0) (get_or ws (p + 1) 0) (length_at ws p) (drop (p + 3) ws), fits_from ws (p + 3) (length_at ws p) h, drop-drop (length_at ws p) (p + 3) ws)

-- all of them
walk_reads : (most n : ℕ) (ws : List ℕ) (p : ℕ) → p ≤ length ws → length ws ≤ p + most
    → read_generations most n (drop p ws) ≡ cut_at ws (dumped_from ws p n) (end_from ws p n)
unfolding end_from dumped_from
walk_reads most zero ws p h k = read_none most (drop p ws) ∙ sym (cut_here ws [] p h)
walk_reads zero (suc n) ws p h k =
    read_few zero n (drop p ws) (rw length-drop (omega arith))
    ∙ sym (cut_far ws (dumped_from ws p (suc n)) (end_from ws p (suc n)) (omega (arith, end_after ws p (suc n))))
walk_reads (suc most) (suc n) ws p h k =
    by_test (leb (p + 3) (length ws))
    (λ b.
    let q = leb-true (p + 3) (length ws) b in
    read_step ws most n p q
    ∙ by_test (leb (next_at ws p) (length ws))
    (λ t.
    let r = leb-true (next_at ws p) (length ws) t in
    rw t (ap (found_first (dumped_at ws p)) (walk_reads most n ws (next_at ws p) r (omega arith)) ∙ first_at ws (dumped_at ws p) (dumped_from ws (next_at ws p) n) (end_from ws (next_at ws p) n)))
    (λ t.
    let r = leb-false (next_at ws p) (length ws) t in
    rw t (sym (cut_far ws (dumped_from ws p (suc n)) (end_from ws p (suc n)) (omega (arith, end_after ws (next_at ws p) n))))))
    (λ b.
    let q = leb-false (p + 3) (length ws) b in
    read_few (suc most) n (drop p ws) (rw length-drop (omega arith))
    ∙ sym (cut_far ws (dumped_from ws p (suc n)) (end_from ws p (suc n)) (omega (arith, end_after ws p (suc n)))))

-- ---- a class
class_reads : (ws : List ℕ) (p : ℕ) → read_class (drop p ws) ≡ cut_at ws (class_dumped ws p) (class_end ws p)
unfolding read_class class_end
class_reads ws p =
    by_test (leb (p + 1) (length ws))
    (λ b.
    let q = leb-true (p + 1) (length ws) b in
    let k : p + 1 ≡ suc p = omega arith in
    let l = length-drop (p + 1) ws in
    rw (drop-cons ws p 0 (omega arith), ← k) (walk_reads (length (drop (p + 1) ws)) (get_or ws p 0) ws (p + 1) q (omega arith)))
    (λ b.
    let q = leb-false (p + 1) (length ws) b in
    rw (drop_of_length-le ws {i = p} (omega arith))
    (sym (cut_far ws (class_dumped ws p) (class_end ws p) (omega (arith, class_after ws p)))))

-- ---- the whole, from its last class to its first
module _ (ws : List ℕ) (f : ℕ) where
  own_reads : (a b : List Dumped) (p : ℕ) → read_own f (length ws) a b (read_class (drop p ws))
      ≡ cond (leb (class_end ws p) (length ws))
      (Some (record { floor = f; classes = record { of_feeders = a; of_peers = b; of_own = class_dumped ws p }; words = class_end ws p })) None
  unfolding read_own
  own_reads a b p =
      by_test (leb (class_end ws p) (length ws))
      (λ t.
      let q = leb-true (class_end ws p) (length ws) t in
      let l = length-drop (class_end ws p) ws in
      let e : length ws - length (drop (class_end ws p) ws) ≡ class_end ws p = omega arith in
      rw (class_reads ws p, t, e))
      (λ t. rw (class_reads ws p, t))

  peers_reads : (a : List Dumped) (p : ℕ) → read_peers f (length ws) a (read_class (drop p ws))
      ≡ read_own f (length ws) a (class_dumped ws p) (read_class (drop (class_end ws p) ws))
  unfolding read_peers
  peers_reads a p =
      by_test (leb (class_end ws p) (length ws)) (λ t. rw (class_reads ws p, t))
      (λ t.
      let q = leb-false (class_end ws p) (length ws) t in
      let far = lt-leb (class_end ws (class_end ws p)) (length ws) (omega (arith, class_after ws (class_end ws p))) in
      rw (class_reads ws p, t) (sym (rw far at (own_reads a (class_dumped ws p) (class_end ws p)))))

  feeders_reads : (p : ℕ) → read_feeders f (length ws) (read_class (drop p ws))
      ≡ read_peers f (length ws) (class_dumped ws p) (read_class (drop (class_end ws p) ws))
  unfolding read_feeders
  feeders_reads p =
      by_test (leb (class_end ws p) (length ws)) (λ t. rw (class_reads ws p, t))
      (λ t.
      let q = leb-false (class_end ws p) (length ws) t in
      let e = class_end ws (class_end ws p) in
      let far = lt-leb (class_end ws e) (length ws) (omega (arith, class_after ws (class_end ws p), class_after ws e)) in
      let a = class_dumped ws p in
      let b = class_dumped ws (class_end ws p) in
      rw (class_reads ws p, t) (sym (peers_reads a (class_end ws p) ∙ (rw far at (own_reads a b e)))))

pub words_read : (ws : List ℕ) → read_words ws ≡ cond (leb (dump_end ws) (length ws)) (Some (dump_at ws)) None
unfolding read_words
words_read [] = rw (lt-leb (dump_end []) 0 (omega (arith, class_after [] (own_at []))))
words_read (f ∷ us) =
    let ws = f ∷ us in
    feeders_reads ws f 1 ∙ peers_reads ws f (class_dumped ws 1) (peers_at ws)
    ∙ own_reads ws f (class_dumped ws 1) (class_dumped ws (peers_at ws)) (own_at ws)
