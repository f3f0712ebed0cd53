-- Each turn and each end of the walk that reads the lengths.
use Prim.Native.Nat.{ℕ, ◌+◌, ◌-◌, ◌/◌, ◌<◌, ◌≤◌}
use native.Mathlib.Omega.{arith}
use mathlib.Core.Path.{◌≡◌, sym, ◌∙◌}
use mathlib.Core.List.{List}
use mathlib.Core.Bool.{cond}
use lib.Dec.{leb}
use lib.ListN.{length, get_or}
use borrow.Author.Tests.{le-leb, lt-leb}
use Rattle.std.specs.Prelude.{Option, None, Some}
use Rattle.runs.proofs.Cases.{by_test}
use Rattle.model.specs.Dump.{words_of, read_dump}
use Rattle.dump.specs.Walk.{next_at, end_from, class_end, peers_at, own_at, dump_end, lengths_of, Passes}
use Rattle.dump.proofs.Reading.{words_long}
use Rattle.dump.proofs.Walking.{end_next, end_after, class_after, words_read}

-- ---- pass_generations: at position `at`, with `left` generations to come
module _ (ws : List ℕ) (all from n at left : ℕ) (same : end_from ws at left ≡ end_from ws from n) (h : 0 < left) where
  pub pass_far : all < next_at ws at → all < end_from ws from n
  pass_far f = omega (arith, same, end_next ws at left h, end_after ws (next_at ws at) (left - 1))

  pub pass_on : (x : ℕ) → x ≡ next_at ws at → end_from ws x (left - 1) ≡ end_from ws from n
  pass_on x e = rw e (sym (end_next ws at left h) ∙ same)

pub pass_end : (ws : List ℕ) (from n at left : ℕ) → end_from ws at left ≡ end_from ws from n → left ≡ 0 → at ≡ end_from ws from n
unfolding end_from
pass_end ws from n at left same z = rw z at same

-- ---- pass_class
module _ (ws : List ℕ) (all from : ℕ) where
  pub class_far : all - from ≡ 0 → all < class_end ws from
  class_far h = omega (arith, class_after ws from)

  pub class_passed : (n m at : ℕ) (r : Option (Unit {0})) → n ≡ get_or ws from 0 → m ≡ from + 1 → Passes (end_from ws m n) all at r
      → Passes (class_end ws from) all at r
  unfolding class_end
  class_passed n m at r e f p = rw (e, f) at p

-- ---- read_lengths
pub lengths_are : (bs : List ℕ) → lengths_of (read_dump bs) ≡ cond (leb (dump_end (words_of bs)) (length bs / 8)) (Some (dump_end (words_of bs))) None
unfolding read_dump
lengths_are bs =
    let l = words_long (length bs / 8) bs in
    rw (words_read (words_of bs), l)
    (by_test (leb (dump_end (words_of bs)) (length bs / 8)) (λ b. rw b) (λ b. rw b))

module _ (bs : List ℕ) where
  cut_short : length bs / 8 < dump_end (words_of bs) → None ≡ lengths_of (read_dump bs)
  cut_short h = rw (lengths_are bs, lt-leb (dump_end (words_of bs)) (length bs / 8) h)

  pub cut_feeders : length bs / 8 < peers_at (words_of bs) → None ≡ lengths_of (read_dump bs)
  cut_feeders h = let ws = words_of bs in cut_short (omega (arith, class_after ws (peers_at ws), class_after ws (own_at ws)))

  module _ (peers : ℕ) (a : peers ≡ peers_at (words_of bs)) where
    pub cut_peers : length bs / 8 < class_end (words_of bs) peers → None ≡ lengths_of (read_dump bs)
    cut_peers h =
        let ws = words_of bs in
        let k : length bs / 8 < own_at ws = rw a at h in
        cut_short (omega (arith, class_after ws (own_at ws)))

    module _ (own : ℕ) (b : own ≡ class_end (words_of bs) peers) where
      own_is : own ≡ own_at (words_of bs)
      own_is = rw a at b

      pub cut_own : length bs / 8 < class_end (words_of bs) own → None ≡ lengths_of (read_dump bs)
      cut_own h = cut_short (rw own_is at h)

      pub lengths_read : (end : ℕ) → end ≡ class_end (words_of bs) own → end ≤ length bs / 8 → Some end ≡ lengths_of (read_dump bs)
      lengths_read end e h =
          let k : end ≡ dump_end (words_of bs) = rw own_is at e in
          rw (lengths_are bs, ← k, le-leb end (length bs / 8) h)
