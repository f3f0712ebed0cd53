-- The places of a class one after the other, as chunks of its words: what a loop over them is left with.
use Prim.Native.Nat.{ℕ, suc, ◌+◌, ◌-◌, ◌/◌, ◌<◌, ◌≤◌}
use native.Mathlib.Nat.{add-div_left, div-eq_of_lt}
use native.Mathlib.Omega.{arith}
use mathlib.Core.Path.{◌≡◌, ◌∙◌}
use mathlib.Core.Bool.{true, ◌&&◌, cond}
use mathlib.Core.List.{List, [], ◌∷◌, ◌++◌}
use lib.ListN.{length, take, drop, length-append, length-drop}
use lib.Seq.{take_at, drop_at, take_all}
use borrow.Rule.Slice.PartMut.{mid_of}
use Rattle.runs.specs.Words.{zeros}
use Rattle.runs.specs.Combine.{read_up, test_up}
use Rattle.model.specs.declared.Class.{Class}
use Rattle.model.specs.declared.Shares.{Shares}
use Rattle.model.specs.Widths.{place_width}
use Rattle.model.specs.BookWords.{place_sound, used_place, read_place}
use Rattle.book_sound.specs.PlaceAt.{places_in, test_in}

-- the next place is x, and q is left
module _ (b : Shares) (c : Class) {size : ℕ} {r : List ℕ} (x q : List ℕ) (split : (r ≡ x ++ q) × (length x ≡ size)) (wide : size ≡ place_width b.pairs) where
  pub long : length x ≡ place_width b.pairs
  long = split.1 ∙ wide

  pub one_more : length r / place_width b.pairs ≡ suc (length q / place_width b.pairs)
  one_more =
      let d : (place_width b.pairs + length q) / place_width b.pairs ≡ length q / place_width b.pairs + 1 = add-div_left (length q) (omega arith) in
      rw (split.0, length-append, long) (omega arith)

  front : take (place_width b.pairs) (x ++ q) ≡ x
  front = take_at x q (place_width b.pairs) long

  behind : drop (place_width b.pairs) (x ++ q) ≡ q
  behind = drop_at x q (place_width b.pairs) long

  pub read_next : places_in b c r ≡ cond (used_place x) (read_place c x ∷ places_in b c q) []
  unfolding read_up
  read_next = rw (one_more, split.0, front, behind)

  pub test_next : test_in b c r ≡ cond (used_place x) (place_sound c b.pairs x && test_in b c q) (zeros r)
  unfolding test_up
  test_next = rw (one_more, split.0, front, behind)

  -- the words behind it, cut off by hand
  pub room_for : {width : ℕ} {later : List ℕ} → width ≡ place_width b.pairs → later ≡ r → width ≤ length later
  room_for e is = rw (is, split.0, length-append) (let l = long in omega arith)

  pub cut_off : {width : ℕ} {later : List ℕ} → width ≡ place_width b.pairs → later ≡ r → mid_of width (length later - width) later ≡ q
  cut_off {width} {later} e is =
      let l : take (length later - width) (drop width later) ≡ drop width later = take_all (length later - width) (drop width later) (rw length-drop (omega arith)) in
      l ∙ rw (e, is, split.0) behind

-- none is left
module _ (b : Shares) (c : Class) {size : ℕ} (r : List ℕ) (short : length r < size) (wide : size ≡ place_width b.pairs) where
  pub no_more : length r / place_width b.pairs ≡ 0
  no_more = div-eq_of_lt (omega arith)

  pub read_last : places_in b c r ≡ []
  unfolding read_up
  read_last = rw no_more

  pub test_last : test_in b c r ≡ true
  unfolding test_up
  test_last = rw no_more
