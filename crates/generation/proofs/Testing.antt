-- The soundness test of a generation's words, in the order in which the code makes it: each `return` is the test's value.
use Prim.Native.Nat.{ℕ, ◌-◌, ◌<◌, ◌≤◌}
use native.Mathlib.Omega.{arith}
use mathlib.Core.Path.{◌≡◌, ◌∙◌}
use mathlib.Core.Bool.{Bool, true, false, not}
use mathlib.Core.List.{List}
use lib.ListN.{length, get_or, take, drop, length-drop}
use lib.Seq.{take_all}
use borrow.Author.Tests.{eq-eqb, ne_eqb, le-leb, lt-leb, not-true, not-false}
use Rattle.runs.specs.Words.{zeros}
use Rattle.model.specs.Widths.{generation_head, generation_width}
use Rattle.model.specs.GenerationWords.{slots_sound, filled_sound, empty_sound, generation_sound}

module _ (n i : ℕ) (ws : List ℕ) where
  -- where the live slots end
  abbrev past : ℕ
  past = generation_width (get_or ws 0 0)

  -- more slots than the run has
  pub sound_long : length ws - generation_head < get_or ws 0 0 → false ≡ generation_sound n i ws
  unfolding generation_sound
  sound_long h = rw (lt-leb _ _ h)

  module _ (fits : get_or ws 0 0 ≤ length ws - generation_head) where
    rest : take (length ws - past) (drop past ws) ≡ drop past ws
    rest = take_all (length ws - past) (drop past ws) (rw length-drop (omega arith))

    -- slots past their number that are not 0
    pub sound_rest : {b : Bool} → not b ≡ true → b ≡ zeros (take (length ws - past) (drop past ws)) → false ≡ generation_sound n i ws
    unfolding generation_sound
    sound_rest {b} t z = let e = rw (not-true b t, rest) at z in rw (le-leb _ _ fits, ← e)

    module _ {b : Bool} (t : not b ≡ false) (z : b ≡ zeros (take (length ws - past) (drop past ws))) where
      clear : true ≡ zeros (drop past ws)
      clear = rw (not-false b t, rest) at z

      -- an oldest stamp past the newest
      pub sound_aged : get_or ws 2 0 < get_or ws 4 0 → false ≡ generation_sound n i ws
      unfolding generation_sound
      sound_aged h = rw (le-leb _ _ fits, ← clear, lt-leb _ _ h)

      module _ (aged : get_or ws 4 0 ≤ get_or ws 2 0) where
        -- no slots
        pub sound_empty : get_or ws 0 0 ≡ 0 → empty_sound (get_or ws 1 0) (get_or ws 2 0) ≡ generation_sound n i ws
        unfolding generation_sound
        sound_empty h = rw (le-leb _ _ fits, ← clear, le-leb _ _ aged, eq-eqb _ _ h)

        -- slots, whose numbers break a rule or keep all
        module _ (h : get_or ws 0 0 ≡ 0 → ⊥) {c : Bool} (f : c ≡ filled_sound n i (get_or ws 0 0) (get_or ws 1 0) (get_or ws 3 0)) where
          pub sound_not : not c ≡ true → false ≡ generation_sound n i ws
          unfolding generation_sound
          sound_not t = let e = rw (not-true c t) at f in rw (le-leb _ _ fits, ← clear, le-leb _ _ aged, ne_eqb _ _ h, ← e)

          pub sound_filled : not c ≡ false → {r : Bool}
              → r ≡ slots_sound (take (past - generation_head) (drop generation_head ws)) (get_or ws 1 0) → r ≡ generation_sound n i ws
          unfolding generation_sound
          sound_filled t s =
              let e = rw (not-false c t) at f in
              let m : past - generation_head ≡ get_or ws 0 0 = omega arith in
              s ∙ rw (le-leb _ _ fits, ← clear, le-leb _ _ aged, ne_eqb _ _ h, ← e, m)
