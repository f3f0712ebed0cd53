-- "`resume` forgets the floor first, raises it to a proven one after, and on 7 puts it back."
-- After a resume that went through with a proven floor (flag 1), the floor that is told of its register is at least the proven one: of
-- any words, settings, register and bytes. (A refused one, on 7 too, alters nothing: specs/Refusals.)
use Rattle.std.specs.Prelude.{ℕ, ◌≡◌, true, List}
use Rattle.model.specs.Codes.{went_through}
use Rattle.model.specs.Calls.{Floor, Resume, On, reply, after}
use Rattle.model.specs.Floors.{AtLeast}

abbrev pub ResumeProves : Type 0
ResumeProves =
    (st ws : List ℕ) (r : ℕ) (bytes : List ℕ) (proven : ℕ) → went_through (reply st ws (On r (Resume bytes 1 proven))) ≡ true
    → AtLeast proven (reply st (after st ws (On r (Resume bytes 1 proven))) (On r Floor))
