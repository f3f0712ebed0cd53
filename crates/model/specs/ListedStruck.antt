-- What a dump lists is struck once the dump is restored, for every list of calls after it on the same words, whatever the clock reads.
--
-- After a restore on a register that went through, Whole or Partly, no judge, take, judge_batch or take_batch on that register answers
-- New for a fingerprint that the dump lists (as read) and a stamp of its generation's bucket up to the generation's newest. Two things
-- end this, and nothing else: an opening that went through, and a resume on that register that went through. The words before the
-- restore are any words, and the bytes any that it does not refuse: they need not come from a dump. A generation that lists nothing
-- says nothing.
use Rattle.std.specs.Prelude.{ℕ, ◌≤◌, ◌≡◌, true, false, Some, List}
use Rattle.model.specs.declared.Class.{Class}
use Rattle.model.specs.declared.Usable.{Usable}
use Rattle.model.specs.declared.Verdict.TheVariants.{New}
use Rattle.model.specs.Answer.{Said}
use Rattle.model.specs.Settings.{settings_of, usable_at}
use Rattle.model.specs.Class.{pick}
use Rattle.model.specs.Generation.{as_read}
use Rattle.model.specs.Judge.{bucket_of}
use Rattle.model.specs.Dump.{Dumped, Dump, OneOf, read_dump}
use Rattle.model.specs.Codes.{went_through}
use Rattle.model.specs.Calls.{On, Restore, kind, reply, after}
use Rattle.model.specs.View.{Given, answered, words_after}
use Rattle.model.specs.Once.{Strike, asks_about, remade_among}

-- a ticket whose fingerprint the dump lists, in the class and generation named, under a stamp of that bucket up to its newest
pub record Listed (u : Usable) (d : Dump) (t : Strike) : Type 0 where
  pub class : Class
  pub generation : Dumped
  pub its : OneOf generation (pick class d.classes)
  pub print : ℕ
  pub listed : OneOf print generation.prints
  pub read : t.print ≡ as_read print
  pub bucket : bucket_of u t.stamp ≡ generation.bucket
  pub up_to : t.stamp ≤ generation.newest

-- the words that a restore leaves
abbrev pub restored_words : List ℕ → List ℕ → ℕ → List ℕ → List ℕ
restored_words st ws r bytes = after st ws (On r (Restore bytes))

-- THE PROMISE: a restore on the ticket's register went through and its dump lists the ticket, `between` are calls of which none remakes
-- the register, `later` is a judge, a take or one of their batch forms that asks about the ticket: then it does not answer New
abbrev pub ListedStruck : Type 0
ListedStruck =
    (st ws bytes : List ℕ) (d : Dump) (t : Strike) (between : List Given) (later : Given) → read_dump bytes ≡ Some d
    → went_through (reply st ws (On t.register (Restore bytes))) ≡ true → Listed (usable_at (settings_of st) t.register) d t
    → remade_among t.register (restored_words st ws t.register bytes) between ≡ false → asks_about (kind later.call) ≡ Some t
    → answered (words_after (restored_words st ws t.register bytes) between) later ≡ Said New → ⊥
