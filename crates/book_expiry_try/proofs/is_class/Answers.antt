use mathlib.Core.Path.{sym, ◌∙◌}
use Rattle.book_expiry_try.proofs.Sound.{in_bounds, is_class}
use Rattle.runs.proofs.Cases.{no}
use Rattle.book_expiry_try.proofs.is_class.Goals as goal

pub returns-then-words-ne-WORDS : goal.returns-then-words-ne-WORDS
returns-then-words-ne-WORDS c = λ t. no (cc)

pub class_sound-requires : goal.class_sound-requires
class_sound-requires c = in_bounds _ c.if-words-ne-WORDS.false

pub returns : goal.returns
returns c = λ t. is_class _ c.if-words-ne-WORDS.false (sym c.class_sound.ensures ∙ t)
