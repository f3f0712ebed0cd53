use mathlib.Core.Path.{sym, ◌∙◌}
use Rattle.ring.proofs.Positions.{sound_words}
use Rattle.ring_try.proofs.is_ring.Goals as goal

pub returns-then-words-eq-WORDS : goal.returns-then-words-eq-WORDS
returns-then-words-eq-WORDS c =
    let l = c.if-words-eq-WORDS.true in
    λ t. sound_words 4 3 c.args.words.now l (sym c.is_sound.ensures ∙ t)
