-- Refusal 1 is the settings' own, 2 and 3 are decided by the words.
use Rattle.vet.proofs.Entering.{unfit_exit, short_words, unsound_words, sound_words}
use Rattle.vet.proofs.vet.Goals as goal

pub returns-in_err-entry : goal.returns-in_err-entry
returns-in_err-entry c = unfit_exit _ _ _ _ c.from_residual.ensures.1 c.in_err-entry.ensures

pub returns-then-words-entry : goal.returns-then-words-entry
returns-then-words-entry c = short_words c.in_ok-entry.ensures _ c.if-words-entry.true

pub returns-then-not-words_sound : goal.returns-then-not-words_sound
returns-then-not-words_sound c = unsound_words c.in_ok-entry.ensures _ c.if-words-entry.false c.words_sound.ensures c.if-not-words_sound.true

pub returns : goal.returns
returns c = sound_words c.in_ok-entry.ensures _ c.if-words-entry.false c.words_sound.ensures c.if-not-words_sound.false
