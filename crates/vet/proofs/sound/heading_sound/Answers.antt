-- The settings are compared as the code groups them, and the published sweep is computed.
use mathlib.Core.Path.{◌≡◌, refl, ◌∙◌}
use mathlib.Core.Bool.{Bool, true, false, ◌&&◌}
use Rattle.model.specs.RegisterWords.{heading_sound}
use Rattle.numbers.proofs.Readers.{usable_first}
use Rattle.vet.proofs.sound.heading_sound.Goals as goal

regrouped : (a b c d e f : Bool) → ((a && b) && ((c && d) && (e && f))) ≡ (a && (b && (c && (d && (e && f)))))
regrouped false b c d e f = refl
regrouped true false c d e f = refl
regrouped true true false d e f = refl
regrouped true true true d e f = refl

pub returns : goal.returns
unfolding heading_sound
returns c = let usable = c.usable_of.ensures ∙ usable_first c.args.heading.now in rw (c.eq-kept.ensures, usable, c.published-published.ensures, regrouped _ _ _ _ _ _)
