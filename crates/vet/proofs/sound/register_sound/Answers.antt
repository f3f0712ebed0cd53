-- Its own words decide, or else its rings.
use native.Mathlib.Omega.{arith}
use mathlib.Core.Path.{refl, sym, ◌∙◌}
use Rattle.model.specs.RegisterWords.{heading_form, each_form, ring_form}
use Rattle.vet.proofs.Tests.{first_on}
use Rattle.vet.proofs.sound.register_sound.Goals as goal

pub returns-then-heading_sound : goal.returns-then-heading_sound
returns-then-heading_sound c =
    first_on (heading_form c.args.u) (each_form (λ _. ring_form c.args.u)) c.args.register.now 24 refl (let l = c.requires.1 in omega arith)
    (sym c.if-heading_sound.true ∙ c.heading_sound.ensures) _ c.rings_sound.ensures
